-- The first rule that fits, found among rules, be they a list or octets.
-- Assumes nothing.
use Rattle.std.specs.Prelude.{ℤ, Option as Optional, Some, None, map}
use Rattle.std.specs.List.{find}
use Rattle.std.specs.Option.{option_map}
use Rattle.std.specs.Simd.{first_chunks}
use Rattle.std.proofs.lemmas.List.{get_or-take}
use Prim.Native.Nat.{ℕ, zero, suc, ◌+◌, ◌*◌, ◌<◌, ◌≤◌}
use native.Mathlib.Omega.{arith}
use mathlib.Core.Path.{◌≡◌, refl, sym, ap, ◌∙◌}
use mathlib.Core.Bool.{Bool, true, false, cond}
use mathlib.Core.List.{List, [], ◌∷◌}
use lib.ListN.{length, take, drop, get_or}
use lib.Seq.{drop-cons, take-length}
use denote.Ref.{Bor}
use Rattle.base.specs.Number.{number_from}
use Rattle.element.proofs.Local.{take_inner}
use Rattle.steering.specs.declared.{Rule.Rule}
use Rattle.steering.specs.Steering.{rule_fits, first_fit}
use Rattle.steering.specs.Layout.{rule_size, rule_of, rules_from}

-- four octets as a number
module _ (l : List ℕ) where
  octet_step : (k j : ℕ) → j ≡ suc k → k < length l → drop k l ≡ get_or l k 0 ∷ drop j l
  octet_step k j e h = rw e (drop-cons l k 0 h)

  four_octets : (k : ℕ) → k + 4 ≤ length l → take 4 (drop k l) ≡ get_or l k 0 ∷ get_or l (k + 1) 0 ∷ get_or l (k + 2) 0 ∷ get_or l (k + 3) 0 ∷ []
  four_octets k h =
      rw (octet_step k (k + 1) (omega arith) (omega arith), octet_step (k + 1) (k + 2) (omega arith) (omega arith), octet_step (k + 2) (k + 3) (omega arith) (omega arith), octet_step (k + 3) (k + 4) (omega arith) (omega arith))

  pub number_four : (k : ℕ) → k + 4 ≤ length l → get_or l k 0 * 16777216 + get_or l (k + 1) 0 * 65536 + get_or l (k + 2) 0 * 256 + get_or l (k + 3) 0 ≡ number_from 0 (take 4 (drop k l))
  unfolding number_from
  number_four k h = sym (ap (number_from 0) (four_octets k h) ∙ omega arith)

  pub number_all : length l ≡ 4 → get_or l 0 0 * 16777216 + get_or l 1 0 * 65536 + get_or l 2 0 * 256 + get_or l 3 0 ≡ number_from 0 l
  number_all e = number_four 0 (omega arith) ∙ ap (number_from 0) (ap (λ (k : ℕ). take k l) (sym e) ∙ take-length l)

-- the first rule that fits, found in a list of what holds the rules
module _ (tag : ℕ) (first : Optional ℤ) {A : Type 0} (v : A → Rule) where
  pub fit_found : (xs : List A) → option_map (λ (x : A). (v x).link) (find (λ (x : A). rule_fits (v x) tag first) xs) ≡ first_fit (map v xs) tag first
  unfolding first_fit
  fit_found [] = refl
  fit_found (x ∷ xs) = by_test (fit_found xs) (rule_fits (v x) tag first) refl
    where
      by_test : option_map (λ (x : A). (v x).link) (find (λ (x : A). rule_fits (v x) tag first) xs) ≡ first_fit (map v xs) tag first → (b : Bool) → rule_fits (v x) tag first ≡ b → option_map (λ (x : A). (v x).link) (cond (rule_fits (v x) tag first) (Some x) (find (λ (x : A). rule_fits (v x) tag first) xs)) ≡ cond (rule_fits (v x) tag first) (Some (v x).link) (first_fit (map v xs) tag first)
      by_test rest true e = rw e
      by_test rest false e = rw e rest

  -- by the reference that is found
  pub fit_lent : (r : Optional (Bor A)) {n : Optional ℕ} (xs : List A) → n ≡ option_map (λ (y : Bor A). (v y.now).link) r → option_map (λ (y : Bor A). y.now) r ≡ find (λ (x : A). rule_fits (v x) tag first) xs → n ≡ first_fit (map v xs) tag first
  fit_lent r xs e f = e ∙ twice r ∙ ap (option_map (λ (x : A). (v x).link)) f ∙ fit_found xs
    where
      twice : (r : Optional (Bor A)) → option_map (λ (y : Bor A). (v y.now).link) r ≡ option_map (λ (x : A). (v x).link) (option_map (λ (y : Bor A). y.now) r)
      twice None = refl
      twice (Some y) = refl

-- the rules of octets are those of their twelves: a rule is told by its 12 octets
rule_kept : (o : List ℕ) → rule_of (take rule_size o) ≡ rule_of o
unfolding rule_of
rule_kept o =
    let n : (k : ℕ) → k + 4 ≤ rule_size → take 4 (drop k (take rule_size o)) ≡ take 4 (drop k o) = λ k h. take_inner k 4 rule_size o h in
    rw (get_or-take rule_size o 0 0 (omega arith), get_or-take rule_size o 1 0 (omega arith), n 4 (omega arith), n 8 (omega arith))

pub rules_twelves : (n : ℕ) (o : List ℕ) → map rule_of (first_chunks rule_size n o) ≡ rules_from n o
unfolding rules_from
rules_twelves zero o = refl
rules_twelves (suc n) o = rw (rule_kept o, rules_twelves n (drop rule_size o))
