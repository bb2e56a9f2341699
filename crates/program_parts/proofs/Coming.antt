-- What an input that is read until the buffer is full gave, where its octets are known. Assumes nothing.
use Rattle.std.proofs.Common.{◌≡◌, ℕ, ◌<◌, ◌≤◌, List, ◌++◌, None, Some, arith, length, take, drop, sym, ap, ◌∙◌, length-append, take_all, append-nil, length-take-le, inl, inr}
use Rattle.std.proofs.lemmas.Bool.{cases_lt}
use Rattle.std.proofs.lemmas.Option.{same_Some}
use Rattle.std.specs.declared.option.Option.{Option}
use lib.Seq.{take-append_seam, drop-append_seam}
use Rattle.std.specs.Io.KnownBytes.{Consumes, IsAtEnd}
use Rattle.std.proofs.KnownBytes.{Consumes-trans}
use Rattle.program_parts.specs.Strings.{Loses}

pub append_split : (xs ys zs ws : List ℕ) → xs ++ ys ≡ zs ++ ws → length xs ≡ length zs → (xs ≡ zs) × (ys ≡ ws)
append_split xs ys zs ws e h = (
  sym (take-append_seam xs ys) ∙ ap (take (length xs)) e ∙ ap (λ n. take n (zs ++ ws)) h ∙ take-append_seam zs ws,
  sym (drop-append_seam xs ys) ∙ ap (drop (length xs)) e ∙ ap (λ n. drop n (zs ++ ws)) h ∙ drop-append_seam zs ws,
)

-- a buffer that was read full holds what came
pub whole : (a b : Option (List ℕ)) (n : ℕ) (new s : List ℕ) → n ≤ length new → length new ≡ length s → Consumes a b (take n new) → (n < length new → IsAtEnd b) → (t : List ℕ) → a ≡ Some (s ++ t) → (n ≡ length s) × (new ≡ s) × (b ≡ Some t)
whole None b n new s l h c e t q = absurd cc
whole (Some x) None n new s l h c e t q = absurd c
whole (Some x) (Some y) n new s l h c e t q =
    let joined : take n new ++ y ≡ s ++ t = sym c ∙ same_Some x (s ++ t) q in
    elim (cases_lt n (length new)) [
      | inl k ↦ absurd (omega (arith, k, h, length-take-le n new l, ap length (sym (append-nil (take n new)) ∙ ap (λ z. take n new ++ z) (sym (e k)) ∙ joined), length-append s t))
      | inr k ↦
          let whole_new : take n new ≡ new = take_all n new k in
          let (same, rest) = append_split new y s t (ap (λ z. z ++ y) (sym whole_new) ∙ joined) h in
          (omega (arith, l, k, h), same, ap Some rest)
    ]

-- what an input lost in two steps
pub loses_after : (a b c : Option (List ℕ)) (s : List ℕ) → Consumes a b s → Loses b c → Loses a c
loses_after a b c s p (t, q) = (s ++ t, Consumes-trans a b c s t p q)

pub loses_then : (a b c : Option (List ℕ)) → Loses a b → Loses b c → Loses a c
loses_then a b c (s, p) q = loses_after a b c s p q
