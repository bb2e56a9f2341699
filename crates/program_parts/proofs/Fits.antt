-- What listing answered, by its variant: a length is the text's, which then stands at the front of the buffer. Assumes nothing.
use Rattle.std.specs.Prelude.{Option as Optional, Some, None, unwrap_or}
use Prim.Native.Nat.{ℕ, ◌+◌, ◌<◌, ◌≤◌}
use native.Mathlib.Omega.{arith}
use mathlib.Core.Path.{◌≡◌, refl, sym, ◌∙◌, ap, subst}
use mathlib.Core.Bool.{cond}
use mathlib.Core.List.{List, ◌++◌}
use lib.ListN.{length, take, drop, length-append}
use lib.Seq.{take-append_seam}
use lib.Dec.{leb}
use borrow.Author.Tests.{leb-true, leb-false, le-leb, lt-leb}
use Rattle.program_parts.specs.Front.{IsPrefixLen}
use Rattle.base.proofs.Tests.{cond_all}
use Rattle.listing.specs.Listing.{listed_of, buffer_after}

module _ (t b : List ℕ) where
  unfoldable pub Says : Optional ℕ → Type 0
  Says (Some n) = (n ≡ length t) × (length t ≤ length b)
  Says None = length b < length t

  says : {r : (Optional ℕ)} → r ≡ listed_of t b → Says r
  unfolding Says listed_of
  says e = subst Says (sym e) (cond_all Says (leb (length t) (length b)) (Some (length t)) None (λ l. (refl, leb-true _ _ l)) (λ l. leb-false _ _ l))

  front : length t ≤ length b → buffer_after t b ≡ t ++ drop (length t) b
  unfolding buffer_after
  front h = rw (le-leb (length t) (length b) h)

  module _ {r : (Optional ℕ)} (answered : r ≡ listed_of t b) where
    pub too_long : r ≡ None → length b < length t
    unfolding Says
    too_long told = says (sym told ∙ answered)

    pub no_such_text : {x : List ℕ} → r ≡ None → length x ≤ length b → t ≡ x → ⊥
    no_such_text told h e = omega (arith, too_long told, ap length e)

    pub size_of : {n : ℕ} → r ≡ Some n → (n ≡ length t) × (length t ≤ length b)
    unfolding Says
    size_of told = says (sym told ∙ answered)

    pub text_of : {n : ℕ} {e : List ℕ} → r ≡ Some n → e ≡ buffer_after t b → take n e ≡ t
    text_of told left =
        let (same, room) = size_of told in
        rw (same, left, front room, take-append_seam t (drop (length t) b))

    pub counts_of : {n : ℕ} {e : List ℕ} → r ≡ Some n → e ≡ buffer_after t b → (n ≤ length e) × (n ≡ length (take n e))
    counts_of told left =
        let (same, room) = size_of told in
        let whole : length (buffer_after t b) ≡ length t + length (drop (length t) b) = ap length (front room) ∙ length-append t (drop (length t) b) in
        (rw left (omega (arith, same, whole)), rw (text_of told left) same)

  -- how many octets stand at the front: all of the text, or none
  pub front_len : (r : Optional ℕ) → r ≡ listed_of t b → {n : ℕ} {e : List ℕ} → n ≡ unwrap_or r 0 → e ≡ buffer_after t b → IsPrefixLen n e
  front_len (Some n) answered h left = rw h (counts_of answered refl left)
  front_len None answered h left = rw h (omega arith, refl)

  pub front_value : (r : Optional ℕ) → r ≡ listed_of t b → {n : ℕ} → n ≡ unwrap_or r 0 → n ≡ cond (leb (length t) (length b)) (length t) 0
  front_value (Some n) answered h = let (same, room) = size_of answered refl in rw (h, le-leb _ _ room) same
  front_value None answered h = rw (h, lt-leb _ _ (too_long answered refl))
