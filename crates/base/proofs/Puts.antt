-- Laws of puts: a put after a put is one put, and what a buffer holds that was written from its front. Assumes nothing.
use Prim.Native.Nat.{ℕ, suc, ◌+◌, ◌-◌, ◌≤◌, ◌<◌}
use native.Mathlib.Omega.{arith}
use native.Mathlib.Numerals.{add-one}
use native.Mathlib.Nat.{add-zero, zero-add, add-suc, suc-add}
use mathlib.Core.Path.{◌≡◌, refl, sym, ap, ◌∙◌}
use mathlib.Core.Bool.{Bool, true, false}
use mathlib.Core.List.{List, [], ◌∷◌, ◌++◌, append_assoc}
use lib.ListN.{length, drop, take, set, get_or, length-append}
use borrow.Rule.Slice.PartMut.{put_mid}
use lib.Seq.{sets, sets-eq, length-sets, set_out, take-suc, drop-drop}
use lib.Dec.{leb}
use borrow.Author.Tests.{leb-true, leb-false}
use Rattle.base.specs.inner.Put.{farthest, Put}

-- a run after a run is one run
sets_append : (d : List ℕ) (at : ℕ) (s t : List ℕ) → sets (sets d at s) (at + length s) t ≡ sets d at (s ++ t)
sets_append d at [] t = ap (λ (k : ℕ). sets d k t) (add-zero at)
sets_append d at (x ∷ s) t = rw (add-suc, ← suc-add) (sets_append (set d at x) (suc at) s t)

-- past the end nothing is set
sets_out : (d : List ℕ) (at : ℕ) (s : List ℕ) → length d ≤ at → sets d at s ≡ d
sets_out d at [] h = refl
sets_out d at (x ∷ s) h = rw (set_out d at x h) (sets_out d (suc at) s (omega arith))

module _ {d : List ℕ} {at : ℕ} {s : List ℕ} {r : ℕ} {e : List ℕ} (p : Put d at s r e) where
  pub put_length : length e ≡ length d
  put_length = ap length p.holds ∙ length-sets d at s

  -- from the place after it on is from where it ends on, for a place beyond the farthest is outside too
  reach : (t : List ℕ) → sets e r t ≡ sets d at (s ++ t)
  reach t = by (leb (at + length s) farthest) refl
    where
      by : (b : Bool) → leb (at + length s) farthest ≡ b → sets e r t ≡ sets d at (s ++ t)
      by true h =
          let k : r ≡ at + length s = omega (arith, p.ends, leb-true (at + length s) farthest h) in
          rw (k, p.holds) (sets_append d at s t)
      by false h =
          let far : farthest < at + length s = leb-false (at + length s) farthest h in
          let k : r ≡ farthest = omega (arith, p.ends) in
          let out : length e ≤ r = omega (arith, put_length, p.within) in
          let past : length (sets d at s) ≤ at + length s = omega (arith, length-sets d at s, p.within) in
          sets_out e r t out ∙ p.holds ∙ sym (sets_out (sets d at s) (at + length s) t past) ∙ sets_append d at s t

  pub put_then : {t : List ℕ} {q : ℕ} {f : List ℕ} → Put e r t q f → Put d at (s ++ t) q f
  put_then {t} n = record {
    within = p.within;
    ends = omega (arith, n.ends, p.ends, length-append s t);
    holds = n.holds ∙ reach t;
  }

-- what a buffer written from its front holds
pub put_front : {d : List ℕ} {s : List ℕ} {r : ℕ} {e : List ℕ} → Put d 0 s r e → length s ≤ length d → e ≡ s ++ drop (length s) d
put_front {d} {s} p h = p.holds ∙ sets-eq s d 0 (rw zero-add h) ∙ rw zero-add

-- where there is no buffer nothing is written
pub put_nowhere : {at : ℕ} {s : List ℕ} {r : ℕ} {e : List ℕ} → Put [] at s r e → e ≡ []
put_nowhere {at} {s} p = p.holds ∙ sets_out [] at s (omega arith)

pub put_none : (d : List ℕ) (at : ℕ) → length d ≤ farthest → at ≤ farthest → Put d at [] at d
put_none d at w h = record { within = w; ends = omega arith; holds = refl }

-- one octet within the buffer
pub put_in : (d : List ℕ) (at x r : ℕ) → length d ≤ farthest → at < length d → r ≡ at + 1 → Put d at (x ∷ []) r (set d at x)
put_in d at x r w h k = record { within = w; ends = omega arith; holds = refl }

-- a part within the buffer
pub put_all : (d s : List ℕ) (at : ℕ) → length d ≤ farthest → at + length s ≤ length d → Put d at s (at + length s) (put_mid at (at + length s - at) d s)
put_all d s at w h =
    let z : at + length s - at ≡ length s = omega arith in
    record {
      within = w;
      ends = omega arith;
      holds = rw (z, drop-drop (length s) at d) (sym (sets-eq s d at h ∙ append_assoc (take at d) s (drop (at + length s) d)));
    }

-- a turn of a loop that copies
pub put_more : (s : List ℕ) (i : ℕ) {d : List ℕ} {at : ℕ} {o : ℕ} {e : List ℕ} {q : ℕ} {f : List ℕ} → i < length s → Put d at (take i s) o e → Put e o (get_or s i 0 ∷ []) q f → Put d at (take (i + 1) s) q f
put_more s i h p n = rw (add-one i, take-suc s i 0 h) (put_then p n)
