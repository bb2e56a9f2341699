-- Laws of puts before a place: a put before a put is one put, the room that is left, and what a buffer holds in the end. Assumes nothing.
use Prim.Native.Nat.{ℕ, ◌+◌, ◌-◌, ◌≤◌, ◌<◌}
use native.Mathlib.Omega.{arith}
use native.Mathlib.Numerals.{add-one}
use mathlib.Core.Path.{◌≡◌, sym, ap, ◌∙◌}
use mathlib.Core.List.{List, [], ◌++◌, append_assoc, append-nil}
use lib.ListN.{length, take, drop, set, get_or, length-append, length-take, length-drop, take-append-drop}
use lib.Seq.{paste, paste-suc, length-paste, take_all, take-append-le, take-take, drop_at, length-take-le}
use Rattle.base.specs.inner.Back.{Room, PutBack}

-- the room of what comes last
pub room_last : {d : List ℕ} {at : ℕ} {t : List ℕ} (s : List ℕ) → Room d at (s ++ t) → Room d at t
room_last {t = t} s r = record { fits = omega (arith, length-append s t); within = r.within; low = r.low }

module _ {d : List ℕ} {at : ℕ} {t : List ℕ} {q : ℕ} {e : List ℕ} (p : PutBack d at t q e) where
  pub back_length : length e ≡ length d
  back_length = ap length p.holds ∙ simp (length-append, length-take, length-drop) (omega (arith, p.within, p.begins))

  -- the room of what comes before it
  pub room_next : (s : List ℕ) → Room d at (s ++ t) → Room e q s
  room_next s r = record {
    fits = omega (arith, length-append s t, r.fits, p.begins);
    within = omega (arith, back_length, p.begins, p.within);
    low = omega (arith, p.begins, r.low);
  }

  pub back_then : {s : List ℕ} {r : ℕ} {f : List ℕ} → PutBack e q s r f → PutBack d at (s ++ t) r f
  back_then {s} {r} n =
      let split : e ≡ take q d ++ (t ++ drop at d) = p.holds ∙ append_assoc (take q d) t (drop at d) in
      let whole : length (take q d) ≡ q = length-take-le q d (omega (arith, p.begins, p.within)) in
      let front : take r e ≡ take r d = ap (take r) split ∙ take-append-le r (take q d) (t ++ drop at d) (omega (arith, n.begins)) ∙ take-take r q d (omega (arith, n.begins)) in
      let rest : drop q e ≡ t ++ drop at d = ap (drop q) split ∙ drop_at (take q d) (t ++ drop at d) q whole in
      record {
        within = p.within;
        begins = omega (arith, length-append s t, p.begins, n.begins);
        holds = n.holds ∙ rw (front, rest) (simp append_assoc);
      }

-- what a buffer holds that was written from just so many octets on: all of them, from its front, and the rest as it was
pub back_front : {d : List ℕ} {at : ℕ} {s : List ℕ} {r : ℕ} {e : List ℕ} → PutBack d at s r e → at ≡ length s → e ≡ s ++ drop (length s) d
back_front {d} {at} {s} {r} p k =
    let z : r ≡ 0 = omega (arith, p.begins) in
    p.holds ∙ ap (λ (n : ℕ). take n d ++ s ++ drop at d) z ∙ ap (λ (n : ℕ). s ++ drop n d) k

pub back_none : (d : List ℕ) (at : ℕ) → at ≤ length d → PutBack d at [] at d
back_none d at h = record { within = h; begins = omega arith; holds = rw (append-nil, take-append-drop) }

-- a loop that copies
module _ (d : List ℕ) (at : ℕ) (s : List ℕ) (r : Room d at s) (i : ℕ) (out : List ℕ) (e : out ≡ paste d (at - length s) s i) where
  pub copied_length : i ≤ length s → length out ≡ length d
  copied_length h = ap length e ∙ length-paste d (at - length s) s i (omega (arith, r.fits, r.within)) h

  pub copied_next : i < length s → set out (at - length s + i) (get_or s i 0) ≡ paste d (at - length s) s (i + 1)
  copied_next h = ap (λ (o : List ℕ). set o (at - length s + i) (get_or s i 0)) e ∙ paste-suc d (at - length s) s i 0 (omega (arith, r.fits, r.within)) h ∙ ap (paste d (at - length s) s) (sym (add-one i))

  pub copied : i ≤ length s → length s ≤ i → PutBack d at s (at - length s) out
  copied h k =
      let n : at - length s + i ≡ at = omega (arith, r.fits) in
      record { within = r.within; begins = omega (arith, r.fits); holds = e ∙ rw (take_all i s k, n) }
