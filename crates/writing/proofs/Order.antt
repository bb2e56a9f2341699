-- What each number of a refused writing says of the parts of the record, and that each is asked over the whole record before the next.
-- Assumes nothing.
use Rattle.std.specs.Prelude.{Result, Ok, Err}
use Prim.Native.Nat.{ℕ, ◌<◌, min}
use native.Mathlib.Omega.{arith}
use mathlib.Core.Path.{◌≡◌, refl, sym, ◌∙◌}
use mathlib.Core.Logic.Iff
use mathlib.Core.Logic.{◌↔◌, ◌⊎◌}
use mathlib.Core.Bool.{Bool, true, false, cond, false≢true}
use mathlib.Core.List.{List}
use lib.ListN.{length}
use lib.Dec.{leb}
use Rattle.tcap.specs.declared.{Record.Record}
use Rattle.tcap.specs.WellFormed.{most_octets}
use Rattle.tcap.specs.Verdict.{all_parts, all_ranges, all_lie, all_shaped}
use Rattle.writing.specs.declared.{WriteFault.WriteFault}
use Rattle.writing.specs.Writing.{write_number, message_of, RecordOk, unless, writing, RefusedWith, ReadsAs, RecordTyped}
use Rattle.writing.specs.Reasons.{Misfit, RangeOff, EndOff, ShapeOff, SomePart, NoPart}
use Rattle.writing.proofs.Promises.{no_room_exactly}
use Rattle.writing.proofs.Reasons.{parts_exactly, ranged_exactly, lie_exactly, shaped_exactly}

-- The order: the number that is answered, by the four tests and the room

unfoldable asked : Bool → Bool → Bool → Bool → Bool → ℕ
asked p q l s b = cond p (cond q (cond l (cond s (cond b 0 25) 22) 21) 23) 24

is_24 : (p q l s b : Bool) → (asked p q l s b ≡ 24) ↔ (p ≡ false)
unfolding asked
is_24 false q l s b = (λ e. refl, λ e. refl)
is_24 true false l s b = (λ e. absurd (omega (arith, e)), λ e. absurd (false≢true (sym e)))
is_24 true true false s b = (λ e. absurd (omega (arith, e)), λ e. absurd (false≢true (sym e)))
is_24 true true true false b = (λ e. absurd (omega (arith, e)), λ e. absurd (false≢true (sym e)))
is_24 true true true true false = (λ e. absurd (omega (arith, e)), λ e. absurd (false≢true (sym e)))
is_24 true true true true true = (λ e. absurd (omega (arith, e)), λ e. absurd (false≢true (sym e)))

is_23 : (p q l s b : Bool) → (asked p q l s b ≡ 23) ↔ ((p ≡ true) × (q ≡ false))
unfolding asked
is_23 false q l s b = (λ e. absurd (omega (arith, e)), λ e. absurd (false≢true e.0))
is_23 true false l s b = (λ e. (refl, refl), λ e. refl)
is_23 true true false s b = (λ e. absurd (omega (arith, e)), λ e. absurd (false≢true (sym e.1)))
is_23 true true true false b = (λ e. absurd (omega (arith, e)), λ e. absurd (false≢true (sym e.1)))
is_23 true true true true false = (λ e. absurd (omega (arith, e)), λ e. absurd (false≢true (sym e.1)))
is_23 true true true true true = (λ e. absurd (omega (arith, e)), λ e. absurd (false≢true (sym e.1)))

is_21 : (p q l s b : Bool) → (asked p q l s b ≡ 21) ↔ ((p ≡ true) × (q ≡ true) × (l ≡ false))
unfolding asked
is_21 false q l s b = (λ e. absurd (omega (arith, e)), λ e. absurd (false≢true e.0))
is_21 true false l s b = (λ e. absurd (omega (arith, e)), λ e. absurd (false≢true e.1))
is_21 true true false s b = (λ e. (refl, refl, refl), λ e. refl)
is_21 true true true false b = (λ e. absurd (omega (arith, e)), λ e. absurd (false≢true (sym e.2)))
is_21 true true true true false = (λ e. absurd (omega (arith, e)), λ e. absurd (false≢true (sym e.2)))
is_21 true true true true true = (λ e. absurd (omega (arith, e)), λ e. absurd (false≢true (sym e.2)))

is_22 : (p q l s b : Bool) → (asked p q l s b ≡ 22) ↔ ((p ≡ true) × (q ≡ true) × (l ≡ true) × (s ≡ false))
unfolding asked
is_22 false q l s b = (λ e. absurd (omega (arith, e)), λ e. absurd (false≢true e.0))
is_22 true false l s b = (λ e. absurd (omega (arith, e)), λ e. absurd (false≢true e.1))
is_22 true true false s b = (λ e. absurd (omega (arith, e)), λ e. absurd (false≢true e.2))
is_22 true true true false b = (λ e. (refl, refl, refl, refl), λ e. refl)
is_22 true true true true false = (λ e. absurd (omega (arith, e)), λ e. absurd (false≢true (sym e.3)))
is_22 true true true true true = (λ e. absurd (omega (arith, e)), λ e. absurd (false≢true (sym e.3)))

is_25 : (p q l s b : Bool) → asked p q l s b ≡ 25 → (p ≡ true) × (q ≡ true) × (l ≡ true) × (s ≡ true)
unfolding asked
is_25 false q l s b e = absurd (omega (arith, e))
is_25 true false l s b e = absurd (omega (arith, e))
is_25 true true false s b e = absurd (omega (arith, e))
is_25 true true true false b e = absurd (omega (arith, e))
is_25 true true true true b e = (refl, refl, refl, refl)

-- of what is answered, the number; 0 of a success
unfoldable pub number_in : Result ℕ WriteFault → ℕ
number_in (Ok n) = 0
number_in (Err f) = write_number f

done_number_lem : (n : ℕ) → number_in (Ok n) ≡ 0
unfolding number_in
done_number_lem n = refl

number_told : (w : Result ℕ WriteFault) (n : ℕ) → 0 < n → ((f : WriteFault) × (w ≡ Err f) × (write_number f ≡ n)) ↔ (number_in w ≡ n)
unfolding number_in
number_told (Ok k) n h = (λ (f, e, x). let z : ◌≡◌ {A = ℕ} 0 1 = cc in absurd (omega arith), λ e. absurd (omega (arith, e)))
number_told (Err g) n h = (λ (f, e, x). let z : g ≡ f = cc in rw z x, λ e. (g, refl, e))

asked_so : (p q l s b : Bool) (w : Result ℕ WriteFault) → number_in w ≡ 0
    → number_in (unless p WriteFault.WrongParts (unless q WriteFault.OutOfRange (unless l WriteFault.OutOfMaterial (unless s WriteFault.Unshaped (unless b WriteFault.NoRoom w))))) ≡ asked p q l s b
unfolding number_in asked write_number
asked_so false q l s b w h = refl
asked_so true false l s b w h = refl
asked_so true true false s b w h = refl
asked_so true true true false b w h = refl
asked_so true true true true false w h = refl
asked_so true true true true true w h = h

-- a test that does not fail: nothing is wrong
none_exactly : {t : Bool} {W : Type 0} → (t ≡ false) ↔ W → (t ≡ true) ↔ (W → ⊥)
none_exactly {t} {W} x = (λ e w. false≢true (sym (x.1 w) ∙ e), λ n. by_test t refl n)
  where
    by_test : (b : Bool) → t ≡ b → (W → ⊥) → t ≡ true
    by_test true e n = e
    by_test false e n = absurd (n (x.0 e))

and_three : {A B C D E F : Type 0} → A ↔ D → B ↔ E → C ↔ F → (A × B × C) ↔ (D × E × F)
and_three a b c = (λ h. (a.0 h.0, b.0 h.1, c.0 h.2), λ h. (a.1 h.0, b.1 h.1, c.1 h.2))

and_four : {A B C D E F G H : Type 0} → A ↔ E → B ↔ F → C ↔ G → D ↔ H → (A × B × C × D) ↔ (E × F × G × H)
and_four a b c d = (λ h. (a.0 h.0, b.0 h.1, c.0 h.2, d.0 h.3), λ h. (a.1 h.0, b.1 h.1, c.1 h.2, d.1 h.3))

four_ok : (r : Record) (m : List ℕ) → (all_parts r ≡ true) × (all_ranges r ≡ true) × (all_lie (length m) r ≡ true) × (all_shaped m r ≡ true) → RecordOk r m
four_ok r m h = record { parts = h.0; ranged = h.1; lie = h.2; shaped = h.3 }

-- The theorems

module _ (r : Record) (m : List ℕ) where
  -- a record is well-formed exactly if no part of it is wrong
  pub ok_parts : RecordTyped r → RecordOk r m ↔ (NoPart Misfit r × NoPart RangeOff r × NoPart (EndOff m) r × NoPart (ShapeOff m) r)
  ok_parts t =
      let q = and_four (none_exactly (parts_exactly r m)) (none_exactly (ranged_exactly r m t)) (none_exactly (lie_exactly r m)) (none_exactly (shaped_exactly r m)) in
      (λ o. q.0 (o.parts, o.ranged, o.lie, o.shaped), λ h. four_ok r m (q.1 h))

  module _ (room : ℕ) where
    abbrev answered : ℕ
    answered = asked (all_parts r) (all_ranges r) (all_lie (length m) r) (all_shaped m r) (leb (length (message_of r m)) (min most_octets room))

    refused_asked : (n : ℕ) → 0 < n → RefusedWith r m room n ↔ (answered ≡ n)
    unfolding RefusedWith writing
    refused_asked n h =
        let e = number_told (writing r m room) n h in
        rw (asked_so (all_parts r) (all_ranges r) (all_lie (length m) r) (all_shaped m r) _ (Ok (length (message_of r m))) (done_number_lem _)) at e

    -- 24 exactly if some part is one that its kind lacks or may not have
    pub refused_24 : RefusedWith r m room 24 ↔ SomePart Misfit r
    refused_24 = Iff.trans (refused_asked 24 (omega arith)) (Iff.trans (is_24 _ _ _ _ _) (parts_exactly r m))

    -- 23 exactly if there is none, and some count, value or length is out of its range
    pub refused_23 : RecordTyped r → RefusedWith r m room 23 ↔ (NoPart Misfit r × SomePart RangeOff r)
    refused_23 t = Iff.trans (refused_asked 23 (omega arith)) (Iff.trans (is_23 _ _ _ _ _) (Iff.and (none_exactly (parts_exactly r m)) (ranged_exactly r m t)))

    -- 21 exactly if there is neither, and some string passes the end of the material
    pub refused_21 : RecordTyped r → RefusedWith r m room 21 ↔ (NoPart Misfit r × NoPart RangeOff r × SomePart (EndOff m) r)
    refused_21 t =
        Iff.trans (refused_asked 21 (omega arith))
        (Iff.trans (is_21 _ _ _ _ _)
        (and_three (none_exactly (parts_exactly r m)) (none_exactly (ranged_exactly r m t)) (lie_exactly r m)))

    -- 22 exactly if there is none of these, and the octets of some string are not of the shape wanted
    pub refused_22 : RecordTyped r → RefusedWith r m room 22 ↔ (NoPart Misfit r × NoPart RangeOff r × NoPart (EndOff m) r × SomePart (ShapeOff m) r)
    refused_22 t =
        Iff.trans (refused_asked 22 (omega arith))
        (Iff.trans (is_22 _ _ _ _ _)
        (and_four (none_exactly (parts_exactly r m)) (none_exactly (ranged_exactly r m t)) (none_exactly (lie_exactly r m)) (shaped_exactly r m)))

    -- 25 exactly if the record is well-formed, and every message that reads as it is longer than the room, or there is none
    pub refused_25 : RecordTyped r → RefusedWith r m room 25 ↔ (RecordOk r m × (((s : List ℕ) → ReadsAs s r m → room < length s) ⊎ ((s : List ℕ) → ReadsAs s r m → ⊥)))
    refused_25 t = (
      λ h. let o = four_ok r m (is_25 _ _ _ _ _ ((refused_asked 25 (omega arith)).0 h)) in (o, (no_room_exactly r m room t o).0 h),
      λ h. (no_room_exactly r m room t h.0).1 h.1,
    )
