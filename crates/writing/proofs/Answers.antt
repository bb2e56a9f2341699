-- What writing answers, and what it leaves in the buffer, from what the code computes: the rank of the worst that is wrong, and the size, which is
-- capped. Assumes nothing.
use Rattle.std.specs.Prelude.{Option as Optional, Some, None, Result, Ok, Err}
use Prim.Native.Nat.{ℕ, ◌≤◌, ◌<◌, min}
use mathlib.Core.Path.{◌≡◌, refl, sym, ◌∙◌}
use mathlib.Core.Bool.{Bool, true, false}
use mathlib.Core.List.{List}
use native.Mathlib.Omega.{arith}
use lib.ListN.{length}
use lib.Dec.{leb}
use borrow.Author.Tests.{leb-true, leb-false, le-leb, lt-leb}
use Rattle.base.specs.inner.Back.{Room, PutBack}
use Rattle.base.proofs.Backs.{back_front}
use Rattle.tcap.specs.declared.{Record.Record}
use Rattle.tcap.specs.WellFormed.{most_octets}
use Rattle.tcap.specs.Verdict.{all_parts, all_ranges, all_lie, all_shaped}
use Rattle.write_check_row.specs.Forms.{record_form, octets_of}
use Rattle.write_check_row.specs.declared.Wrong.{Wrong}
use Rattle.write_check_row.specs.declared.TheConstants.Wrong.{UNSHAPED, OUT_OF_MATERIAL, OUT_OF_RANGE, WRONG_PARTS}
use Rattle.write_check_row.specs.Judged.{rank_of, size_cap}
use Rattle.writing.specs.declared.{WriteFault.WriteFault}
use Rattle.writing.specs.Writing.{message_of, RecordOk, unless, writing, Writes, RecordTyped}
use Rattle.writing.specs.inner.Ranks.{fault_at}
use Rattle.writing.proofs.WellFormed.{checked_means}
use Rattle.writing.proofs.Formed.{forms_same}
use Rattle.writing.proofs.Promises.{message_is, ok_answer, leaves_message, leaves_alone}

by_rank : (p q l s : Bool) (k : Wrong) (w : Result ℕ WriteFault) → rank_of p q l s ≡ Some k → unless p WriteFault.WrongParts (unless q WriteFault.OutOfRange (unless l WriteFault.OutOfMaterial (unless s WriteFault.Unshaped w))) ≡ Err (fault_at k)
unfolding rank_of fault_at
by_rank true true true true k w e = absurd cc
by_rank true true true false k w e = let z : k ≡ UNSHAPED = cc in rw z
by_rank true true false s k w e = let z : k ≡ OUT_OF_MATERIAL = cc in rw z
by_rank true false l s k w e = let z : k ≡ OUT_OF_RANGE = cc in rw z
by_rank false q l s k w e = let z : k ≡ WRONG_PARTS = cc in rw z

rank_none : (p q l s : Bool) → rank_of p q l s ≡ None → (p ≡ true) × (q ≡ true) × (l ≡ true) × (s ≡ true)
unfolding rank_of
rank_none true true true true e = (refl, refl, refl, refl)
rank_none true true true false e = absurd cc
rank_none true true false s e = absurd cc
rank_none true false l s e = absurd cc
rank_none false q l s e = absurd cc

module _ (r : Record) (m : List ℕ) where
  abbrev pub rank_in : Optional Wrong
  rank_in = rank_of (all_parts r) (all_ranges r) (all_lie (length m) r) (all_shaped m r)

  abbrev pub octets_in : List ℕ
  octets_in = octets_of (record_form m r)

  rank_ok : rank_in ≡ None → RecordOk r m
  rank_ok e = let t = rank_none (all_parts r) (all_ranges r) (all_lie (length m) r) (all_shaped m r) e in record { parts = t.0; ranged = t.1; lie = t.2; shaped = t.3 }

  -- 21 to 24: the buffer stays
  untouched : {f : WriteFault} {out : List ℕ} → writing r m (length out) ≡ Err f → Writes r m out (Err f) out
  untouched {f} {out} e = record { answers = sym e; holds = sym (leaves_alone r m out e) }

  pub bad_writes : {k : Wrong} {out : List ℕ} → rank_in ≡ Some k → Writes r m out (Err (fault_at k)) out
  unfolding writing
  bad_writes {k} {out} e = untouched (by_rank (all_parts r) (all_ranges r) (all_lie (length m) r) (all_shaped m r) k _ e)

  -- no rank, and a size that is capped
  module _ (w : RecordTyped r) (fine : rank_in ≡ None) (n : ℕ) (sized : n ≡ min (length octets_in) size_cap) where
    pub message_octets : message_of r m ≡ octets_in
    message_octets = let (μ, e, f) = checked_means r m w (rank_ok fine) in message_is r m e ∙ forms_same r m e

    pub fine_answer : (room : ℕ) → writing r m room ≡ unless (leb n (min most_octets room)) WriteFault.NoRoom (Ok n)
    fine_answer room = ok_answer r m room (rank_ok fine) ∙ rw message_octets (by (leb (length octets_in) most_octets) refl)
      where
        by : (b : Bool) → leb (length octets_in) most_octets ≡ b → unless (leb (length octets_in) (min most_octets room)) WriteFault.NoRoom (Ok (length octets_in)) ≡ unless (leb n (min most_octets room)) WriteFault.NoRoom (Ok n)
        by true h = let e : n ≡ length octets_in = omega (arith, leb-true (length octets_in) most_octets h) in rw e
        by false h =
            let l : min most_octets room < length octets_in = omega (arith, leb-false (length octets_in) most_octets h) in
            rw (lt-leb (length octets_in) (min most_octets room) l, lt-leb n (min most_octets room) (omega (arith, leb-false (length octets_in) most_octets h)))

    pub full_writes : {out : List ℕ} → min most_octets (length out) < n → Writes r m out (Err WriteFault.NoRoom) out
    full_writes {out} l = untouched (fine_answer (length out) ∙ rw (lt-leb n (min most_octets (length out)) l))

    -- the octets fit exactly before the place that the size tells
    pub put_room : {out : List ℕ} → n ≤ min most_octets (length out) → Room out n octets_in
    put_room l = record { fits = omega arith; within = omega arith; low = omega arith }

    pub put_writes : {start : ℕ} {out new : List ℕ} → n ≤ min most_octets (length out) → PutBack out n octets_in start new → Writes r m out (Ok n) new
    put_writes {start} {out} {new} l p =
        let g : length octets_in ≡ n = omega arith in
        let a : writing r m (length out) ≡ Ok n = fine_answer (length out) ∙ rw (le-leb n (min most_octets (length out)) l) in
        record { answers = sym a; holds = back_front p (sym g) ∙ rw (g, ← message_octets) (sym (leaves_message r m out a)) }
