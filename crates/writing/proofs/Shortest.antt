-- Demand 3 in one statement, from the contract of writing; and no other answer meets the statement. Assumes nothing.
use Rattle.std.specs.Prelude.{Result, Ok, Err}
use Prim.Native.Nat.{ℕ, ◌≤◌, ◌<◌}
use native.Mathlib.Omega.{arith}
use mathlib.Core.Path.{◌≡◌, refl, sym, ap, ap₂, ◌∙◌}
use mathlib.Core.Logic.Iff
use mathlib.Core.Logic.{◌↔◌, ◌⊎◌, inl, inr}
use mathlib.Core.Bool.{true, false, cond}
use mathlib.Core.List.{List, ◌++◌}
use lib.ListN.{length, take, drop, take-append-drop}
use lib.Dec.{eqb}
use Rattle.element.specs.Form.{◌⊑◌}
use Rattle.tcap.specs.declared.{Record.Record}
use Rattle.tcap.specs.WellFormed.{WellFormed}
use Rattle.layout.specs.Layout.{is_record, record_in}
use Rattle.writing.specs.declared.{WriteFault.WriteFault}
use Rattle.writing.specs.Writing.{write_number, writing, RefusedWith, leaves, Writes, ReadsAs, RecordTyped}
use Rattle.writing.specs.Octets.{writing_octets, leaves_octets}
use Rattle.writing.specs.Shortest.{MeansWell, OneFits, NoneFits, Shortest, WritesShortest, Says, Refuses}
use Rattle.writing.proofs.Promises.{ok_exactly, ok_numbers, success, reads_as, strictly_shortest, written_exactly, leaves_alone, success_buffer}
use Rattle.writing.proofs.Order.{refused_24, refused_23, refused_21, refused_22, refused_25}
use Rattle.writing.proofs.Standing.{octets_fit}

module _ (r : Record) (m : List ℕ) where
  reads_well : (s : List ℕ) → ReadsAs s r m → MeansWell r m
  unfolding ReadsAs WellFormed
  reads_well s (μ, e, i) = (μ, e, i.fine)

  module _ (t : RecordTyped r) (out : List ℕ) where
    abbrev room : ℕ
    room = length out

    abbrev answer : Result ℕ WriteFault
    answer = writing r m room

    done_exactly : ((n : ℕ) × Says answer n) ↔ (MeansWell r m × OneFits r m room)
    done_exactly =
        let x = written_exactly r m room t in
        (λ h. let k = x.0 h in (reads_well k.0 k.1, k), λ h. x.1 h.1)

    done_shortest : (n : ℕ) → Says answer n → Shortest r m out (leaves r m out) n
    unfolding ◌⊑◌
    done_shortest n e =
        let w : Writes r m out (Ok n) (leaves r m out) = record { answers = sym e; holds = refl } in
        let b = success_buffer r m out w in
        let k = (success r m room e).counts in
        record {
          reads = rw b.0 (reads_as r m room t e);
          counts = rw b.0 (sym k);
          least = λ s i. rw (b.0, k) (strictly_shortest r m s i);
          rest = b.1;
        }

    full_exactly : Refuses answer 25 ↔ (MeansWell r m × NoneFits r m room)
    unfolding RefusedWith
    full_exactly = Iff.trans (refused_25 r m room t) (Iff.and (ok_exactly r m t) Iff.rfl)

    unfit_exactly : ((n : ℕ) × (21 ≤ n) × (n ≤ 24) × Refuses answer n) ↔ (MeansWell r m → ⊥)
    unfolding RefusedWith write_number
    unfit_exactly = (
      λ h o. let k = (ok_numbers r m room).0 ((ok_exactly r m t).1 o) h.0 h.3 in absurd (omega (arith, h.2)),
      λ h. by_answer answer refl h,
    )
      where
        by_answer : (w : Result ℕ WriteFault) → answer ≡ w → (MeansWell r m → ⊥) → (n : ℕ) × (21 ≤ n) × (n ≤ 24) × Refuses answer n
        by_answer (Ok n) e h = absurd (h (done_exactly.0 (n, e)).0)
        by_answer (Err WriteFault.WrongParts) e h = (24, omega arith, omega arith, (WriteFault.WrongParts, e, refl))
        by_answer (Err WriteFault.OutOfRange) e h = (23, omega arith, omega arith, (WriteFault.OutOfRange, e, refl))
        by_answer (Err WriteFault.OutOfMaterial) e h = (21, omega arith, omega arith, (WriteFault.OutOfMaterial, e, refl))
        by_answer (Err WriteFault.Unshaped) e h = (22, omega arith, omega arith, (WriteFault.Unshaped, e, refl))
        by_answer (Err WriteFault.NoRoom) e h = absurd (h (full_exactly.0 (WriteFault.NoRoom, e, refl)).0)

    whole : WritesShortest (Says answer) (Refuses answer) r m out (leaves r m out)
    unfolding RefusedWith
    whole =
        record {
          done = done_exactly;
          shortest = done_shortest;
          full = full_exactly;
          unfit = unfit_exactly;
          stays = λ n h. leaves_alone r m out h.1;
          wrong_parts = refused_24 r m room;
          out_of_range = refused_23 r m room t;
          out_of_material = refused_21 r m room t;
          unshaped = refused_22 r m room t;
        }

    -- demand 3, from the call's contract
    pub writes_shortest : {w : (Result ℕ WriteFault)} {new : List ℕ} → Writes r m out w new → WritesShortest (Says w) (Refuses w) r m out new
    writes_shortest x = rw (x.answers, x.holds) whole

-- of a record that stands as octets; others are refused with 24
module _ (o m out : List ℕ) {w : (Result ℕ WriteFault)} {new : List ℕ} (answers : w ≡ writing_octets o m (length out)) (holds : new ≡ leaves_octets o m out) where
  pub octets_shortest : is_record o ≡ true → WritesShortest (Says w) (Refuses w) (record_in o) m out new
  unfolding writing_octets leaves_octets
  octets_shortest h = writes_shortest (record_in o) m (octets_fit o) out (record { answers = answers ∙ rw h; holds = holds ∙ rw h })

  pub octets_refused : is_record o ≡ false → Refuses w 24 × (new ≡ out)
  unfolding writing_octets leaves_octets write_number
  octets_refused h = ((WriteFault.WrongParts, answers ∙ rw h, refl), holds ∙ rw h)

-- What says the same meets the same statement
pub says_same : {D E R S : ℕ → Type 0} {r : Record} {m out new : List ℕ} → ((n : ℕ) → D n ↔ E n) → ((n : ℕ) → R n ↔ S n) → WritesShortest D R r m out new → WritesShortest E S r m out new
says_same d s x =
    record {
      done = (λ h. x.done.0 (h.0, (d h.0).1 h.1), λ h. let k = x.done.1 h in (k.0, (d k.0).0 k.1));
      shortest = λ n h. x.shortest n ((d n).1 h);
      full = Iff.trans (Iff.symm (s 25)) x.full;
      unfit = (λ h. x.unfit.0 (h.0, h.1, h.2, (s h.0).1 h.3), λ h. let k = x.unfit.1 h in (k.0, k.1, k.2, (s k.0).0 k.3));
      stays = λ n h. x.stays n ((s n).1 h);
      wrong_parts = Iff.trans (Iff.symm (s 24)) x.wrong_parts;
      out_of_range = Iff.trans (Iff.symm (s 23)) x.out_of_range;
      out_of_material = Iff.trans (Iff.symm (s 21)) x.out_of_material;
      unshaped = Iff.trans (Iff.symm (s 22)) x.unshaped;
    }

-- No other answer, and no other buffer, meets the statement

-- a number is that of one fault
unfoldable fault_with : ℕ → WriteFault
fault_with n = cond (eqb n 24) WriteFault.WrongParts (cond (eqb n 23) WriteFault.OutOfRange (cond (eqb n 21) WriteFault.OutOfMaterial (cond (eqb n 22) WriteFault.Unshaped WriteFault.NoRoom)))

fault_back : (f : WriteFault) → fault_with (write_number f) ≡ f
unfolding fault_with write_number
fault_back WriteFault.WrongParts = refl
fault_back WriteFault.OutOfRange = refl
fault_back WriteFault.OutOfMaterial = refl
fault_back WriteFault.Unshaped = refl
fault_back WriteFault.NoRoom = refl

same_fault : {w : (Result ℕ WriteFault)} (f : WriteFault) → Refuses w (write_number f) → Err f ≡ w
same_fault f (g, e, n) = sym (e ∙ ap Err (sym (fault_back g) ∙ ap fault_with n ∙ fault_back f))

module _ (r : Record) (m out c d : List ℕ) where
  one_message : {n k : ℕ} → Shortest r m out c n → Shortest r m out d k → (n ≡ k) × (c ≡ d)
  one_message {n} {k} x y = by_least (x.least (take k d) y.reads) (y.least (take n c) x.reads)
    where
      equal : take n c ≡ take k d → (n ≡ k) × (c ≡ d)
      equal e =
          let q : n ≡ k = sym x.counts ∙ ap length e ∙ y.counts in
          let b : drop n c ≡ drop k d = x.rest ∙ ap (λ (i : ℕ). drop i out) q ∙ sym y.rest in
          (q, sym (take-append-drop n c) ∙ ap₂ ◌++◌ e b ∙ take-append-drop k d)

      by_least : (take n c ≡ take k d) ⊎ (n < length (take k d)) → (take k d ≡ take n c) ⊎ (k < length (take n c)) → (n ≡ k) × (c ≡ d)
      by_least (inl e) h = equal e
      by_least (inr g) (inl e) = equal (sym e)
      by_least (inr g) (inr h) = absurd (omega (arith, x.counts, y.counts))

  -- one number
  one_refusal : (f : WriteFault) {b : (Result ℕ WriteFault)} → WritesShortest (Says (Err f)) (Refuses (Err f)) r m out c → WritesShortest (Says b) (Refuses b) r m out d → Refuses b (write_number f) → (Err f ≡ b) × (c ≡ d)
  one_refusal f x y h = (same_fault f h, x.stays (write_number f) (f, refl, refl) ∙ sym (y.stays (write_number f) h))

  pub only_answer : (a b : Result ℕ WriteFault) → WritesShortest (Says a) (Refuses a) r m out c → WritesShortest (Says b) (Refuses b) r m out d → (a ≡ b) × (c ≡ d)
  unfolding write_number
  only_answer (Ok n) b x y =
      let k = y.done.1 (x.done.0 (n, refl)) in
      let q = one_message (x.shortest n refl) (y.shortest k.0 k.1) in
      (ap Ok q.0 ∙ sym k.1, q.1)
  only_answer (Err WriteFault.WrongParts) b x y = one_refusal _ x y (y.wrong_parts.1 (x.wrong_parts.0 (_, refl, refl)))
  only_answer (Err WriteFault.OutOfRange) b x y = one_refusal _ x y (y.out_of_range.1 (x.out_of_range.0 (_, refl, refl)))
  only_answer (Err WriteFault.OutOfMaterial) b x y = one_refusal _ x y (y.out_of_material.1 (x.out_of_material.0 (_, refl, refl)))
  only_answer (Err WriteFault.Unshaped) b x y = one_refusal _ x y (y.unshaped.1 (x.unshaped.0 (_, refl, refl)))
  only_answer (Err WriteFault.NoRoom) b x y = one_refusal _ x y (y.full.1 (x.full.0 (_, refl, refl)))

-- so the contract says just what the statement says
pub shortest_writes : (r : Record) (m out : List ℕ) {w : (Result ℕ WriteFault)} {new : List ℕ} → RecordTyped r → WritesShortest (Says w) (Refuses w) r m out new → Writes r m out w new
shortest_writes r m out {w} {new} t x =
    let q = only_answer r m out new (leaves r m out) w (writing r m (length out)) x (writes_shortest r m t out (record { answers = refl; holds = refl })) in
    record { answers = q.0; holds = q.1 }
