-- A record that is written where it was written before leaves the same; what was read is always written, and its line has room. Assumes nothing.
use Rattle.tcap.specs.Reading.{outcome_of, handed_back}
use Rattle.std.specs.Prelude.{Result, Ok, Err}
use Rattle.std.specs.Result.{result_unwrap_or}
use Prim.Native.Nat.{ℕ, ◌≤◌}
use native.Mathlib.Omega.{arith}
use mathlib.Core.Path.{◌≡◌, refl, sym, ap, ◌∙◌}
use mathlib.Core.List.{List, [], ◌++◌}
use lib.ListN.{length, take, drop, length-append, length-drop}
use lib.Seq.{drop_at, length-take-le}
use Rattle.program_parts.specs.Front.{IsPrefixLen}
use Rattle.base.specs.Text.{text}
use Rattle.base.specs.inner.Put.{Put}
use Rattle.base.proofs.Puts.{put_length}
use Rattle.digits.specs.Digits.{hex}
use Rattle.digits.proofs.Digits.{hex_length}
use Rattle.tcap.specs.declared.{Record.Record, Refusal.Refusal}
use Rattle.tcap.specs.Reading.{reading}
use Rattle.tcap.proofs.Promises.{accepted_reads}
use Rattle.writing.specs.declared.{WriteFault.WriteFault}
use Rattle.writing.specs.Writing.{message_of, writing, leaves, Writes}
use Rattle.writing.proofs.Promises.{success, success_buffer, leaves_message, leaves_alone, read_written}
use Rattle.program_readings.specs.Rewritten.{line_of}

module _ (r : Record) (m out : List ℕ) where
  kept : (w : Result ℕ WriteFault) → writing r m (length out) ≡ w → (length (leaves r m out) ≡ length out) × (leaves r m (leaves r m out) ≡ leaves r m out)
  kept (Ok n) e =
      let s = success r m (length out) e in
      let a = leaves_message r m out e in
      let l : length (leaves r m out) ≡ length out = ap length a ∙ omega (arith, length-append (message_of r m) (drop n out), s.counts, s.fits, length-drop n out) in
      let b = leaves_message r m (leaves r m out) {n = n} (rw l e) in
      (l, b ∙ ap (λ (t : List ℕ). message_of r m ++ t) (ap (drop n) a ∙ drop_at (message_of r m) (drop n out) n (sym s.counts)) ∙ sym a)
  kept (Err f) e =
      let a = leaves_alone r m out e in
      (ap length a, ap (leaves r m) a)

  pub writes_length : {w : Result ℕ WriteFault} {new : List ℕ} → Writes r m out w new → length new ≡ length out
  writes_length x = ap length x.holds ∙ (kept (writing r m (length out)) refl).0

  pub writes_same : {w : Result ℕ WriteFault} {new : List ℕ} → Writes r m out w new → Writes r m new w new
  writes_same x =
      let (l, k) = kept (writing r m (length out)) refl in
      record { answers = x.answers ∙ ap (writing r m) (sym (ap length x.holds ∙ l)); holds = x.holds ∙ sym k ∙ ap (leaves r m) (sym x.holds) }

  pub writes_again : {v w : Result ℕ WriteFault} {mid new : List ℕ} → Writes r m out v mid → Writes r m mid w new → Writes r m out w new
  writes_again x y =
      let (l, k) = kept (writing r m (length out)) refl in
      record { answers = y.answers ∙ rw (x.holds, l); holds = y.holds ∙ ap (leaves r m) x.holds ∙ k }

  -- how many octets of what was read stand at the front: it is always written where 255 octets fit
  pub front_written : (w : Result ℕ WriteFault) {new : List ℕ} → Writes r m out w new → reading m ≡ Ok r → length out ≡ 255 → {n : ℕ} → n ≡ result_unwrap_or w 0 → IsPrefixLen n new × (take n new ≡ message_of r m)
  front_written (Ok n) {new} x e room h =
      let s = success r m (length out) (sym x.answers) in
      let k : n ≤ length new = omega (arith, s.counts, s.fits, writes_length x) in
      rw h ((k, sym (length-take-le n new k)), (success_buffer r m out x).0)
  front_written (Err f) x e room h =
      let told : outcome_of (reading m) ≡ Ok tt = ap outcome_of e in
      let (n, got, less, same) = read_written m (length out) told (omega (arith, room, (accepted_reads m told).2.short)) in
      let refused : writing (handed_back (reading m)) m (length out) ≡ Err f = ap (λ (q : Result Record Refusal). writing (handed_back q) m (length out)) e ∙ sym x.answers in
      let z : ◌≡◌ {A = ℕ} 0 1 = cc in
      absurd (omega arith)

-- two digits an octet, and nine octets more
pub line_fits : (s d : List ℕ) {n : ℕ} {new : List ℕ} → Put d 0 (line_of s) n new → length s ≤ 255 → length d ≡ 4096 → IsPrefixLen n new
unfolding line_of
line_fits s d {n} {new} p h l =
    let k : n ≤ length new = omega (arith, h, l, p.ends, put_length p, hex_length s, length-append (hex s) (text "\n")) in
    (k, sym (length-take-le n new k))
