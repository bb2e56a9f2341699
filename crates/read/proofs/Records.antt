-- The record of a reading from the octets that are left. Assumes nothing.
use Rattle.tcap.specs.declared.DestTransactionId.{DestTransactionId}
use Rattle.tcap.specs.declared.OrigTransactionId.{OrigTransactionId}
use Rattle.tcap.specs.Reading.{outcome_of, handed_back}
use Rattle.std.specs.Prelude.{Option as Optional, Result, Ok, Err}
use Prim.Native.Nat.{ℕ, ◌≤◌}
use native.Mathlib.Omega.{arith}
use mathlib.Core.Path.{◌≡◌, refl, sym, ap, ◌∙◌}
use mathlib.Core.List.{List, ◌++◌}
use lib.ListN.{length, drop, take-append-drop}
use Rattle.element.specs.Fault.{Text}
use Rattle.element.specs.Ask.{Got, got, bad}
use Rattle.tcap.specs.declared.{Dialogue.Dialogue, MessageKind.MessageKind, Row.Row, Record.Record, Refusal.Refusal}
use Rattle.tcap.specs.Meaning.{Message, unidirectional, begin, finish, continue, abort}
use Rattle.tcap.specs.WellFormed.{most_components, the93}
use Rattle.tcap.specs.Record.{record_of}
use Rattle.tcap.specs.Reading.{located_up_to, answered, reading_up_to, reading}
use Rattle.tcap.proofs.Promises.{located_reads}
use Rattle.layout.specs.Layout.{octet, number_at, span_at, message_kind_in, orig_in, dest_in, dialogue_in, rows_held, rows_looked, record_in, record_octets}
use Rattle.tcap.proofs.Records.{components}
use Rattle.layout.proofs.Readings.{reading_back}
use Rattle.read.specs.Octets.{Held}
use Rattle.read.proofs.Accepted.{few}
use Rattle.read.proofs.Octets.{held_octets}

record_count : (v : Message Text) → length (components v) ≤ most_components → (record_of v).count ≤ most_components
unfolding record_of
record_count (unidirectional d cs) h = h
record_count (begin o d cs) h = h
record_count (finish e d cs) h = h
record_count (continue o e d cs) h = h
record_count (abort e s) h = h

accepted_whole : (x : Result Record Refusal) → Ok tt ≡ outcome_of x → Ok (handed_back x) ≡ x
accepted_whole (Ok r) i = refl
accepted_whole (Err f) i = let z : ◌≡◌ {A = ℕ} 0 1 = cc in absurd (omega arith)

module _ (m new : List ℕ) (is : Ok tt ≡ outcome_of (reading m)) (held : Held (reading m) new) where
  record_back : record_in new ≡ handed_back (reading m)
  record_back =
      let h = held_octets (reading m) new (sym is) held in
      let n = length (record_octets (handed_back (reading m))) in
      ap record_in (sym (take-append-drop n new) ∙ ap (λ (l : List ℕ). l ++ drop n new) h) ∙ reading_back m (sym is) (drop n new)

  few_rows : number_at new 4 ≤ 16
  unfolding record_in
  few_rows = let z : number_at new 4 ≡ (handed_back (reading m)).count = ap (λ (r : Record). r.count) record_back in omega (arith, z, go (located_up_to the93 m) refl)
    where
      go : (x : Got (Message Text)) → located_up_to the93 m ≡ x → (handed_back (reading m)).count ≤ 16
      go (got v n) e = unfold reading reading_up_to answered in (rw e (record_count v (few v (located_reads the93 (omega arith) m v n e).fine)))
      go (bad f) e = unfold reading reading_up_to answered in (rw e (omega arith))

  pub looked_few : rows_looked new ≤ 16
  looked_few = omega (arith, few_rows)

  looked_all : rows_looked new ≡ number_at new 4
  looked_all = omega (arith, few_rows)

  pub read_accepted : (k : MessageKind) → k ≡ message_kind_in (octet new 0) → (o : Optional OrigTransactionId) → o ≡ orig_in (octet new 1) (span_at new 8) → (e : Optional DestTransactionId) → e ≡ dest_in (octet new 2) (span_at new 16) → (d : Dialogue) → d ≡ dialogue_in (octet new 3) new
      → (n : ℕ) → n ≡ rows_looked new → (rows : List Row) → rows ≡ rows_held n (drop 44 new)
      → Ok (record { kind = k; orig = o; dest = e; dialogue = d; count = n; rows = rows }) ≡ reading m
  unfolding record_in
  read_accepted k i o j e l d q n r rows s =
      let z : record { kind = k; orig = o; dest = e; dialogue = d; count = n; rows = rows } ≡ record_in new = rw (i, j, l, q, s, r, looked_all) in
      ap Ok (z ∙ record_back) ∙ accepted_whole (reading m) is
