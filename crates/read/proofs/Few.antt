-- A reading has at most sixteen components, and its record as many octets as they need. Assumes nothing.
use Rattle.tcap.specs.declared.Refusal.{Refusal}
use Rattle.tcap.specs.Reading.{outcome_of, handed_back}
use Rattle.std.specs.Prelude.{Result, Ok, Err, ⊤}
use Prim.Native.Nat.{ℕ, ◌+◌, ◌*◌, ◌≤◌, min}
use native.Mathlib.Omega.{arith}
use mathlib.Core.Path.{◌≡◌, refl, ap}
use mathlib.Core.Bool.{Bool, true, false}
use mathlib.Core.List.{List}
use mathlib.Core.Option.{some}
use lib.ListN.{length, take, length-append, length-take}
use lib.Dec.{leb}
use borrow.Author.Tests.{leb-true, leb-false}
use Rattle.tcap.specs.declared.{Record.Record}
use Rattle.tcap.specs.WellFormed.{most_components}
use Rattle.tcap.specs.Meaning.{Meaning}
use Rattle.tcap.specs.Record.{meaning_of}
use Rattle.tcap.specs.Reading.{reading}
use Rattle.tcap.proofs.Promises.{accepted_reads}
use Rattle.tcap.proofs.Records.{above_most}
use Rattle.tcap.proofs.Refusals.{refused_carries}
use Rattle.layout.specs.Layout.{rows_octets, head_octets, record_octets}
use Rattle.layout.proofs.RoundTrip.{head_length, rows_length}
use Rattle.layout.proofs.Readings.{reading_fits}

means_few : (r : Record) (m : List ℕ) (μ : Meaning) → meaning_of r m ≡ some μ → (b : Bool) → leb r.count most_components ≡ b → r.count ≤ most_components
means_few r m μ e true h = leb-true r.count most_components h
means_few r m μ e false h = let n = above_most r m (leb-false r.count most_components h) in let z : ◌≡◌ {A = ℕ} 0 1 = cc in absurd (omega arith)

pub reading_few : (m : List ℕ) → (handed_back (reading m)).count ≤ 16
reading_few m = by_outcome (outcome_of (reading m)) refl
  where
    by_outcome : (x : Result ⊤ Refusal) → outcome_of (reading m) ≡ x → (handed_back (reading m)).count ≤ 16
    by_outcome (Ok tt) h = let (μ, e, _) = accepted_reads m h in means_few (handed_back (reading m)) m μ e (leb (handed_back (reading m)).count most_components) refl
    by_outcome (Err f) h = omega (arith, ap (λ (r : Record). r.count) (refused_carries m f h).1)

pub reading_size : (m : List ℕ) → outcome_of (reading m) ≡ Ok tt → length (record_octets (handed_back (reading m))) ≡ 44 + (handed_back (reading m)).count * 24
unfolding record_octets
reading_size m h =
    let r = handed_back (reading m) in
    let rows = take r.count r.rows in
    let k : length rows ≡ min r.count 16 = rw (length-take, (reading_fits m h).sixteen) in
    omega (arith, k, reading_few m, length-append (head_octets r.kind r.orig r.dest r.dialogue r.count) (rows_octets rows), head_length r.kind r.orig r.dest r.dialogue r.count, rows_length rows)
