-- What the octets of an accepted message begin with, for those who take values from them. Assumes nothing.
use Rattle.tcap.specs.Reading.{outcome_of, handed_back}
use Rattle.std.specs.Prelude.{Result, Ok, Err}
use Prim.Native.Nat.{ℕ, ◌+◌, ◌*◌, ◌≤◌}
use native.Mathlib.Omega.{arith}
use mathlib.Core.Path.{◌≡◌, sym, ap, ◌∙◌}
use mathlib.Core.List.{List, ◌++◌}
use lib.ListN.{length, take, drop, get_or, take-append-drop}
use Rattle.tcap.specs.declared.{Record.Record, Refusal.Refusal}
use Rattle.tcap.specs.Reading.{reading}
use Rattle.layout.specs.Layout.{head_octets, record_octets}
use Rattle.base.specs.Number.{octets_in}
use Rattle.read.specs.Octets.{Held}
use Rattle.read.proofs.Few.{reading_few, reading_size}

-- the count, in the last of its four octets
pub count_octet : (r : Record) (rest : List ℕ) → r.count ≤ 16 → get_or (record_octets r ++ rest) 7 0 ≡ r.count
unfolding record_octets head_octets octets_in
count_octet r rest h = omega arith

pub held_octets : (x : Result Record Refusal) (new : List ℕ) → outcome_of x ≡ Ok tt → Held x new → take (length (record_octets (handed_back x))) new ≡ record_octets (handed_back x)
unfolding Held
held_octets (Ok r) new a h = h
held_octets (Err f) new a h = let z : ◌≡◌ {A = ℕ} 0 1 = cc in absurd (omega arith)

module _ (m new : List ℕ) (a : outcome_of (reading m) ≡ Ok tt) (h : Held (reading m) new) where
  -- the record, and whatever is behind it
  pub held_front : record_octets (handed_back (reading m)) ++ drop (length (record_octets (handed_back (reading m)))) new ≡ new
  held_front = ap (λ (l : List ℕ). l ++ drop (length (record_octets (handed_back (reading m)))) new) (sym (held_octets (reading m) new a h)) ∙ take-append-drop (length (record_octets (handed_back (reading m)))) new

  held_count : get_or new 7 0 ≡ (handed_back (reading m)).count
  held_count = ap (λ (l : List ℕ). get_or l 7 0) (sym held_front) ∙ count_octet (handed_back (reading m)) (drop (length (record_octets (handed_back (reading m)))) new) (reading_few m)

  pub held_few : get_or new 7 0 ≤ 16
  held_few = omega (arith, held_count, reading_few m)

  pub held_record : take (44 + get_or new 7 0 * 24) new ≡ record_octets (handed_back (reading m))
  held_record = rw (held_count, ← (reading_size m a)) (held_octets (reading m) new a h)
