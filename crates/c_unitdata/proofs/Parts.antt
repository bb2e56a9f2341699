-- The fields of what C is told of a unitdata: they lie side by side in 64 bits, are wide enough, and are read back by division and remainder.
-- Assumes nothing.
use Rattle.std.specs.Prelude.{Result, Ok, Err}
use Prim.Native.Nat.{ℕ, ◌+◌, ◌*◌, ◌/◌, ◌%◌, ◌^◌, ◌<◌}
use native.Mathlib.Omega.{arith}
use mathlib.Core.Path.{◌≡◌, refl}
use mathlib.Core.List.{List}
use lib.ListN.{length, get_or}
use Rattle.sccp.specs.declared.{Part.Part, Unitdata.Unitdata, UnitdataFault.UnitdataFault, UnitdataWriteFault.UnitdataWriteFault}
use Rattle.sccp.specs.Unitdata.{read_unitdata, unitdata_number, unitdata_status}
use Rattle.sccp.specs.Standing.{Stands}
use Rattle.sccp.specs.Writing.{writing_unitdata, unitdata_write_number, unitdata_write_status}
use Rattle.sccp.proofs.Promises.{read_exactly, written_exactly}
use Rattle.sccp.proofs.Ranges.{octets_length}
use Rattle.c_answer.specs.Answer.{length_bits}
use Rattle.c_unitdata.specs.Unitdata.{part_bits, unitdata_bits, unitdata_answer, unitdata_written_bits, unitdata_write_answer}

pub part_small : (p : Part) → part_bits p < 2 ^ 17
unfolding part_bits
part_small p = omega arith

-- a part whose place and length fit
part_fields : (p : Part) → p.place < 2 ^ 9 → p.len < 2 ^ 8 → (part_bits p % 2 ^ 9 ≡ p.place) × (part_bits p / 2 ^ 9 ≡ p.len)
unfolding part_bits
part_fields p h k = (omega arith, omega arith)

-- three parts side by side, above the status
fields : (a b d w : ℕ) → a < 2 ^ 17 → b < 2 ^ 17 → d < 2 ^ 17 → w ≡ a * 2 ^ 8 + b * 2 ^ 25 + d * 2 ^ 42
    → (w % 2 ^ 8 ≡ 0) × (w / 2 ^ 8 % 2 ^ 17 ≡ a) × (w / 2 ^ 25 % 2 ^ 17 ≡ b) × (w / 2 ^ 42 ≡ d)
fields a b d w h i j e = (omega arith, omega arith, omega arith, omega arith)

-- octets are below 256, so that no place is above 260 and no length above 255
module _ (m : List ℕ) (u : Unitdata) (o : (i : ℕ) → get_or m i 0 < 256) (e : read_unitdata m ≡ Ok u) where
  s : Stands m u
  s = (read_exactly m u).0 e

  bits : unitdata_answer m ≡ part_bits u.called * 2 ^ 8 + part_bits u.calling * 2 ^ 25 + part_bits u.userdata * 2 ^ 42
  unfolding unitdata_answer unitdata_bits
  bits = rw e

  all : let w = unitdata_answer m in (w % 2 ^ 8 ≡ 0) × (w / 2 ^ 8 % 2 ^ 17 ≡ part_bits u.called) × (w / 2 ^ 25 % 2 ^ 17 ≡ part_bits u.calling) × (w / 2 ^ 42 ≡ part_bits u.userdata)
  all = fields (part_bits u.called) (part_bits u.calling) (part_bits u.userdata) (unitdata_answer m) (part_small u.called) (part_small u.calling) (part_small u.userdata) bits

  -- a unitdata that was read is told whole: status 0, and each part's place and length
  pub told_unitdata : (unitdata_answer m % 2 ^ 8 ≡ 0)
      × (unitdata_answer m / 2 ^ 8 % 2 ^ 9 ≡ u.called.place) × (unitdata_answer m / 2 ^ 17 % 2 ^ 8 ≡ u.called.len)
      × (unitdata_answer m / 2 ^ 25 % 2 ^ 9 ≡ u.calling.place) × (unitdata_answer m / 2 ^ 34 % 2 ^ 8 ≡ u.calling.len)
      × (unitdata_answer m / 2 ^ 42 % 2 ^ 9 ≡ u.userdata.place) × (unitdata_answer m / 2 ^ 51 % 2 ^ 8 ≡ u.userdata.len)
  told_unitdata =
      let n = all in
      let k = part_small u.userdata in
      let a = part_fields u.called (omega (arith, s.lies.called_lies.placed, o 2)) (omega (arith, s.lies.called_lies.counted, o (2 + get_or m 2 0))) in
      let b = part_fields u.calling (omega (arith, s.lies.calling_lies.placed, o 3)) (omega (arith, s.lies.calling_lies.counted, o (3 + get_or m 3 0))) in
      let d = part_fields u.userdata (omega (arith, s.lies.data_lies.placed, o 4)) (omega (arith, s.lies.data_lies.counted, o (4 + get_or m 4 0))) in
      (n.0, omega arith, omega arith, omega arith, omega arith, omega arith, omega arith)

-- and in both calls the status is the number of the answer
read_status : (r : Result Unitdata UnitdataFault) → unitdata_bits r % 2 ^ 8 ≡ unitdata_status r
unfolding unitdata_bits unitdata_status unitdata_number
read_status (Err UnitdataFault.OtherType) = refl
read_status (Err UnitdataFault.PastEnd) = refl
read_status (Err UnitdataFault.Overlap) = refl
read_status (Err UnitdataFault.EmptyAddress) = refl
read_status (Ok u) = omega arith

pub told_status : (m : List ℕ) → unitdata_answer m % 2 ^ 8 ≡ unitdata_status (read_unitdata m)
unfolding unitdata_answer
told_status m = read_status (read_unitdata m)

written_status : (w : Result ℕ UnitdataWriteFault) → unitdata_written_bits w % 2 ^ 8 ≡ unitdata_write_status w
unfolding unitdata_written_bits unitdata_write_status unitdata_write_number length_bits
written_status (Err UnitdataWriteFault.OutOfRange) = refl
written_status (Err UnitdataWriteFault.NoRoom) = refl
written_status (Ok n) = omega arith

module _ (c : ℕ) (a b d out : List ℕ) where
  pub told_write_status : unitdata_write_answer c a b d out % 2 ^ 8 ≡ unitdata_write_status (writing_unitdata c a b d (length out))
  unfolding unitdata_write_answer
  told_write_status = written_status (writing_unitdata c a b d (length out))

  -- a unitdata has at most 515 octets, so that its length is told whole
  pub told_length : (n : ℕ) → writing_unitdata c a b d (length out) ≡ Ok n → unitdata_write_answer c a b d out / 2 ^ 8 % 2 ^ 16 ≡ n
  unfolding unitdata_write_answer unitdata_written_bits length_bits
  told_length n e =
      let w = (written_exactly c a b d out n).0 e in
      let r = w.0 in
      rw e (omega (arith, w.1, octets_length c a b d out))
