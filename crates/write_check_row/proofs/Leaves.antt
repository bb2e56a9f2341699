-- How many octets strings, IDs and octets take. Assumes nothing.
use Prim.Native.Nat.{ℕ, ◌+◌, ◌<◌}
use native.Mathlib.Omega.{arith}
use mathlib.Core.Path.{◌≡◌, ◌∙◌}
use mathlib.Core.Bool.{true}
use mathlib.Core.List.{List, [], ◌∷◌}
use lib.ListN.{length, drop, length-drop}
use lib.Seq.{length-take-le}
use lib.IntN.{ℤ}
use lib.Signed.{mag}
use borrow.Author.Tests.{leb-true}
use Rattle.base.specs.Number.{top_of}
use Rattle.base.proofs.Numbers.{small_holds}
use Rattle.primitive.specs.Primitive.{integer_octets}
use Rattle.primitive.proofs.Integers.{integer_some, integer_fits}
use Rattle.tcap.specs.declared.Span.{Span}
use Rattle.tcap.specs.Meaning.{octet, integer}
use Rattle.tcap.specs.Verdict.{lies, string_octets}
use Rattle.write_check_row.specs.Judged.{size_of}
use Rattle.write_check_row.proofs.Joining.{size_short, leaf_size}

-- a string that lies in the material has as many octets as it says
pub octets_length : (m : List ℕ) (s : Span) → lies (length m) s ≡ true → length (string_octets m s) ≡ s.len
unfolding lies string_octets
octets_length m s h = length-take-le s.len (drop s.place m) (omega (arith, length-drop s.place m, leb-true (s.place + s.len) (length m) h))

pub octet_size : (t x : ℕ) → size_of (octet t x) ≡ 3
octet_size t x = leaf_size t (x ∷ []) ∙ size_short 1 (omega arith)

-- an ID of 8 bits takes one octet
pub id_size : (t : ℕ) (z : ℤ) → mag z < 128 → size_of (integer t z) ≡ 3
unfolding top_of
id_size t z h =
    let one : length (integer_octets z) ≡ 1 = omega (arith, integer_some z, integer_fits 1 z (omega arith) (small_holds 1 z (omega arith))) in
    leaf_size t (integer_octets z) ∙ rw one (size_short 1 (omega arith))
