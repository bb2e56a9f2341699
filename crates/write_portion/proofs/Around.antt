-- Room inside what is put around octets that stand, and the octets of small parts. Assumes nothing.
use Rattle.std.specs.Prelude.{Option as Optional}
use Prim.Native.Nat.{ℕ}
use native.Mathlib.Omega.{arith}
use mathlib.Core.Path.{◌≡◌}
use mathlib.Core.Bool.{true, ◌&&◌, and-eq-true_iff}
use mathlib.Core.List.{List, [], ◌∷◌, ◌++◌}
use lib.ListN.{length}
use Rattle.base.specs.inner.Back.{Room}
use Rattle.base.proofs.Backs.{room_last}
use Rattle.element.specs.Form.{leaf, around, shortest, length_octets}
use Rattle.tcap.specs.declared.{Span.Span}
use Rattle.tcap.specs.Meaning.{octet}
use Rattle.tcap.specs.Verdict.{lies, option_lies}
use Rattle.write_check_row.specs.Forms.{octets_of}
use Rattle.write_head.proofs.Lengths.{short_length}
use Rattle.write_head.proofs.Heads.{room_inside}
use Rattle.write_portion.specs.Enclosed.{named, opened}

-- both lie there
pub named_lie : (end : ℕ) (n : Span) (u : Optional Span) → lies end n && option_lies end u ≡ true → (lies end n ≡ true) × (option_lies end u ≡ true)
named_lie end n u h = (and-eq-true_iff (lies end n) (option_lies end u)).0 h

pub outside_lie : (end : ℕ) (n s : Span) → lies end n && lies end s ≡ true → (lies end n ≡ true) × (lies end s ≡ true)
outside_lie end n s h = (and-eq-true_iff (lies end n) (lies end s)).0 h

-- octet by octet
pub octet_parts : (t n : ℕ) (s : List ℕ) → octets_of (octet t n) ++ s ≡ t ∷ 1 ∷ n ∷ s
unfolding shortest
octet_parts t n s = rw (short_length 1 (omega arith))

pub result_parts : (r : ℕ) (s : List ℕ) → octets_of (around 0xA2 (octet 0x02 r)) ++ s ≡ 0xA2 ∷ 3 ∷ 0x02 ∷ 1 ∷ r ∷ s
unfolding shortest
result_parts r s = rw (short_length 1 (omega arith), short_length 3 (omega arith))

pub source_parts : (tag n : ℕ) → octets_of (around 0xA3 (around tag (octet 0x02 n))) ≡ 0xA3 ∷ 5 ∷ tag ∷ 3 ∷ 0x02 ∷ 1 ∷ n ∷ []
unfolding shortest
source_parts tag n = rw (short_length 1 (omega arith), short_length 3 (omega arith), short_length 5 (omega arith))

-- under a name
module _ (name c : List ℕ) {d : List ℕ} {at : ℕ} (r : Room d at (octets_of (named name c))) where
  abbrev leafed : List ℕ
  leafed = octets_of (leaf 0x06 name) ++ c

  pub room_external : Room d at (0x28 ∷ (length_octets (length leafed) ++ leafed))
  unfolding shortest
  room_external = room_inside 0x6B (0x28 ∷ (length_octets (length leafed) ++ leafed)) r

  pub room_named : Room d at leafed
  room_named = room_inside 0x28 leafed room_external

-- in a PDU
module _ (name : List ℕ) (tag : ℕ) (c : List ℕ) {d : List ℕ} {at : ℕ} (r : Room d at (octets_of (opened name tag c))) where
  abbrev tagged : List ℕ
  tagged = tag ∷ (length_octets (length c) ++ c)

  abbrev pub pdu_octets : List ℕ
  pdu_octets = 0xA0 ∷ (length_octets (length tagged) ++ tagged)

  pub room_pdu : Room d at pdu_octets
  unfolding shortest
  room_pdu = room_last (octets_of (leaf 0x06 name)) (room_named name pdu_octets r)

  pub room_tagged : Room d at tagged
  room_tagged = room_inside 0xA0 tagged room_pdu

  pub room_fields : Room d at c
  room_fields = room_inside tag c room_tagged
