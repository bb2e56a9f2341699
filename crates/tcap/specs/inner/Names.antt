-- Which of the two names of dialogues octets are. Assumes nothing: these are definitions.
use Rattle.std.specs.Prelude.{ℕ}
use mathlib.Core.{Bool.Bool, Bool.true, Bool.false, Bool.◌&&◌, List.List}
use lib.{ListN.get_or, Dec.eqb}
use Rattle.base.specs.Value.{same}
use Rattle.tcap.specs.Meaning.{structured, unstructured}

-- the octets that the two names have in common
unfoldable pub common : List ℕ → Bool
common c =
    eqb (get_or c 0 0) 0x00 && (eqb (get_or c 1 0) 0x11 && (eqb (get_or c 2 0) 0x86 && (eqb (get_or c 3 0) 0x05 && (eqb (get_or c 4 0) 0x01 && eqb (get_or c 6 0) 0x01))))

-- which of the two names octets are: 1 for the structured dialogue, 2 for the unstructured, 0 for another
unfoldable pub kind_of : Bool → Bool → ℕ
kind_of true u = 1
kind_of false true = 2
kind_of false false = 0

abbrev pub name_kind : List ℕ → ℕ
name_kind c = kind_of (same structured c) (same unstructured c)
