-- How the code compares and puts entries: four octets as one number. Assumes nothing: these are definitions.
use Rattle.std.specs.Prelude.{ℕ, zero, suc, ◌+◌, ◌*◌}
use mathlib.Core.{Bool.Bool, Bool.false, Bool.cond, List.List, List.[], List.◌∷◌}
use lib.{ListN.length, ListN.get_or, ListN.drop, Seq.sets, Dec.eqb}
use Rattle.transaction_states.specs.Events.{is_open, state_in}
use Rattle.entry_octets.specs.Entries.{four_of}

-- How the code compares: four octets as one number, then the length, then the state

abbrev pub word_from : ℕ → ℕ → ℕ → ℕ → ℕ
word_from a b c d = a + (b * 256 + (c * 65536 + d * 16777216))

abbrev pub word_of : List ℕ → ℕ
word_of id = word_from (get_or id 0 0) (get_or id 1 0) (get_or id 2 0) (get_or id 3 0)

unfoldable pub held_in : List ℕ → ℕ → ℕ → Bool
held_in c w n = cond (eqb (word_from (get_or c 4 0) (get_or c 5 0) (get_or c 6 0) (get_or c 7 0)) w) (cond (eqb (get_or c 1 0) n) (is_open (state_in (get_or c 0 0))) false) false

-- how many of n entries stand before the first that is held: n if none is
unfoldable pub passed_in : List ℕ → ℕ → ℕ → ℕ → ℕ
passed_in c w n zero = 0
passed_in c w n (suc k) = cond (held_in c w n) 0 (suc (passed_in (drop 12 c) w n k))

-- How it puts a partner's ID: beside ours, which stands there

abbrev pub partner_put : List ℕ → ℕ → List ℕ → List ℕ → List ℕ
partner_put l at o p = sets (sets l at (3 ∷ length o ∷ length p ∷ 0 ∷ [])) (at + 8) (four_of p)
