-- An entry of the table as 12 octets: state, length of our ID, of the partner's, one octet that is not used, our ID in four octets and the partner's. Assumes nothing: these are definitions.
use Rattle.std.specs.Prelude.{ℕ}
use mathlib.Core.{List.List, List.[], List.◌∷◌, List.◌++◌}
use lib.{ListN.length, ListN.get_or, ListN.replicate}
use Rattle.transaction_states.specs.declared.{State.State}
use Rattle.transaction_states.specs.Events.{state_octet}

-- The octets of an entry

abbrev pub four_of : List ℕ → List ℕ
four_of id = get_or id 0 0 ∷ get_or id 1 0 ∷ get_or id 2 0 ∷ get_or id 3 0 ∷ []

abbrev pub entry_octets : State → List ℕ → List ℕ → List ℕ
entry_octets s o p = state_octet s ∷ length o ∷ length p ∷ 0 ∷ four_of o ++ four_of p

abbrev pub blank_octets : List ℕ
blank_octets = replicate 12 0
