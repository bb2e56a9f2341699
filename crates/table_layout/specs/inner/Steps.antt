-- What a step on octets may rely on. Assumes nothing: these are definitions.
use Rattle.std.specs.Prelude.{ℕ, ◌*◌, ◌≡◌, Result, Ok, Err}
use mathlib.Core.{Bool.true, List.List}
use lib.{ListN.drop}
use Rattle.open_transactions.specs.Table.{holds}
use Rattle.transaction_states.specs.declared.{TableRefusal.TableRefusal, Deed.Deed}
use Rattle.table_layout.specs.Octets.{entry_of}

-- a partner's ID is stored in an entry under ours
abbrev pub HoldsOurs : List ℕ → List ℕ → Result Deed TableRefusal → Type 0
HoldsOurs l o (Err k) = Unit {0}
HoldsOurs l o (Ok (Deed.Opens i s)) = Unit {0}
HoldsOurs l o (Ok (Deed.Keeps i)) = Unit {0}
HoldsOurs l o (Ok (Deed.Activates i)) = Unit {0}
HoldsOurs l o (Ok (Deed.Learns i)) = holds o (entry_of (drop (i * 12) l)) ≡ true
HoldsOurs l o (Ok (Deed.Closes i)) = Unit {0}
