-- What a step may rely on, and what its parts ask for. Assumes nothing: these are definitions.
use Rattle.std.specs.Prelude.{ℕ, ◌<◌, Option as Optional, Some, None, Result, Ok, Err}
use mathlib.Core.{List.List}
use lib.{ListN.length}
use Rattle.transaction_states.specs.declared.{TableRefusal.TableRefusal, Deed.Deed}
use Rattle.open_transactions.specs.Table.{capacity}

-- What a step may rely on: a room is one of the table's, and an ID that is kept has 4 octets at most

abbrev pub Inside : Optional ℕ → Type 0
Inside None = Unit {0}
Inside (Some i) = i < capacity

pub record Kept (o p : List ℕ) (i : ℕ) : Type 0 where
  pub inside : i < capacity
  pub ours : length o < 5
  pub partner : length p < 5

abbrev pub Doable : List ℕ → List ℕ → Result Deed TableRefusal → Type 0
Doable o p (Err k) = Unit {0}
Doable o p (Ok (Deed.Opens i s)) = Kept o p i
Doable o p (Ok (Deed.Keeps i)) = Kept o p i
Doable o p (Ok (Deed.Activates i)) = Kept o p i
Doable o p (Ok (Deed.Learns i)) = Kept o p i
Doable o p (Ok (Deed.Closes i)) = Kept o p i
