-- What a unitdata is, in the page's words and with no order of questions: document 02, §6. Assumes nothing: these are definitions.
use Rattle.std.specs.Prelude.{ℕ, suc, ◌+◌, ◌≤◌, ◌<◌}
use mathlib.Core.{Path.◌≡◌, List.List}
use lib.{ListN.length, ListN.get_or, ListN.take, ListN.drop}
use Rattle.sccp.specs.declared.{Part.Part, Unitdata.Unitdata}
use Rattle.sccp.specs.Unitdata.{part_at}

-- octet k belongs to the part, whose length octet stands just before its place
unfoldable pub Covers : Part → ℕ → Type 0
Covers p k = (p.place ≤ suc k) × (k < p.place + p.len)

-- no octet belongs to both
unfoldable pub Disjoint : Part → Part → Type 0
Disjoint p q = (k : ℕ) → Covers p k → Covers q k → ⊥

-- the pointer at octet i, counted from its own octet, leads to the part's length octet, and all of it lies in the message
pub record Named (m : List ℕ) (i : ℕ) (p : Part) : Type 0 where
  pub pointed : i < length m
  pub placed : p.place ≡ suc (i + get_or m i 0)
  pub counted : p.len ≡ get_or m (i + get_or m i 0) 0
  pub covered : (k : ℕ) → Covers p k → k < length m

-- no octet of the part is among the first five
unfoldable pub Clear : Part → Type 0
Clear p = (k : ℕ) → Covers p k → 5 ≤ k

-- the parts, length octets included, lie in the message
pub record Inside (m : List ℕ) (u : Unitdata) : Type 0 where
  pub called_lies : Named m 2 u.called
  pub calling_lies : Named m 3 u.calling
  pub data_lies : Named m 4 u.userdata

-- they overlap neither the five octets before them nor each other
pub record Separate (u : Unitdata) : Type 0 where
  pub called_clear : Clear u.called
  pub calling_clear : Clear u.calling
  pub data_clear : Clear u.userdata
  pub addresses : Disjoint u.called u.calling
  pub called_data : Disjoint u.called u.userdata
  pub calling_data : Disjoint u.calling u.userdata

-- an address has at least one octet
pub record Addressed (u : Unitdata) : Type 0 where
  pub called_some : 0 < u.called.len
  pub calling_some : 0 < u.calling.len

-- what the pointers of a message name, whether or not it lies there
abbrev pub unitdata_at : List ℕ → Unitdata
unitdata_at m = record { class = get_or m 1 0; called = part_at m 2; calling = part_at m 3; userdata = part_at m 4 }

-- the octets m are the unitdata u
pub record Stands (m : List ℕ) (u : Unitdata) : Type 0 where
  pub typed : get_or m 0 0 ≡ 9
  pub classed : u.class ≡ get_or m 1 0
  pub lies : Inside m u
  pub separate : Separate u
  pub addressed : Addressed u

-- a part's octets, without its length octet
abbrev pub octets_of : List ℕ → Part → List ℕ
octets_of m p = take p.len (drop p.place m)

-- where the parts of a written unitdata stand: called address, calling address and data, each behind its length octet, without gaps
abbrev pub laid_out : ℕ → List ℕ → List ℕ → List ℕ → Unitdata
laid_out c a b d = record {
  class = c;
  called = record { place = 6; len = length a };
  calling = record { place = 7 + length a; len = length b };
  userdata = record { place = 8 + (length a + length b); len = length d };
}

-- what can be written, by the lengths of called address, calling address and data
pub record Ranged (a b d : ℕ) : Type 0 where
  pub called_some : 1 ≤ a
  pub calling_some : 1 ≤ b
  pub called_most : a ≤ 255
  pub calling_most : b ≤ 255
  pub data_most : d ≤ 255
  pub pointers : a + b ≤ 252
