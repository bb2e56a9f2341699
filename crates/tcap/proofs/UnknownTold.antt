-- Which originating ID goes with 8, by the grammar. Assumes nothing.
use Rattle.tcap.specs.Reading.{outcome_of}
use Rattle.std.specs.Prelude.{Err}
use Rattle.std.specs.Prelude.{Some, None}
use Prim.Native.Nat.{ℕ, ◌≤◌}
use mathlib.Core.Path.{◌≡◌, refl, sym, ◌∙◌}
use mathlib.Core.Logic.{◌↔◌}
use mathlib.Core.Bool.{Bool, false, false≢true}
use mathlib.Core.List.{List}
use mathlib.Core.Option.{Option, none, some, map, get_or}
use native.Mathlib.Omega.{arith}
use lib.Dec.{eqb}
use lib.IntN.{ℤ}
use Rattle.element.specs.declared.FaultKind.{FaultKind}
use Rattle.element.specs.Fault.{number_of, Text, Owner, Fault, fault}
use Rattle.element.specs.Ask.{Got, got, bad}
use Rattle.element.proofs.StringPlaces.{nothing_ends}
use Rattle.tcap.specs.declared.{OrigTransactionId.OrigTransactionId, Refusal.Refusal}
use Rattle.tcap.specs.Meaning.{Message, orig}
use Rattle.tcap.specs.WellFormed.{Rules, the93}
use Rattle.tcap.specs.Record.{orig_field}
use Rattle.tcap.specs.Reading.{located_up_to, refusal_of, answered, reading_up_to, reading}
use Rattle.tcap.specs.Due.{Parts}
use Rattle.tcap.specs.Refused.{LengthWrong, gone, cut, reserved, endless, wasteful, passing, passing_long, Unfit, unknown, another, too_many, Faulty, tag_cut, tag_bad, zero_code, too_deep, unfit, length_wrong, bad_contents, element, found, Refuses, no_message, within, UnknownOrig, begun, unbegun}
use Rattle.tcap.proofs.UnknownType.{unknown_is, BeginsWithId, opens_begins, begins_opens}
use Rattle.tcap.proofs.Found.{same_some}
use Rattle.tcap.proofs.FaultExactly.{fault_pinned}

-- 8 is found nowhere inside a message

other_kind : {k : FaultKind} → k ≡ FaultKind.NoMessage → eqb (number_of k) 8 ≡ false → ⊥
unfolding number_of
other_kind e f = false≢true (sym f ∙ rw e refl)

length_never : {c : Bool} {q : List ℕ} {k : FaultKind} → LengthWrong c q k → k ≡ FaultKind.NoMessage → ⊥
unfolding number_of
length_never gone e = other_kind e refl
length_never (cut a b d) e = other_kind e refl
length_never (reserved a) e = other_kind e refl
length_never (endless a) e = other_kind e refl
length_never (wasteful a b d f) e = other_kind e refl
length_never (passing a b) e = other_kind e refl
length_never (passing_long a b d f g) e = other_kind e refl

unfit_never : {r : Parts} {k : FaultKind} → Unfit r k → k ≡ FaultKind.NoMessage → ⊥
unfolding number_of
unfit_never (unknown a) e = other_kind e refl
unfit_never (another a b) e = other_kind e refl
unfit_never (too_many a) e = other_kind e refl

faulty_never : {rules : Rules} {l : ℕ} {r : Parts} {part : List ℕ} {k : FaultKind} → Faulty rules l r part k → k ≡ FaultKind.NoMessage → ⊥
unfolding number_of
faulty_never (tag_cut w) e = other_kind e refl
faulty_never (tag_bad w) e = other_kind e refl
faulty_never (zero_code w z) e = other_kind e refl
faulty_never (too_deep g j) e = other_kind e refl
faulty_never (unfit g j f u) e = unfit_never u e
faulty_never (length_wrong g j f w) e = length_never w e
faulty_never (bad_contents j f s z w) e = other_kind e refl

only_unknown : {rules : Rules} {m : List ℕ} {p : ℕ} {w : Owner} {i : Option ℤ} {t : Option Text} → Refuses rules m (fault FaultKind.NoMessage p w i t) → UnknownOrig rules m t
only_unknown (no_message b e z u) = u
only_unknown (within b e z (found way (element x y f))) = absurd (faulty_never f refl)

-- With 8 goes the ID that the octets begin with, and no other

one_id : {x t s : Option Text} → x ≡ t → x ≡ s → t ≡ s
one_id e f = sym e ∙ f

module _ (rules : Rules) (deep : 2 ≤ rules.limit) (m : List ℕ) where
  by_table : {t : Option Text} → UnknownOrig rules m t → (s : Text) → (t ≡ some s) ↔ BeginsWithId m s
  by_table (begun {s = t} w) s =
      (λ e. let z : t ≡ s = same_some e in rw z at (opens_begins rules m t w), λ b. one_id (unknown_is rules m (begun w)) (unknown_is rules m (begun (begins_opens rules m s deep b))))
  by_table (unbegun h) s = (λ e. nothing_ends e, λ b. absurd (h s (begins_opens rules m s deep b)))

  pub unknown_told : (p : ℕ) (w : Owner) (i : Option ℤ) (t : Option Text) → located_up_to rules m ≡ bad (fault FaultKind.NoMessage p w i t) → (s : Text) → (t ≡ some s) ↔ BeginsWithId m s
  unknown_told p w i t e = by_table (only_unknown (fault_pinned rules m (fault FaultKind.NoMessage p w i t) e))

-- and of readings: the ID of a refusal is a place and a length

abbrev Gives : List ℕ → OrigTransactionId → Type 0
Gives m o = (s : Text) × (orig_field (orig s) ≡ Some o) × BeginsWithId m s

field_told : (m : List ℕ) (o : OrigTransactionId) (t : Option Text) → ((s : Text) → (t ≡ some s) ↔ BeginsWithId m s) → (get_or (map (λ s. orig_field (orig s)) t) None ≡ Some o) ↔ Gives m o
field_told m o none h = (λ e. let z : ◌≡◌ {A = ℕ} 0 1 = cc in absurd (omega arith), λ (s, e, b). nothing_ends ((h s).1 b))
field_told m o (some t) h = (λ e. (t, e, (h t).0 refl), λ (s, e, b). let z : t ≡ s = same_some ((h s).1 b) in rw z e)

by_fault : (m : List ℕ) (f : Fault) → located_up_to the93 m ≡ bad f → (o : OrigTransactionId) → (refusal_of f).kind ≡ FaultKind.NoMessage → ((refusal_of f).orig ≡ Some o) ↔ Gives m o
unfolding refusal_of
by_fault m (fault k p w i t) e o is = field_told m o t (unknown_told the93 (omega arith) m p w i t (rw is at e))

by_reading : (m : List ℕ) (x : Got (Message Text)) → located_up_to the93 m ≡ x → (r : Refusal) → outcome_of (answered x) ≡ Err r → r.kind ≡ FaultKind.NoMessage → (o : OrigTransactionId) → (r.orig ≡ Some o) ↔ Gives m o
unfolding answered
by_reading m (got v n) e r h k o = let z : ◌≡◌ {A = ℕ} 0 1 = cc in absurd (omega arith)
by_reading m (bad f) e r h k o = let z : refusal_of f ≡ r = cc in rw z at (by_fault m f e o (rw z k))

pub strange_told : (m : List ℕ) (r : Refusal) → outcome_of (reading m) ≡ Err r → r.kind ≡ FaultKind.NoMessage
    → (o : OrigTransactionId) → (r.orig ≡ Some o) ↔ ((s : Text) × (orig_field (orig s) ≡ Some o) × BeginsWithId m s)
unfolding reading reading_up_to
strange_told m r h k o = by_reading m (located_up_to the93 m) refl r h k o
