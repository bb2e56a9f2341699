-- Which parts make a message of each kind: the meaning that they make, its octets, and when it is well-formed. Assumes nothing.
use Prim.Native.Nat.{ℕ, suc}
use mathlib.Core.Path.{◌≡◌, refl}
use mathlib.Core.Logic.{◌↔◌, ◌⊎◌, inl, inr}
use mathlib.Core.Bool.{Bool, true, false}
use mathlib.Core.List.{List, [], ◌∷◌, append-nil}
use mathlib.Core.Option.{Option, none, some, bind}
use native.Mathlib.Omega.{arith}
use lib.ListN.{length}
use borrow.Author.Tests.{ne_eqb, le-leb, leb-true}
use Rattle.base.specs.Value.{Every, Maybe}
use Rattle.element.specs.Form.{Form, then, maybe, around, shortest}
use Rattle.tcap.specs.declared.{MessageKind.MessageKind}
use Rattle.tcap.specs.Meaning.{Originating, Destination, Component, Dialogue, Ending, silent, cause, says, unidirectional, begin, finish, continue, abort, Meaning, orig_form, dest_form, dialogue_form, ending_form, components_form, message_form, written}
use Rattle.tcap.specs.WellFormed.{DialogueOk, EndingOk, ComponentsOk, OrigOk, DestOk, the93, WellFormedUpTo, WellFormed}
use Rattle.tcap.specs.Record.{portion_of, parts_mean, message_tag}
use Rattle.tcap.specs.Verdict.{parts_fit}
use Rattle.write_check_row.specs.Forms.{octets_of}

abbrev pub there : {A : Type 0} → Option A → Bool
there none = false
there (some a) = true

abbrev pub caused : Ending (List ℕ) → Bool
caused silent = false
caused (cause n) = true
caused (says d) = false

-- [6B] before the components
abbrev pub portion : Option (Dialogue (List ℕ)) → Ending (List ℕ)
portion none = silent
portion (some d) = says d

-- the parts make this meaning
pub data Made : MessageKind → Option (Originating (List ℕ)) → Option (Destination (List ℕ)) → Ending (List ℕ) → List (Component (List ℕ)) → Meaning → Type 0 where
  uni : {d : Option (Dialogue (List ℕ))} {cs : List (Component (List ℕ))} → Made MessageKind.Unidirectional none none (portion d) cs (unidirectional d cs)
  began : {o : Originating (List ℕ)} {d : Option (Dialogue (List ℕ))} {cs : List (Component (List ℕ))} → Made MessageKind.Begin (some o) none (portion d) cs (begin o d cs)
  ended : {e : Destination (List ℕ)} {d : Option (Dialogue (List ℕ))} {cs : List (Component (List ℕ))} → Made MessageKind.End none (some e) (portion d) cs (finish e d cs)
  continued : {o : Originating (List ℕ)} {e : Destination (List ℕ)} {d : Option (Dialogue (List ℕ))} {cs : List (Component (List ℕ))} → Made MessageKind.Continue (some o) (some e) (portion d) cs (continue o e d cs)
  broken : {e : Destination (List ℕ)} {s : Ending (List ℕ)} → Made MessageKind.Abort none (some e) s [] (abort e s)

-- they mean it
portion_of_lem : (m : List ℕ) (d : Option (Dialogue (List ℕ))) → portion_of m (portion d) ≡ some d
portion_of_lem m none = refl
portion_of_lem m (some d) = refl

pub made_means : (m : List ℕ) {k : MessageKind} {o : Option (Originating (List ℕ))} {e : Option (Destination (List ℕ))} {s : Ending (List ℕ)} {cs : List (Component (List ℕ))} {μ : Meaning} → Made k o e s cs μ → parts_mean m k o e s cs ≡ some μ
unfolding bind
made_means m (uni {d}) = rw (portion_of_lem m d)
made_means m (began {o} {d}) = rw (portion_of_lem m d)
made_means m (ended {e} {d}) = rw (portion_of_lem m d)
made_means m (continued {o} {e} {d}) = rw (portion_of_lem m d)
made_means m broken = refl

-- parts that mean nothing do not fit the kind
pub make : (m : List ℕ) (k : MessageKind) (o : Option (Originating (List ℕ))) (e : Option (Destination (List ℕ))) (s : Ending (List ℕ)) (cs : List (Component (List ℕ)))
    → ((parts_mean m k o e s cs ≡ none) × (parts_fit k (there o) (there e) (caused s) (length cs) ≡ false)) ⊎ ((μ : Meaning) × Made k o e s cs μ)
unfolding bind parts_fit
make m MessageKind.Unidirectional none none silent cs = inr (_, uni {d = none})
make m MessageKind.Unidirectional none none (says d) cs = inr (_, uni {d = some d})
make m MessageKind.Unidirectional none none (cause n) cs = inl (refl, refl)
make m MessageKind.Unidirectional none (some e) s cs = inl (refl, refl)
make m MessageKind.Unidirectional (some o) e s cs = inl (refl, refl)
make m MessageKind.Begin (some o) none silent cs = inr (_, began {d = none})
make m MessageKind.Begin (some o) none (says d) cs = inr (_, began {d = some d})
make m MessageKind.Begin (some o) none (cause n) cs = inl (refl, refl)
make m MessageKind.Begin (some o) (some e) s cs = inl (refl, refl)
make m MessageKind.Begin none e s cs = inl (refl, refl)
make m MessageKind.End none (some e) silent cs = inr (_, ended {d = none})
make m MessageKind.End none (some e) (says d) cs = inr (_, ended {d = some d})
make m MessageKind.End none (some e) (cause n) cs = inl (refl, refl)
make m MessageKind.End none none s cs = inl (refl, refl)
make m MessageKind.End (some o) e s cs = inl (refl, refl)
make m MessageKind.Continue (some o) (some e) silent cs = inr (_, continued {d = none})
make m MessageKind.Continue (some o) (some e) (says d) cs = inr (_, continued {d = some d})
make m MessageKind.Continue (some o) (some e) (cause n) cs = inl (refl, refl)
make m MessageKind.Continue (some o) none s cs = inl (refl, refl)
make m MessageKind.Continue none e s cs = inl (refl, refl)
make m MessageKind.Abort none (some e) s [] = inr (_, broken)
make m MessageKind.Abort none (some e) s (c ∷ cs) = inl (refl, ne_eqb (suc (length cs)) 0 (λ h. omega arith))
make m MessageKind.Abort none none s cs = inl (refl, refl)
make m MessageKind.Abort (some o) e s cs = inl (refl, refl)

-- its octets
portion_form_lem : (d : Option (Dialogue (List ℕ))) → ending_form (portion d) ≡ maybe dialogue_form d
unfolding ending_form
portion_form_lem none = refl
portion_form_lem (some d) = refl

abbrev pub parts_form : MessageKind → Option (Originating (List ℕ)) → Option (Destination (List ℕ)) → Ending (List ℕ) → List (Component (List ℕ)) → Form
parts_form k o e s cs = around (message_tag k) (then (maybe orig_form o) (then (maybe dest_form e) (then (ending_form s) (components_form cs))))

pub made_octets : {k : MessageKind} {o : Option (Originating (List ℕ))} {e : Option (Destination (List ℕ))} {s : Ending (List ℕ)} {cs : List (Component (List ℕ))} {μ : Meaning} → Made k o e s cs μ → written μ ≡ octets_of (parts_form k o e s cs)
unfolding written message_form shortest components_form
made_octets (uni {d}) = rw (portion_form_lem d)
made_octets (began {o} {d}) = rw (portion_form_lem d)
made_octets (ended {e} {d}) = rw (portion_form_lem d)
made_octets (continued {o} {e} {d}) = rw (portion_form_lem d)
made_octets broken = rw append-nil

-- and when it is well-formed
portion_ok : (d : Option (Dialogue (List ℕ))) → Maybe (DialogueOk the93) d ↔ EndingOk the93 (portion d)
portion_ok none = (λ o. o, λ o. o)
portion_ok (some d) = (λ o. o, λ o. o)

portion_cause : (d : Option (Dialogue (List ℕ))) → caused (portion d) ≡ false
portion_cause none = refl
portion_cause (some d) = refl

abbrev pub PartsOk : MessageKind → Option (Originating (List ℕ)) → Option (Destination (List ℕ)) → Ending (List ℕ) → List (Component (List ℕ)) → Type 0
PartsOk k o e s cs =
    (parts_fit k (there o) (there e) (caused s) (length cs) ≡ true) × Maybe OrigOk o × Maybe DestOk e × EndingOk the93 s × ComponentsOk the93 cs

pub made_ok : {k : MessageKind} {o : Option (Originating (List ℕ))} {e : Option (Destination (List ℕ))} {s : Ending (List ℕ)} {cs : List (Component (List ℕ))} {μ : Meaning} → Made k o e s cs μ → WellFormed μ ↔ PartsOk k o e s cs
unfolding WellFormed WellFormedUpTo parts_fit Every
made_ok (uni {d} {cs}) = (
  λ h. (rw (portion_cause d) (le-leb 1 (length cs) h.1), tt, tt, (portion_ok d).0 h.0, h.2),
  λ h. ((portion_ok d).1 h.3, leb-true 1 (length cs) (rw (portion_cause d) at h.0), h.4),
)
made_ok (began {o} {d}) = (λ h. (rw (portion_cause d), h.0, tt, (portion_ok d).0 h.1, h.2), λ h. (h.1, (portion_ok d).1 h.3, h.4))
made_ok (ended {e} {d}) = (λ h. (rw (portion_cause d), tt, h.0, (portion_ok d).0 h.1, h.2), λ h. (h.2, (portion_ok d).1 h.3, h.4))
made_ok (continued {o} {e} {d}) = (λ h. (rw (portion_cause d), h.0, h.1, (portion_ok d).0 h.2, h.3), λ h. (h.1, h.2, (portion_ok d).1 h.3, h.4))
made_ok broken = (λ h. (refl, tt, h.0, h.1, (omega arith, tt)), λ h. (h.2, h.3))
