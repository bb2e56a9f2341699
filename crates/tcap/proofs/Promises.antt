-- Demands 2 and 3: what reads so is accepted and nothing else is, each message reads in one way, what is written reads so and is the shortest.
-- Assumes nothing.
use Rattle.tcap.specs.Reading.{outcome_of, handed_back}
use Rattle.std.specs.Prelude.{Ok}
use Prim.Native.Nat.{ℕ, ◌+◌, ◌≤◌, ◌<◌}
use mathlib.Core.Path.{◌≡◌, refl, sym, ap, ◌∙◌}
use mathlib.Core.Logic.{◌↔◌}
use mathlib.Core.Bool.{Bool, true}
use mathlib.Core.List.{List, [], ◌∷◌, ◌++◌, append-nil}
use mathlib.Core.Option.{none, some}
use native.Mathlib.Omega.{arith}
use lib.ListN.{length, length-map}
use lib.Seq.{take_all}
use lib.Dec.{ltb, leb, eqb}
use borrow.Author.Tests.{lt-ltb, le-leb, leb-true, eq-eqb, eqb-true}
use Rattle.element.specs.declared.{FaultKind.FaultKind}
use Rattle.element.specs.Form.{Matches, ◌⊑◌, document01}
use Rattle.element.specs.Fault.{Text, Fault, at}
use Rattle.element.specs.declared.TagRead.TheVariants.{Tag}
use Rattle.element.specs.Head.{tag_of}
use Rattle.element.specs.Ask.{Got, got, bad, check, Head, ask}
use Rattle.element.specs.Parts.{first_of}
use Rattle.element.proofs.Heads.{TagIs, tag_sound}
use Rattle.element.proofs.Asking.{Then, fact, void, the_fact, then_next, then_check, then_blamed, next_of, blamed_of, HeadOf, finite, unended, ask_head, ask_sound}
use Rattle.element.proofs.ItemLaws.{Reads as ItemReads}
use Rattle.element.proofs.Shortest.{cap, Octets, document01_laws, ⊑-length, shortest_matches, shortest_least, never_longer}
use Rattle.tcap.specs.declared.{Record.Record}
use Rattle.tcap.specs.Meaning.{Message, unidirectional, begin, finish, continue, abort, Meaning, message_form, written}
use Rattle.tcap.specs.WellFormed.{Rules, most_octets, most_components, the93, deepest_level, WellFormedUpTo, WellFormed, ReadsUpTo, Reads}
use Rattle.tcap.specs.Record.{record_of, meaning_of, Same}
use Rattle.tcap.specs.Productions.{message_item}
use Rattle.tcap.specs.Reading.{learnt, alone_body, read_first, located_up_to, answered, reading_up_to, reading}
use Rattle.tcap.proofs.Strings.{octets_of, component_as, forget}
use Rattle.tcap.proofs.Messages.{message_laws}
use Rattle.tcap.proofs.Records.{components, record_means}
use Rattle.tcap.proofs.Places.{strings_sit}

-- Demand 2 of what is read with its places

first_is : (a : ℕ) (r : List ℕ) (h : Head) → HeadOf (a ∷ r) h → first_of h ≡ a
unfolding TagIs
first_is a r h (finite b s k n t z l) = let i : TagIs (a ∷ r) (Tag b s) = rw t at (tag_sound (a ∷ r)) in let q : a ∷ r ≡ b ∷ (i.0 ++ i.1) = i.2 in cc
first_is a r h (unended b s t z l) = let i : TagIs (a ∷ r) (Tag b s) = rw t at (tag_sound (a ∷ r)) in let q : a ∷ r ≡ b ∷ (i.0 ++ i.1) = i.2 in cc

no_first : (h : Head) → HeadOf [] h → ⊥
unfolding tag_of
no_first h (finite a s k n t z l) = let z : ◌≡◌ {A = ℕ} 0 1 = cc in absurd (omega arith)
no_first h (unended a s t z l) = let z : ◌≡◌ {A = ℕ} 0 1 = cc in absurd (omega arith)

check_of : {A : Type 0} {t : Bool} (f : Fault) (x : Got A) → t ≡ true → check t f x ≡ x
unfolding check
check_of f x e = rw e

module _ (rules : Rules) (big : 8 ≤ rules.limit) where
  top : ltb 0 rules.limit ≡ true
  top = lt-ltb 0 rules.limit (omega arith)

  first_read : (m : List ℕ) (h : Head) → HeadOf m h → (message_item rules).mine (first_of h) ≡ true → read_first rules (message_item rules) m ≡ ask (alone_body rules (message_item rules)) true 0 m
  unfolding read_first
  first_read [] h i o = absurd (no_first h i)
  first_read (a ∷ r) h i o = check_of _ _ (rw (← (first_is a r h i)) o)

  pub reads_located : (m : List ℕ) (μ : Meaning) → ReadsUpTo rules m μ → (v : Message Text) × (located_up_to rules m ≡ got v (length m)) × (forget v ≡ μ)
  unfolding located_up_to
  reads_located m μ r =
      let c : ItemReads (message_item rules) forget μ 0 m (length m) = rw append-nil at ((message_laws rules big).complete μ m [] 0 r.fine r.form) in (
        c.value,
        check_of _ _ (le-leb (length m) most_octets r.short)
            ∙ first_read m c.lead c.heads c.mine
            ∙ ask_head (alone_body rules (message_item rules)) true 0 m c.lead c.heads refl top c.mine
            ∙ next_of _ c.reads
            ∙ blamed_of (learnt c.value) (check_of _ _ (eq-eqb (length m) (length m) refl)),
        c.means,
      )

  abbrev Says : List ℕ → Message Text → ℕ → Type 0
  Says m v n = WellFormedUpTo rules (forget v) × Matches document01 (message_form (forget v)) m

  alone_sound : (m : List ℕ) → Then (Says m) (ask (alone_body rules (message_item rules)) true 0 m)
  alone_sound m =
      ask_sound _ (alone_body rules (message_item rules)) true 0 m (λ v e f. let z : ◌≡◌ {A = ℕ} 0 1 = cc in absurd (omega arith)) λ h i o.
      then_next ((message_laws rules big).sound 0 m h i o) λ v n t. then_blamed (learnt v) (then_check (eqb n (length m)) (at FaultKind.OctetsAfter (0 + n)) λ w.
      fact {a = v} {n = n} (t.fine, rw (take_all n m (omega (arith, eqb-true n (length m) w))) at t.matches))

  first_sound : (m : List ℕ) → Then (Says m) (read_first rules (message_item rules) m)
  unfolding read_first
  first_sound [] = void
  first_sound (a ∷ r) = then_check ((message_item rules).mine a) _ λ e. alone_sound (a ∷ r)

  located_sound : (m : List ℕ) → Then (λ v n. ReadsUpTo rules m (forget v)) (located_up_to rules m)
  unfolding located_up_to
  located_sound m = then_check (leb (length m) most_octets) (at FaultKind.Overlong most_octets) λ e. weak (leb-true (length m) most_octets e) (first_sound m)
    where
      weak : length m ≤ most_octets → {x : Got (Message Text)} → Then (Says m) x → Then (λ v n. ReadsUpTo rules m (forget v)) x
      weak k (fact {a = v} {n = n} h) = fact {a = v} {n = n} (record { short = k; fine = h.0; form = h.1 })
      weak k void = void

  pub located_reads : (m : List ℕ) (v : Message Text) (n : ℕ) → located_up_to rules m ≡ got v n → ReadsUpTo rules m (forget v)
  located_reads m v n e = the_fact {P = λ v n. ReadsUpTo rules m (forget v)} {n = n} (rw e at (located_sound m))

-- The record of what was read means it

count_kept : (v : Message Text) → length (components v) ≡ length (components (forget v))
count_kept (unidirectional d cs) = sym (length-map cs (component_as octets_of))
count_kept (begin o d cs) = sym (length-map cs (component_as octets_of))
count_kept (finish e d cs) = sym (length-map cs (component_as octets_of))
count_kept (continue o e d cs) = sym (length-map cs (component_as octets_of))
count_kept (abort e s) = refl

few_components : (rules : Rules) (μ : Meaning) → WellFormedUpTo rules μ → length (components μ) ≤ most_components
unfolding WellFormedUpTo
few_components rules (unidirectional d cs) o = o.2.0
few_components rules (begin i d cs) o = o.2.0
few_components rules (finish i d cs) o = o.2.0
few_components rules (continue i j d cs) o = o.3.0
few_components rules (abort e s) o = omega arith

module _ (rules : Rules) (big : 8 ≤ rules.limit) where
  read_means : (m : List ℕ) (v : Message Text) (n : ℕ) → located_up_to rules m ≡ got v n → meaning_of (record_of v) m ≡ some (forget v)
  read_means m v n e = record_means m v (omega (arith, count_kept v, few_components rules (forget v) (located_reads rules big m v n e).fine)) (strings_sit rules m v n e)

  -- demand 2: reading accepts m, with a record of meaning μ over m, exactly if m reads as μ
  pub reads_accepted_up_to : (m : List ℕ) (μ : Meaning) → ReadsUpTo rules m μ → (outcome_of (reading_up_to rules m) ≡ Ok tt) × (meaning_of (handed_back (reading_up_to rules m)) m ≡ some μ)
  unfolding reading_up_to answered
  reads_accepted_up_to m μ r =
      let a = reads_located rules big m μ r in
      rw a.1 (refl, read_means m a.0 (length m) a.1 ∙ ap (λ (ν : Meaning). some ν) a.2)

  by_outcome : (m : List ℕ) (x : Got (Message Text)) → located_up_to rules m ≡ x → outcome_of (answered x) ≡ Ok tt → (μ : Meaning) × (meaning_of (handed_back (answered x)) m ≡ some μ) × ReadsUpTo rules m μ
  unfolding answered
  by_outcome m (got v n) e h = (forget v, read_means m v n e, located_reads rules big m v n e)
  by_outcome m (bad f) e h = let z : ◌≡◌ {A = ℕ} 0 1 = cc in absurd (omega arith)

  pub accepted_reads_up_to : (m : List ℕ) → outcome_of (reading_up_to rules m) ≡ Ok tt → (μ : Meaning) × (meaning_of (handed_back (reading_up_to rules m)) m ≡ some μ) × ReadsUpTo rules m μ
  unfolding reading_up_to
  accepted_reads_up_to m h = by_outcome m (located_up_to rules m) refl h

-- with document 01's 16 levels
enough : 8 ≤ deepest_level
enough = omega arith

pub reads_accepted : (m : List ℕ) (μ : Meaning) → Reads m μ → (outcome_of (reading m) ≡ Ok tt) × (meaning_of (handed_back (reading m)) m ≡ some μ)
unfolding reading
reads_accepted m μ r = reads_accepted_up_to the93 enough m μ r

pub accepted_reads : (m : List ℕ) → outcome_of (reading m) ≡ Ok tt → (μ : Meaning) × (meaning_of (handed_back (reading m)) m ≡ some μ) × Reads m μ
unfolding reading
accepted_reads m h = accepted_reads_up_to the93 enough m h

-- no second meaning
pub one_meaning : (m : List ℕ) (μ ν : Meaning) → Reads m μ → Reads m ν → μ ≡ ν
one_meaning m μ ν r s =
    let e : some μ ≡ some ν = sym (reads_accepted m μ r).1 ∙ (reads_accepted m ν s).1 in
    cc

-- Demand 3

pub written_reads : (μ : Meaning) → WellFormed μ → length (written μ) ≤ most_octets → Reads (written μ) μ
unfolding written WellFormed
written_reads μ o k = record { short = k; fine = o; form = shortest_matches document01 document01_laws (message_form μ) (omega arith) }

-- strictly shorter than every other
pub written_least : (m : List ℕ) (μ : Meaning) → Reads m μ → written μ ⊑ m
unfolding written
written_least m μ r = shortest_least document01 document01_laws (message_form μ) m r.form (omega (arith, r.short))

-- over 255 octets none reads so
pub none_other : (μ : Meaning) → most_octets < length (written μ) → (m : List ℕ) → Reads m μ → ⊥
none_other μ h m r = omega (arith, r.short, ⊑-length (written μ) m (written_least m μ r))

-- it fits exactly if some message of that meaning does
pub fits_exactly : (room : ℕ) (μ : Meaning) → WellFormed μ → ((length (written μ) ≤ most_octets) × (length (written μ) ≤ room)) ↔ ((m : List ℕ) × Reads m μ × (length m ≤ room))
fits_exactly room μ o = (
  λ h. (written μ, written_reads μ o h.0, h.1),
  λ h. (omega (arith, h.1.short, ⊑-length (written μ) h.0 (written_least h.0 μ h.1)), omega (arith, h.2, ⊑-length (written μ) h.0 (written_least h.0 μ h.1))),
)

-- and among octets of any number, below the size cap, none of the same form is shorter
pub written_never_longer : (m : List ℕ) (μ : Meaning) → Matches document01 (message_form μ) m → Octets m → length m < cap → length (written μ) ≤ length m
unfolding written
written_never_longer m μ = never_longer document01 document01_laws (message_form μ) m

-- The same record: only where both have a meaning, and then it is one

pub same_means : (r s : Record) (m n : List ℕ) (μ : Meaning) → Same r m s n → meaning_of r m ≡ some μ → meaning_of s n ≡ some μ
unfolding Same
same_means r s m n μ (ν, p, q) e = q ∙ sym p ∙ e

pub same_both : (r s : Record) (m n : List ℕ) → Same r m s n → ((meaning_of r m ≡ none) → ⊥) × ((meaning_of s n ≡ none) → ⊥)
unfolding Same
same_both r s m n (μ, p, q) = (λ e. let z : ◌≡◌ {A = ℕ} 0 1 = cc in omega arith, λ e. let z : ◌≡◌ {A = ℕ} 0 1 = cc in omega arith)
