-- Where all belongs to one owner: fields, parameters, and the dialogue portion inside 28 find their faults where they are. Assumes nothing.
use Prim.Native.Nat.{ℕ, suc, ◌≤◌}
use mathlib.Core.Path.{◌≡◌, refl}
use mathlib.Core.Bool.{Bool, true, false}
use mathlib.Core.List.{List}
use mathlib.Core.Option.{Option, none, some}
use native.Mathlib.Omega.{arith}
use lib.ListN.{get_or}
use lib.Dec.{eqb}
use lib.IntN.{ℤ}
use Rattle.base.specs.Value.{same}
use Rattle.primitive.specs.Primitive.{signed_of, integer_ok, identifier_ok, most_integer_octets}
use Rattle.element.specs.Element.{constructor_of, code_zero}
use Rattle.element.specs.Fault.{Text, Owner, Fault}
use Rattle.element.specs.declared.FaultKind.{FaultKind}
use Rattle.element.specs.Ask.{Body}
use Rattle.element.specs.Parts.{Item, leaf_item, around_item, then_body, only_body, last_body, silently}
use Rattle.element.specs.Walk.{element_of, any_tag, walk_contents}
use Rattle.tcap.specs.declared.{Problem.Problem, Diagnostic.Diagnostic}
use Rattle.tcap.specs.Meaning.{local, global, Dialogue, request, unidialogue, response, aborted, single, octets as kept, structured, unstructured, version}
use Rattle.tcap.specs.WellFormed.{Rules, left_at, most_user_diagnostic, most_provider_diagnostic}
use Rattle.tcap.specs.Productions.{single?, octet_item, name_item, code_item, problem_item, version_body, level_at, parameter_item, info_body, context_item, asked_item, number_item, source_item, answered_item, aborted_item, held_item, external_body}
use Rattle.tcap.specs.Due.{Parts, end, must, may, many, Choice, tag, either, any, Holds, octets, parts, code, problem, information, version as version_one, context, number, asked, answered, aborted as stopped, named, external, find, position}
use Rattle.tcap.specs.Refused.{another}
use Rattle.tcap.proofs.Found.{tag_mine, tag_held, quiet, BodyFinds, ItemFinds, Said, Silent, leaf_finds, around_tells, kept_finds, quietly, silence, or_finds}
use Rattle.tcap.proofs.FoundContents.{At, quiet_rest, bind_tells, then_finds, only_finds, last_finds, opt_finds, map_body_finds, series_finds, walk_finds}

-- all faults belong to w, and carry these IDs
pub record Zone (rules : Rules) (m : List ℕ) (w : Owner) (i : Option ℤ) (t : Option Text) (W : Fault → Fault) : Type 0 where
  pub said : Said rules m w i t W

named_quiet : (s u : Bool) → quiet (named s u) ≡ true
named_quiet true u = refl
named_quiet false true = refl
named_quiet false false = refl

module _ (rules : Rules) (m : List ℕ) {w : Owner} {i : Option ℤ} {t : Option Text} {W : Fault → Fault} (zone : Zone rules m w i t W) where
  abbrev ItemZ : {L : Type 0} → Item L → ℕ → Choice → Type 0
  ItemZ x l ch = ItemFinds rules m x l ch w i t W (Silent rules m)

  abbrev BodyZ : {L : Type 0} → Body L → ℕ → Parts → Type 0
  BodyZ b l r = (room : ℕ) → BodyFinds rules m b l room r w w i t W

  pub here : (l : ℕ) → At rules m l w w i t W (level_at rules l)
  here l = record { ends = zone.said; owned = zone.said; left = refl }

  -- Fields

  leaf_z : {l : ℕ} (a : ℕ) (fits : List ℕ → Bool) → constructor_of a ≡ false → ItemZ (leaf_item a fits) l (tag a (octets fits))
  leaf_z a fits c = silence rules m (leaf_finds rules m a fits (octets fits) c refl (λ c. refl) zone.said)

  pub octet_z : {l : ℕ} (a most : ℕ) → constructor_of a ≡ false → ItemZ (octet_item a most) l (tag a (octets (single? most)))
  octet_z a most c = quietly rules m (λ v. get_or v.1 0 0) (leaf_z a (single? most) c)

  name_z : {l : ℕ} → ItemZ name_item l (tag 0x06 (octets identifier_ok))
  unfolding constructor_of
  name_z = leaf_z 0x06 identifier_ok refl

  code_z : {l : ℕ} → ItemZ code_item l code
  unfolding constructor_of
  code_z = or_finds rules m (quietly rules m local (quietly rules m (λ v. signed_of v.1) (leaf_z 0x02 (integer_ok most_integer_octets) refl))) (quietly rules m global name_z)

  pub linked_z : {l : ℕ} → ItemZ (leaf_item 0x80 (integer_ok 1)) l (tag 0x80 (octets (integer_ok 1)))
  unfolding constructor_of
  linked_z = leaf_z 0x80 (integer_ok 1) refl

  pub problem_z : {l : ℕ} → ItemZ problem_item l problem
  unfolding constructor_of
  problem_z =
      or_finds rules m (quietly rules m Problem.General (octet_z 0x80 _ refl))
      (or_finds rules m (quietly rules m Problem.OfInvoke (octet_z 0x81 _ refl)) (or_finds rules m (quietly rules m Problem.OfResult (octet_z 0x82 _ refl)) (quietly rules m Problem.OfError (octet_z 0x83 _ refl))))

  -- Contents at level l

  then_z : {L M : Type 0} {x : Item L} {y : Body M} {ch : Choice} {r : Parts} (l : ℕ) → 2 ≤ l → quiet ch ≡ true → ItemZ x l ch → BodyZ y l r → BodyZ (then_body (level_at rules l) x y) l (must ch r)
  then_z l low q s b room = then_finds rules m low (level_at rules l) room q (here l) s (b room)

  only_z : {L : Type 0} {x : Item L} {ch : Choice} (l : ℕ) → 2 ≤ l → quiet ch ≡ true → ItemZ x l ch → BodyZ (only_body (level_at rules l) x) l (must ch end)
  only_z l low q s room = only_finds rules m low (level_at rules l) room q (here l) s

  pub last_z : {L : Type 0} {x : Item L} {ch : Choice} (l : ℕ) → 2 ≤ l → quiet ch ≡ true → ItemZ x l ch → BodyZ (last_body (level_at rules l) x) l (may ch end)
  last_z l low q s room = last_finds rules m low (level_at rules l) room q (here l) s

  around_z : {L : Type 0} {b : Body L} {r : Parts} (l a : ℕ) → BodyZ b (suc l) r → ItemZ (around_item a b) l (tag a (parts r))
  around_z {r = r} l a s = silence rules m (around_tells rules m a (parts r) refl s)

  -- Parameters

  parameter_z : (l : ℕ) → 2 ≤ l → ItemZ (parameter_item rules l) l any
  parameter_z l low = walk_finds rules m zone.said (left_at rules l) l refl (omega arith)

  -- an element of one tag is any element there
  walk_tag_z : {l : ℕ} (left a : ℕ) (g : Holds) → find any a ≡ some g → ItemZ (element_of any_tag (walk_contents left)) l any → ItemZ (element_of (λ b. eqb b a) (walk_contents left)) l (tag a g)
  walk_tag_z left a g e s = record { mine = λ b. tag_mine b a g (eqb b a) refl; reads = λ d p part h g' x f i. let u = tag_held _ a g g' f in s.reads d p part h g' x (rw (u.0, ← u.1) e) i }

  pub code_body_z : BodyZ (then_body (level_at rules 4) code_item (last_body (level_at rules 4) (parameter_item rules 4))) 4 (must code (may any end))
  code_body_z = then_z 4 (omega arith) refl code_z (last_z 4 (omega arith) refl (parameter_z 4 (omega arith)))

  pub both_z : ItemZ (around_item 0x30 (then_body (level_at rules 5) code_item (only_body (level_at rules 5) (parameter_item rules 5)))) 4 (tag 0x30 (parts (must code (must any end))))
  both_z = around_z 4 0x30 (then_z 5 (omega arith) refl code_z (only_z 5 (omega arith) refl (parameter_z 5 (omega arith))))

  -- PDUs

  info_z : BodyZ (info_body rules) 6 (may information end)
  unfolding constructor_of code_zero
  info_z = last_z 6 (omega arith) refl
      (silence rules m (kept_finds rules m 0xBE (parts (many (tag 0x28 (parts (many any))))) refl (λ n. series_finds rules m (omega arith) (left_at rules 7) (tag 0x28 (parts (many any))) refl (here 7) (walk_tag_z (left_at rules 7) 0x28 (parts (many any)) refl (walk_finds rules m zone.said (left_at rules 7) 7 refl (omega arith))) n 0)))

  context_z : ItemZ (context_item rules) 6 context
  context_z = around_z 6 0xA1 (only_z 7 (omega arith) refl name_z)

  version_z : {L : Type 0} {b : Body L} {r : Parts} → b.owner ≡ (λ f. f) → b.other ≡ FaultKind.Another → position r ≡ none → BodyZ b 6 r → BodyZ (version_body b) 6 (may version_one r)
  unfolding constructor_of
  version_z e others k s room = map_body_finds rules m (omega arith) (λ v. v.1) (opt_finds rules m (omega arith) {x = leaf_item 0x80 (same version)} {S = Silent rules m} room refl k others (rw e (leaf_z 0x80 (same version) refl)) (s room))

  asked_z : (f : Text → Option Text → Dialogue Text) → ItemZ (asked_item rules f) 5 asked
  asked_z f = around_z 5 0x60 (λ room. map_body_finds rules m (omega arith) (λ v. f v.0 v.1) (version_z refl refl refl (then_z 6 (omega arith) refl context_z info_z) room))

  number_z : (a l most : ℕ) → 2 ≤ l → ItemZ (number_item rules a (suc l) most) l (number a most)
  unfolding constructor_of
  number_z a l most low = around_z l a (only_z (suc l) (omega arith) refl (octet_z 0x02 most refl))

  source_z : ItemZ (source_item rules) 6 (tag 0xA3 (parts (must (either (number 0xA1 most_user_diagnostic) (number 0xA2 most_provider_diagnostic)) end)))
  source_z = around_z 6 0xA3 (only_z 7 (omega arith) refl (or_finds rules m (quietly rules m Diagnostic.ByUser (number_z 0xA1 7 _ (omega arith))) (quietly rules m Diagnostic.ByProvider (number_z 0xA2 7 _ (omega arith)))))

  answered_z : ItemZ (answered_item rules) 5 answered
  answered_z =
      around_z 5 0x61
      (λ room. map_body_finds rules m (omega arith) (λ v. response v.0 v.1.0 v.1.1.0 v.1.1.1)
      (version_z refl refl refl (then_z 6 (omega arith) refl context_z (then_z 6 (omega arith) refl (number_z 0xA2 6 _ (omega arith)) (then_z 6 (omega arith) refl source_z info_z))) room))

  aborted_z : ItemZ (aborted_item rules) 5 stopped
  unfolding constructor_of
  aborted_z = around_z 5 0x64 (λ room. map_body_finds rules m (omega arith) (λ v. aborted v.0 v.1) (then_z 6 (omega arith) refl (octet_z 0x80 _ refl) info_z room))

  held_z : (n : Text) (s u : Bool) → ItemZ (held_item rules n s u) 4 (named s u)
  unfolding constructor_of
  held_z n true u = around_z 4 0xA0 (only_z 5 (omega arith) refl (or_finds rules m (asked_z request) (or_finds rules m answered_z aborted_z)))
  held_z n false true = around_z 4 0xA0 (only_z 5 (omega arith) refl (asked_z unidialogue))
  held_z n false false = or_finds rules m (quietly rules m (single n) (around_z 4 0xA0 (only_z 5 (omega arith) refl (parameter_z 5 (omega arith))))) (quietly rules m (kept n) (leaf_z 0x81 (λ c. true) refl))

  pub external_z : BodyZ (external_body rules) 4 external
  unfolding constructor_of
  external_z room =
      map_body_finds rules m (omega arith) (λ v. v.1)
      (bind_tells rules m (omega arith) (level_at rules 4) silently (tag 0x06 (octets identifier_ok)) external room refl refl (another refl refl) (λ a. refl) (here 4) (leaf_finds rules m 0x06 identifier_ok (octets identifier_ok) refl refl (λ c. refl) zone.said)
      (λ a g v z f e. rw e.1 (quiet_rest rules m (tag 0x06 (octets identifier_ok)) a g z refl f (only_z 4 (omega arith) (named_quiet (same structured z.1) (same unstructured z.1)) (held_z z (same structured z.1) (same unstructured z.1)) room)))
      (λ v b d q a g p part n x way free is f u k. tt))
