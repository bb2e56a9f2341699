-- Components and the dialogue portion find their faults where they are, with index, invoke ID and owner. Assumes nothing.
use Prim.Native.Nat.{ℕ, zero, suc, ◌+◌, ◌<◌}
use mathlib.Core.Path.{◌≡◌, refl, sym, ap}
use mathlib.Core.Logic.{◌⊎◌, inl, inr}
use mathlib.Core.Bool.{true, false, false≢true}
use mathlib.Core.List.{List, [], ◌∷◌}
use mathlib.Core.Option.{Option, none, some}
use native.Mathlib.Omega.{arith}
use lib.Dec.{ltb}
use lib.IntN.{ℤ}
use borrow.Author.Tests.{lt-ltb}
use Rattle.base.specs.Value.{same}
use Rattle.primitive.specs.Primitive.{signed_of, integer_ok}
use Rattle.element.specs.Element.{constructor_of}
use Rattle.element.specs.Fault.{Text, Owner, portion, dialogue, component, Fault, fault, in_dialogue, in_component, with_invoke_id}
use Rattle.element.specs.declared.FaultKind.{FaultKind}
use Rattle.element.specs.Ask.{Body}
use Rattle.element.specs.Parts.{integer_item, silently, bind_body, only_body, last_body, opt_body, series_body}
use Rattle.element.proofs.StringPlaces.{nothing_ends}
use Rattle.tcap.specs.Meaning.{Code, Component, invoke, last, not_last, error, reject}
use Rattle.tcap.specs.Productions.{id_item, problem_item, id_or_null_item, noted, level_at, code_body, invoke_body, both_item, result_body, error_body, reject_body, component_item, component_at, components_item, inside6_b, dialogue_item}
use Rattle.tcap.specs.Due.{Parts, end, must, may, components, tag, either, any, Holds, octets, invoke_id, parts, dialogue as dialogues, invoke as invokes, result as results, error as errors, reject as rejects, component as a_component, code, problem, component_portion, external, dialogue_portion}
use Rattle.tcap.specs.Refused.{known, told, another, unknown}
use Rattle.tcap.proofs.Found.{BodyFinds, ItemFinds, Said, Silent, leaf_finds, around_tells, map_finds, quietly, silence, or_finds}
use Rattle.tcap.proofs.FoundContents.{At, Rest, quiet_rest, bind_tells, place_tells, only_finds, opt_finds, map_body_finds}
use Rattle.tcap.proofs.FoundDialogue.{Zone, linked_z, problem_z, code_body_z, both_z, last_z, external_z}
use Rattle.tcap.specs.WellFormed.{Rules}

-- W tells the originating ID t, if one was read
module _ (rules : Rules) (m : List ℕ) (t : Option Text) (W : Fault → Fault) (sets : (k : FaultKind) (p : ℕ) (o : Owner) (i : Option ℤ) → W (fault k p o i none) ≡ fault k p o i t) where
  module _ (n : ℕ) where
    abbrev Mine : Fault → Fault
    Mine f = W (in_component n f)

    mine_says : Said rules m (component n) none t Mine
    unfolding in_component
    mine_says k p = sets k p (component n) none

    id_says : (j : Option ℤ) → Said rules m (component n) j t (λ f. Mine (with_invoke_id j f))
    unfolding in_component with_invoke_id
    id_says j k p = sets k p (component n) j

    zone : (j : Option ℤ) → Zone rules m (component n) j t (λ f. Mine (with_invoke_id j f))
    zone j = record { said = id_says j }

    at4 : At rules m 4 (component n) (component n) none t Mine (level_at rules 4)
    at4 = record { ends = mine_says; owned = mine_says; left = refl }

    -- the invoke ID: what it tells

    abbrev IdAt : ℤ → Holds → Text → Type 0
    IdAt v g x = (invoke_id ≡ g) × (v ≡ signed_of x.1)

    ids : ItemFinds rules m id_item 4 (tag 0x02 invoke_id) (component n) none t Mine IdAt
    unfolding constructor_of
    ids = map_finds rules m (λ v. signed_of v.1) (λ v g x e. (e.0, ap (λ (u : Text). signed_of u.1) e.1)) (leaf_finds rules m 0x02 (integer_ok 1) invoke_id refl refl (λ c. refl) mine_says)

    id_rest : {M : Type 0} {y : Body M} {room : ℕ} {r : Parts} {X : Fault → Fault} (j : ℤ) (g : Holds) (x : Text) → IdAt j g x → BodyFinds rules m y 4 room r (component n) (component n) (some j) t X → Rest rules m y 4 room r (component n) (component n) (told g x (known (component n) (component n) none t)) X
    id_rest j g x (h, e) b = record { invoke_id = some j; orig_id = t; knows = rw (← h, e) refl; body = b }

    with_id : {M : Type 0} (y : ℤ → Body M) (r : Parts) (room : ℕ) → ((j : ℤ) → BodyFinds rules m (y j) 4 room r (component n) (component n) (some j) t (λ f. Mine (with_invoke_id (some j) f)))
        → BodyFinds rules m (bind_body (level_at rules 4) noted id_item y) 4 room (must (tag 0x02 invoke_id) r) (component n) (component n) none t Mine
    with_id y r room s =
        bind_tells rules m (omega arith) (level_at rules 4) noted (tag 0x02 invoke_id) (must (tag 0x02 invoke_id) r) room refl refl (another refl refl) (λ a. refl) at4 ids (λ a g v x f e. id_rest v g x e (s v))
        (λ v b d q a g p part n x way free is f u k. tt)

    invoke_finds : (room : ℕ) → BodyFinds rules m (invoke_body rules) 4 room invokes (component n) (component n) none t Mine
    invoke_finds room =
        map_body_finds rules m (omega arith) (λ v. invoke v.0 v.1.0 v.1.1.0 v.1.1.1)
        (with_id (λ i. opt_body (integer_item 0x80 1) (code_body rules)) (may (tag 0x80 (octets (integer_ok 1))) (must code (may any end))) room
        (λ j. opt_finds rules m (omega arith) room refl refl refl (quietly rules m (λ v. signed_of v.1) (linked_z rules m (zone (some j)))) (code_body_z rules m (zone (some j)) room)))

    result_finds : (f : ℤ → Option (Code Text × Text) → Component Text) (room : ℕ) → BodyFinds rules m (result_body rules f) 4 room results (component n) (component n) none t Mine
    result_finds f room =
        map_body_finds rules m (omega arith) (λ v. f v.0 v.1) (with_id (λ i. last_body (level_at rules 4) (both_item rules)) _ room (λ j. last_z rules m (zone (some j)) 4 (omega arith) refl (both_z rules m (zone (some j))) room))

    error_finds : (room : ℕ) → BodyFinds rules m (error_body rules) 4 room errors (component n) (component n) none t Mine
    error_finds room = map_body_finds rules m (omega arith) (λ v. error v.0 v.1.0 v.1.1) (with_id (λ i. code_body rules) _ room (λ j. code_body_z rules m (zone (some j)) room))

    -- an ID, or 05 00
    abbrev NullAt : Option ℤ → Holds → Text → Type 0
    NullAt v g x = ((j : ℤ) × (v ≡ some j) × IdAt j g x) ⊎ ((v ≡ none) × (octets (same []) ≡ g))

    null_ids : ItemFinds rules m id_or_null_item 4 (either (tag 0x02 invoke_id) (tag 0x05 (octets (same [])))) (component n) none t Mine NullAt
    unfolding constructor_of
    null_ids =
        or_finds rules m (map_finds rules m some (λ v g x w. inl (v, refl, w)) ids) (map_finds rules m (λ v. none) (λ v g x w. inr (refl, w.0)) (leaf_finds rules m 0x05 (same []) (octets (same [])) refl refl (λ c. refl) mine_says))

    problem_rest : (j : Option ℤ) (room : ℕ) → BodyFinds rules m (only_body (level_at rules 4) problem_item) 4 room (must problem end) (component n) (component n) j t (λ f. Mine (with_invoke_id j f))
    problem_rest j room = only_finds rules m (omega arith) (level_at rules 4) room refl (record { ends = id_says j; owned = id_says j; left = refl }) (problem_z rules m (zone j))

    reject_rest : (room : ℕ) (v : Option ℤ) (g : Holds) (x : Text) → NullAt v g x → Rest rules m (only_body (level_at rules 4) problem_item) 4 room (must problem end) (component n) (component n) (told g x (known (component n) (component n) none t)) (λ f. Mine (with_invoke_id v f))
    reject_rest room v g x (inl (j, e, i)) = rw e (id_rest j g x i (problem_rest (some j) room))
    reject_rest room v g x (inr (e, h)) = rw e (record { invoke_id = none; orig_id = t; knows = rw (← h) refl; body = problem_rest none room })

    reject_finds : (room : ℕ) → BodyFinds rules m (reject_body rules) 4 room rejects (component n) (component n) none t Mine
    reject_finds room =
        map_body_finds rules m (omega arith) (λ v. reject v.0 v.1)
        (bind_tells rules m (omega arith) (level_at rules 4) with_invoke_id _ rejects room refl refl (another refl refl) (λ a. refl) at4 null_ids (λ a g v x f e. reject_rest room v g x e) (λ v b d q a g p part n x way free is f u k. tt))

    component_finds : ItemFinds rules m (component_item rules) 3 a_component (component n) none t Mine (Silent rules m)
    component_finds =
        or_finds rules m (silence rules m (around_tells rules m 0xA1 (parts invokes) refl invoke_finds))
        (or_finds rules m (silence rules m (around_tells rules m 0xA2 (parts results) refl (result_finds last)))
        (or_finds rules m (silence rules m (around_tells rules m 0xA3 (parts errors) refl error_finds))
        (or_finds rules m (silence rules m (around_tells rules m 0xA4 (parts rejects) refl reject_finds))
        (silence rules m (around_tells rules m 0xA7 (parts results) refl (result_finds not_last))))))

  at3 : (n : ℕ) → At rules m 3 portion (component n) none t W (component_at rules n)
  at3 n = record { ends = λ k p. sets k p portion none; owned = mine_says n; left = refl }

  not_sixteen : (n : ℕ) → n < 16 → some n ≡ some 16 → ⊥
  not_sixteen n h e = let z : n ≡ 16 = cc in omega arith

  -- the n-th component, with so many more to come
  rows_find : (room n size : ℕ) (e : Option (List (Component Text))) → n + room ≡ 16 → (e ≡ none → ltb 0 n ≡ false) → ((v : List (Component Text)) → e ≡ some v → ltb 0 n ≡ true)
      → BodyFinds rules m (series_body (component_at rules) FaultKind.UnknownComponent (component_item rules) e room n) 3 size (components a_component n) portion portion none t W
  unfolding series_body
  rows_find zero n size e sum lacks void =
      let y : n ≡ 16 = omega arith in
      record {
        void = λ v q. (void v q, λ x. tt);
        lacks = lacks;
        ends = λ k p. sets k p portion none;
        full = λ _. inl (ap some y);
        free = λ f. absurd (false≢true (sym f));
        owned = λ f. absurd (false≢true (sym f));
        left = λ f. absurd (false≢true (sym f));
        mine = λ f. absurd (false≢true (sym f));
        other = λ f. absurd (false≢true (sym f));
        goes = λ d q p part h big way like deep g f. absurd (false≢true (sym f));
      }
  rows_find (suc room) n size e sum lacks void =
      place_tells rules m (omega arith) (component_at rules n) e FaultKind.UnknownComponent a_component (components a_component n) silently (λ a. series_body (component_at rules) FaultKind.UnknownComponent (component_item rules) (some []) room (suc n)) (λ a ws. a ∷ ws) size size (omega arith)
      (at3 n) (λ a. refl) (not_sixteen n (omega arith)) (unknown refl) lacks (λ v q. (void v q, λ x. tt)) (component_finds n)
      (λ a g v x f _. quiet_rest rules m a_component a g x refl f (rows_find room (suc n) size (some []) (omega arith) (λ q. let z : ◌≡◌ {A = ℕ} 0 1 = cc in absurd (omega arith)) (λ v q. lt-ltb 0 (suc n) (omega arith))))
      (λ v b d q a g p part n x way free is f u k. tt)

  pub components_find : ItemFinds rules m (components_item rules) 2 component_portion portion none t W (Silent rules m)
  components_find = silence rules m (around_tells rules m 0x6C (parts (components a_component 0)) refl (λ size. rows_find 16 0 size none refl (λ _. refl) (λ v q. nothing_ends q)))

  -- The dialogue portion

  in6_b : Said rules m dialogue none t (λ f. W (in_dialogue f))
  unfolding in_dialogue
  in6_b k p = sets k p dialogue none

  pub dialogue_finds : ItemFinds rules m (dialogue_item rules) 2 dialogue_portion portion none t W (Silent rules m)
  dialogue_finds =
      silence rules m (around_tells rules m 0x6B (dialogues (must (tag 0x28 (parts external)) end)) refl
      (λ room. only_finds rules m (omega arith) (inside6_b rules) room refl (record { ends = λ k p. sets k p portion none; owned = in6_b; left = refl })
      (silence rules m (around_tells rules m 0x28 (parts external) refl (external_z rules m (record { said = in6_b }))))))
