-- No fault in a portion of a message carries an originating ID: only one behind the ID does. Assumes nothing.
use Prim.Native.Nat.{ℕ, zero, suc, ◌+◌}
use mathlib.Core.Path.{◌≡◌, refl}
use mathlib.Core.Bool.{Bool, true, false, cond, not}
use mathlib.Core.List.{List, [], ◌∷◌}
use mathlib.Core.Option
use mathlib.Core.Option.{Option, none, some}
use lib.ListN.{length, get_or, take, drop}
use lib.Dec.{ltb}
use lib.IntN.{ℤ}
use Rattle.base.specs.Value.{same}
use Rattle.primitive.specs.Primitive.{identifier_ok, integer_ok, signed_of, most_integer_octets}
use Rattle.element.specs.declared.FaultKind.{FaultKind}
use Rattle.element.specs.declared.EndRead.{EndRead}
use Rattle.element.specs.declared.TagRead.{TagRead}
use Rattle.element.specs.declared.LengthRead.{LengthRead}
use Rattle.element.specs.Element.{constructor_of, code_zero}
use Rattle.element.specs.Fault.{Text, Fault, fault, at, in_dialogue, in_component, with_invoke_id}
use Rattle.element.specs.Head.{end_of, tag_of, length_of}
use Rattle.element.specs.Ask.{Got, got, bad, next, check, blamed, definite, indefinite, Head, head, Body, ask_length, ask_tag, at_end, ask_end, ask}
use Rattle.element.specs.Parts.{Item, Where, level, first_of, leaf_contents, leaf_item, integer_item, inside, around_item, kept_item, map_item, or_item, done, onward, bind_body, silently, then_body, only_body, last_body, opt_pick, opt_body, map_body, series_body}
use Rattle.element.specs.Walk.{walk_pick, walk_contents, any_tag, element_of}
use Rattle.tcap.specs.declared.{Problem.Problem, Diagnostic.Diagnostic}
use Rattle.tcap.specs.Meaning.{dest, Code, local, global, Component, invoke, last, not_last, error, reject, Dialogue, request, unidialogue, response, aborted, single, octets, structured, unstructured, version, cause, says}
use Rattle.tcap.specs.WellFormed.{most_cause, Rules, most_components, left_at, id_ok}
use Rattle.tcap.specs.Productions.{single?, octet_item, id_item, name_item, code_item, problem_item, dest_item, noted, version_body, level_at, parameter_item, code_body, result_body, reject_body, component_item, component_at, components_item, info_body, context_item, asked_item, number_item, source_item, answered_item, aborted_item, held_item, external_body, inside6_b, dialogue_item, tail_body}
use Rattle.tcap.proofs.FaultPlaces.{orig_of}

-- what is got is as P says, and a fault carries t
unfoldable pub Said : {A : Type 0} → (A → Type 0) → Option Text → Got A → Type 0
Said P t (got a n) = P a
Said P t (bad f) = orig_of f ≡ t

abbrev pub Any : {A : Type 0} → A → Type 0
Any a = Unit {0}

pub said_got : {A : Type 0} (P : A → Type 0) (t : Option Text) (a : A) (n : ℕ) → P a → Said P t (got a n)
unfolding Said
said_got P t a n e = e

pub said_next : {A B : Type 0} (P : A → Type 0) (Q : B → Type 0) (t : Option Text) (x : Got A) (k : A → ℕ → Got B) → Said P t x → ((a : A) (n : ℕ) → P a → Said Q t (k a n)) → Said Q t (next x k)
unfolding Said next
said_next P Q t (got a n) k e g = g a n e
said_next P Q t (bad f) k e g = e

pub said_check : {A : Type 0} (P : A → Type 0) (t : Option Text) (b : Bool) (f : Fault) (x : Got A) → orig_of f ≡ t → Said P t x → Said P t (check b f x)
unfolding Said check
said_check P t true f x g e = e
said_check P t false f x g e = g

pub said_blamed : {A : Type 0} (P : A → Type 0) (t : Option Text) (w : Fault → Fault) (x : Got A) → ((f : Fault) → orig_of f ≡ none → orig_of (w f) ≡ t) → Said P none x → Said P t (blamed w x)
unfolding Said blamed
said_blamed P t w (got a n) g e = e
said_blamed P t w (bad f) g e = g f e

said_cond : {A : Type 0} (P : A → Type 0) (t : Option Text) (b : Bool) (x y : Got A) → Said P t x → Said P t y → Said P t (cond b x y)
said_cond P t true x y e g = e
said_cond P t false x y e g = g

-- what is known from outside tells no originating ID
abbrev pub Spares : (Fault → Fault) → Type 0
Spares w = (f : Fault) → orig_of f ≡ none → orig_of (w f) ≡ none

spares_invoke : (j : Option ℤ) → Spares (with_invoke_id j)
unfolding with_invoke_id
spares_invoke j (fault k p o i t) e = e

spares_component : (n : ℕ) → Spares (in_component n)
unfolding in_component
spares_component n (fault k p o i t) e = e

spares_dialogue : Spares in_dialogue
unfolding in_dialogue
spares_dialogue (fault k p o i t) e = e

-- A place that is asked

module _ {A : Type 0} (P : A → Type 0) (b : Body A) (d : Bool) (p : ℕ) (part : List ℕ) (owned : Spares b.owner) (ends : (v : A) → b.ends ≡ some v → P v) (goes : (h : Head) → Said P none (b.goes d h p part)) where
  length_said : (a s : ℕ) (l : LengthRead) → Said P none (ask_length b d p part a s l)
  unfolding ask_length
  length_said a s (LengthRead.Fault k) = unfold Said in (owned (at k p) refl)
  length_said a s (LengthRead.Definite k n) = goes (head a (s + k) (definite n))
  length_said a s LengthRead.Indefinite = goes (head a (s + 1) indefinite)

  tag_said : (t : TagRead) → Said P none (ask_tag b d p part t)
  unfolding ask_tag
  tag_said (TagRead.Fault k) = unfold Said in (owned (at k p) refl)
  tag_said (TagRead.Tag a s) =
      said_check P none (not (code_zero a)) _ _ (owned (at FaultKind.CodeZero p) refl)
      (said_check P none (ltb 0 b.left) _ _ (owned (at FaultKind.TooDeep p) refl)
      (said_check P none (b.mine a) _ _ (owned (at b.other p) refl) (length_said a s (length_of (drop s part) (constructor_of a)))))

  end_said : (o : Option A) → b.ends ≡ o → Said P none (at_end b d p part o)
  unfolding at_end Said
  end_said none e = refl
  end_said (some v) e = ends v e

  pub ask_said : Said P none (ask b d p part)
  unfolding ask ask_end
  ask_said = go (end_of d part)
    where
      go : (e : EndRead) → Said P none (ask_end b d p part e)
      go EndRead.Ended = end_said b.ends refl
      go EndRead.Unfinished = unfold Said in refl
      go EndRead.More = said_check P none (not b.full) _ _ refl (tag_said (tag_of part))

-- Elements and contents whose faults carry none

pub record BareItem {A : Type 0} (x : Item A) : Type 0 where
  pub reads : (h : Head) (p : ℕ) (part : List ℕ) → Said Any none (x.contents h p part)

pub record Bare {A : Type 0} (b : Body A) : Type 0 where
  pub owned : Spares b.owner
  pub goes : (d : Bool) (h : Head) (p : ℕ) (part : List ℕ) → Said Any none (b.goes d h p part)

pub bare_ask : {A : Type 0} {b : Body A} → Bare b → (d : Bool) (p : ℕ) (part : List ℕ) → Said Any none (ask b d p part)
bare_ask {b = b} s d p part = ask_said Any b d p part s.owned (λ v e. tt) (λ h. s.goes d h p part)

quiet : {A B : Type 0} (x : Got A) (k : A → ℕ → B) (n : A → ℕ → ℕ) → Said Any none x → Said Any none (next x (λ a i. got (k a i) (n a i)))
quiet x k n e = said_next Any Any none x _ e (λ a i g. unfold Said in tt)

leaf_said : (fits : List ℕ → Bool) (h : Head) (p : ℕ) (part : List ℕ) → Said Any none (leaf_contents fits h p part)
unfolding leaf_contents
leaf_said fits (head a u (definite n)) p part = said_check Any none (fits (take n (drop u part))) _ _ refl (unfold Said in tt)
leaf_said fits (head a u indefinite) p part = said_check Any none false _ _ refl (unfold Said in tt)

pub leaf_bare : (t : ℕ) (fits : List ℕ → Bool) → BareItem (leaf_item t fits)
leaf_bare t fits = record { reads = λ h p part. leaf_said fits h p part }

pub map_bare : {A B : Type 0} {x : Item A} (f : A → B) → BareItem x → BareItem (map_item f x)
map_bare {x = x} f s = record { reads = λ h p part. quiet (x.contents h p part) (λ a n. f a) (λ a n. n) (s.reads h p part) }

or_bare : {A : Type 0} {x y : Item A} → BareItem x → BareItem y → BareItem (or_item x y)
or_bare {x = x} {y = y} s t = record { reads = λ h p part. said_cond Any none (x.mine (first_of h)) _ _ (s.reads h p part) (t.reads h p part) }

inside_said : {A : Type 0} (b : ℕ → Body A) → ((n : ℕ) → Bare (b n)) → (h : Head) (p : ℕ) (part : List ℕ) → Said Any none (inside b h p part)
unfolding inside
inside_said b s (head a u (definite n)) p part = quiet (ask (b n) true (p + u) (take n (drop u part))) _ _ (bare_ask (s n) true (p + u) (take n (drop u part)))
inside_said b s (head a u indefinite) p part = quiet (ask (b (length (drop u part))) false (p + u) (drop u part)) _ _ (bare_ask (s (length (drop u part))) false (p + u) (drop u part))

pub around_bare : {A : Type 0} {b : Body A} (t : ℕ) → Bare b → BareItem (around_item t b)
around_bare {b = b} t s = record { reads = λ h p part. quiet (inside (λ n. b) h p part) (λ v n. v.0) (λ v n. n) (inside_said (λ n. b) (λ n. s) h p part) }

kept_bare : {A : Type 0} {b : ℕ → Body A} (t : ℕ) → ((n : ℕ) → Bare (b n)) → BareItem (kept_item t b)
kept_bare {b = b} t s = record { reads = λ h p part. quiet (inside b h p part) (λ v n. v.1) (λ v n. n) (inside_said b s h p part) }

onward_said : {A B C : Type 0} (owner : Fault → Fault) (x : Got A) (note : A → Fault → Fault) (y : A → Body B) (f : A → B → C) (d : Bool) (p : ℕ) (part : List ℕ)
    → Spares owner → ((a : A) → Spares (note a)) → Said Any none x → ((a : A) → Bare (y a)) → Said Any none (onward owner x note y f d p part)
unfolding onward
onward_said owner x note y f d p part o k s t =
    said_next Any Any none (blamed owner x) _ (said_blamed Any none owner x o s) (λ a n g.
    said_blamed Any none (note a) _ (k a) (quiet (ask (y a) d (p + n) (drop n part)) (λ b j. f a b) (λ b j. n + j) (bare_ask (t a) d (p + n) (drop n part))))

pub bind_bare : {A B : Type 0} {x : Item A} {y : A → Body B} (w : Where) (note : A → Fault → Fault) → Spares w.owner → ((a : A) → Spares (note a)) → BareItem x → ((a : A) → Bare (y a)) → Bare (bind_body w note x y)
bind_bare {x = x} {y = y} w note o k s t = record { owned = o; goes = λ d h p part. onward_said w.owner (x.contents h p part) note y (λ a b. (a, b)) d p part o k (s.reads h p part) t }

pub then_bare : {A B : Type 0} {x : Item A} {y : Body B} (l : ℕ) → BareItem x → Bare y → Bare (then_body (level l) x y)
then_bare l s t = bind_bare (level l) silently (λ f e. e) (λ a f e. e) s (λ a. t)

done_bare : {A : Type 0} (w : Where) (v : A) → Spares w.owner → Bare (done w v)
done_bare w v o = record { owned = o; goes = λ d h p part. unfold Said in tt }

only_bare : {A : Type 0} {x : Item A} (w : Where) → Spares w.owner → BareItem x → Bare (only_body w x)
only_bare {x = x} w o s = record { owned = o; goes = λ d h p part. onward_said w.owner (x.contents h p part) silently (λ a. done w a) (λ a b. a) d p part o (λ a f e. e) (s.reads h p part) (λ a. done_bare w a o) }

pub last_bare : {A : Type 0} {x : Item A} (l : ℕ) → BareItem x → Bare (last_body (level l) x)
last_bare {x = x} l s =
    record { owned = λ f e. e; goes = λ d h p part. onward_said (λ f. f) (x.contents h p part) silently (λ a. done (level l) a) (λ a b. some a) d p part (λ f e. e) (λ a f e. e) (s.reads h p part) (λ a. done_bare (level l) a (λ f e. e)) }

opt_said : {A B : Type 0} (b : Bool) (x : Got A) (y : Body B) (d : Bool) (h : Head) (p : ℕ) (part : List ℕ) → Said Any none x → Bare y → Said Any none (opt_pick b x y d h p part)
unfolding opt_pick
opt_said true x y d h p part s t = onward_said y.owner x silently (λ a. y) (λ a b. (some a, b)) d p part t.owned (λ a f e. e) s (λ a. t)
opt_said false x y d h p part s t = quiet (y.goes d h p part) _ _ (t.goes d h p part)

pub opt_bare : {A B : Type 0} {x : Item A} {y : Body B} → BareItem x → Bare y → Bare (opt_body x y)
opt_bare {x = x} {y = y} s t = record { owned = t.owned; goes = λ d h p part. opt_said (x.mine (first_of h)) (x.contents h p part) y d h p part (s.reads h p part) t }

pub named_bare : {A B : Type 0} {b : Body A} (f : A → B) → Bare b → Bare (map_body f b)
named_bare {b = b} f s = record { owned = s.owned; goes = λ d h p part. quiet (b.goes d h p part) _ _ (s.goes d h p part) }

series_bare : {A : Type 0} (w : ℕ → Where) (other : FaultKind) {x : Item A} → ((k : ℕ) → Spares (w k).owner) → BareItem x → (e : Option (List A)) (room k : ℕ) → Bare (series_body w other x e room k)
unfolding series_body
series_bare w other o s e zero k = record { owned = o k; goes = λ d h p part. unfold Said in tt }
series_bare w other {x = x} o s e (suc room) k =
    let t = series_bare w other o s (some []) room (suc k) in
    record { owned = o k; goes = λ d h p part. onward_said (w k).owner (x.contents h p part) silently (λ a. series_body w other x (some []) room (suc k)) (λ a ws. a ∷ ws) d p part (o k) (λ a f e. e) (s.reads h p part) (λ a. t) }

walk_bare : (mine : ℕ → Bool) (l : ℕ) → BareItem (element_of mine (walk_contents l))
unfolding walk_contents walk_pick
walk_bare mine zero = record { reads = λ h p part. unfold Said in refl }
walk_bare mine (suc l) = record { reads = λ h p part. up (walk_bare any_tag l) h p part (constructor_of (first_of h)) }
  where
    series : ℕ → Body (List Text)
    series n = series_body (λ k. level l) FaultKind.Another (element_of any_tag (walk_contents l)) (some []) n 0

    up : BareItem (element_of any_tag (walk_contents l)) → (h : Head) (p : ℕ) (part : List ℕ) (b : Bool) → Said Any none (walk_pick b series h p part)
    up s h p part true = quiet (inside series h p part) _ _ (inside_said series (λ n. series_bare (λ k. level l) FaultKind.Another (λ k f e. e) s (some []) n 0) h p part)
    up s h p part false = quiet (leaf_contents (λ c. true) h p part) _ _ (leaf_said (λ c. true) h p part)

-- Productions

integer_bare : (t most : ℕ) → BareItem (integer_item t most)
integer_bare t most = map_bare (λ v. signed_of v.1) (leaf_bare t (integer_ok most))

octet_bare : (t most : ℕ) → BareItem (octet_item t most)
octet_bare t most = map_bare (λ v. get_or v.1 0 0) (leaf_bare t (single? most))

name_bare : BareItem name_item
name_bare = leaf_bare 0x06 identifier_ok

code_bare : BareItem code_item
code_bare = or_bare (map_bare local (integer_bare 0x02 most_integer_octets)) (map_bare global name_bare)

problem_bare : BareItem problem_item
problem_bare =
    or_bare (map_bare Problem.General (octet_bare 0x80 _))
    (or_bare (map_bare Problem.OfInvoke (octet_bare 0x81 _)) (or_bare (map_bare Problem.OfResult (octet_bare 0x82 _)) (map_bare Problem.OfError (octet_bare 0x83 _))))

version_bare : {A : Type 0} {b : Body A} → Bare b → Bare (version_body b)
version_bare s = named_bare (λ v. v.1) (opt_bare (leaf_bare 0x80 (same version)) s)

noted_bare : {B : Type 0} {y : Body B} (l : ℕ) → Bare y → Bare (bind_body (level l) noted id_item (λ i. y))
noted_bare l t = bind_bare (level l) noted (λ f e. e) (λ a. spares_invoke (some a)) (integer_bare 0x02 1) (λ i. t)

module _ (rules : Rules) where
  parameter_bare : (n : ℕ) → BareItem (parameter_item rules n)
  parameter_bare n = walk_bare _ (left_at rules n)

  code_body_bare : Bare (code_body rules)
  code_body_bare = then_bare (left_at rules 4) code_bare (last_bare (left_at rules 4) (parameter_bare 4))

  result_bare : (f : ℤ → Option (Code Text × Text) → Component Text) → Bare (result_body rules f)
  result_bare f =
      named_bare (λ v. f v.0 v.1) (noted_bare (left_at rules 4) (last_bare (left_at rules 4)
      (around_bare 0x30 (then_bare (left_at rules 5) code_bare (only_bare (level_at rules 5) (λ f e. e) (parameter_bare 5))))))

  reject_bare : Bare (reject_body rules)
  reject_bare =
      named_bare (λ v. reject v.0 v.1)
      (bind_bare (level_at rules 4) with_invoke_id (λ f e. e) spares_invoke (or_bare (map_bare some (integer_bare 0x02 1)) (map_bare (λ v. none) (leaf_bare 0x05 (same []))))
      (λ i. only_bare (level_at rules 4) (λ f e. e) problem_bare))

  component_bare : BareItem (component_item rules)
  component_bare =
      or_bare (around_bare 0xA1 (named_bare (λ v. invoke v.0 v.1.0 v.1.1.0 v.1.1.1) (noted_bare (left_at rules 4) (opt_bare (integer_bare 0x80 1) code_body_bare))))
      (or_bare (around_bare 0xA2 (result_bare last))
      (or_bare (around_bare 0xA3 (named_bare (λ v. error v.0 v.1.0 v.1.1) (noted_bare (left_at rules 4) code_body_bare)))
      (or_bare (around_bare 0xA4 reject_bare)
      (around_bare 0xA7 (result_bare not_last)))))

  pub components_bare : BareItem (components_item rules)
  components_bare = around_bare 0x6C (series_bare (component_at rules) FaultKind.UnknownComponent spares_component component_bare none most_components 0)

  info_bare : Bare (info_body rules)
  info_bare = last_bare (left_at rules 6) (kept_bare 0xBE (λ n. series_bare (λ k. level_at rules 7) FaultKind.Another (λ k f e. e) (walk_bare _ (left_at rules 7)) (some []) n 0))

  context_bare : BareItem (context_item rules)
  context_bare = around_bare 0xA1 (only_bare (level_at rules 7) (λ f e. e) name_bare)

  asked_bare : (f : Text → Option Text → Dialogue Text) → BareItem (asked_item rules f)
  asked_bare f = around_bare 0x60 (named_bare (λ v. f v.0 v.1) (version_bare (then_bare (left_at rules 6) context_bare info_bare)))

  number_bare : (t n most : ℕ) → BareItem (number_item rules t n most)
  number_bare t n most = around_bare t (only_bare (level_at rules n) (λ f e. e) (octet_bare 0x02 most))

  source_bare : BareItem (source_item rules)
  source_bare = around_bare 0xA3 (only_bare (level_at rules 7) (λ f e. e) (or_bare (map_bare Diagnostic.ByUser (number_bare 0xA1 8 _)) (map_bare Diagnostic.ByProvider (number_bare 0xA2 8 _))))

  answered_bare : BareItem (answered_item rules)
  answered_bare =
      around_bare 0x61
      (named_bare (λ v. response v.0 v.1.0 v.1.1.0 v.1.1.1)
      (version_bare (then_bare (left_at rules 6) context_bare (then_bare (left_at rules 6) (number_bare 0xA2 7 _) (then_bare (left_at rules 6) source_bare info_bare)))))

  aborted_bare : BareItem (aborted_item rules)
  aborted_bare = around_bare 0x64 (named_bare (λ v. aborted v.0 v.1) (then_bare (left_at rules 6) (octet_bare 0x80 _) info_bare))

  held_bare : (n : Text) (s u : Bool) → BareItem (held_item rules n s u)
  held_bare n true u = around_bare 0xA0 (only_bare (level_at rules 5) (λ f e. e) (or_bare (asked_bare request) (or_bare answered_bare aborted_bare)))
  held_bare n false true = around_bare 0xA0 (only_bare (level_at rules 5) (λ f e. e) (asked_bare unidialogue))
  held_bare n false false =
      or_bare (map_bare (single n) (around_bare 0xA0 (only_bare (level_at rules 5) (λ f e. e) (parameter_bare 5)))) (map_bare (octets n) (leaf_bare 0x81 (λ c. true)))

  external_bare : Bare (external_body rules)
  external_bare =
      named_bare (λ v. v.1)
      (bind_bare (level_at rules 4) silently (λ f e. e) (λ a f e. e) name_bare (λ n. only_bare (level_at rules 4) (λ f e. e) (held_bare n (same structured n.1) (same unstructured n.1))))

  pub dialogue_bare : BareItem (dialogue_item rules)
  dialogue_bare = around_bare 0x6B (only_bare (inside6_b rules) spares_dialogue (around_bare 0x28 external_bare))

  pub tail_bare : Bare (tail_body rules)
  tail_bare = opt_bare dialogue_bare (named_bare (λ v. Option.get_or v []) (last_bare (left_at rules 2) components_bare))

  -- the parts of the messages that have no originating ID

  pub uni_bare : Bare (opt_body (dialogue_item rules) (only_body (level_at rules 2) (components_item rules)))
  uni_bare = opt_bare dialogue_bare (only_bare (level_at rules 2) (λ f e. e) components_bare)

  pub end_bare : Bare (then_body (level_at rules 2) dest_item (tail_body rules))
  end_bare = then_bare (left_at rules 2) (map_bare dest (leaf_bare 0x49 id_ok)) tail_bare

  pub abort_bare : Bare (then_body (level_at rules 2) dest_item (last_body (level_at rules 2) (or_item (map_item cause (octet_item 0x4A most_cause)) (map_item says (dialogue_item rules)))))
  abort_bare = then_bare (left_at rules 2) (map_bare dest (leaf_bare 0x49 id_ok)) (last_bare (left_at rules 2) (or_bare (map_bare cause (octet_bare 0x4A _)) (map_bare says dialogue_bare)))
