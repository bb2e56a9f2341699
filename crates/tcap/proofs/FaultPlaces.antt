-- Where a fault is found, and what it tells: in the message or about it, with IDs that are well-formed. Assumes nothing.
use Prim.Native.Nat.{ℕ, ◌≤◌, ◌<◌}
use mathlib.Core.Path.{◌≡◌, refl, sym, ap, ◌∙◌}
use mathlib.Core.Bool.{true, false, false≢true}
use mathlib.Core.List.{List, [], ◌++◌}
use mathlib.Core.Logic.{◌⊎◌, inl, inr}
use mathlib.Core.Option.{Option, none, some}
use native.Mathlib.Omega.{arith}
use lib.ListN.{length}
use lib.Dec.{eqb}
use lib.IntN.{ℤ}
use borrow.Author.Tests.{eq-eqb, le-leb}
use Rattle.base.specs.Value.{Every, Maybe}
use Rattle.element.specs.declared.{FaultKind.FaultKind}
use Rattle.element.specs.Fault.{number_of, Text, Owner, portion, dialogue, component, Fault, fault, at, in_dialogue, in_component, with_invoke_id, with_orig_id}
use Rattle.element.proofs.Ends.{outer, Plain}
use Rattle.element.proofs.StringPlaces.{StandsAt, Laid, laid_each, Claim, Keeps}
use Rattle.tcap.specs.Meaning.{Originating, orig}
use Rattle.tcap.specs.WellFormed.{Rules, most_octets, most_components, most_transaction_id_octets, id_ok, InvokeIdOk, OrigOk}
use Rattle.tcap.specs.Productions.{carried}
use Rattle.tcap.proofs.Strings.{octets_of, orig_as, Strings, tagged, orig_strings}
use Rattle.tcap.specs.Refused.{UnknownOrig, begun}
use Rattle.tcap.proofs.UnknownType.{opens_begins, begins_behind}

-- Of a fault

abbrev pub kind_of : Fault → FaultKind
kind_of (fault k p o i t) = k

abbrev pub place_of : Fault → ℕ
place_of (fault k p o i t) = p

abbrev pub owner_of : Fault → Owner
owner_of (fault k p o i t) = o

abbrev pub invoke_of : Fault → Option ℤ
invoke_of (fault k p o i t) = i

abbrev pub orig_of : Fault → Option Text
orig_of (fault k p o i t) = t

-- behind 48 and its length, and of 1 to 4 octets
abbrev pub OrigHere : List ℕ → Text → Type 0
OrigHere m t = StandsAt m (some 0x48, t) × (id_ok t.1 ≡ true)

abbrev pub OwnerOk : Owner → Type 0
OwnerOk portion = Unit {0}
OwnerOk dialogue = Unit {0}
OwnerOk (component k) = k < most_components

-- found in contents of m that end at hi
pub record FaultOk (m : List ℕ) (hi : ℕ) (f : Fault) : Type 0 where
  pub place : place_of f ≤ hi
  pub owner : OwnerOk (owner_of f)
  pub plain : Plain (kind_of f)
  pub invoke_id : Maybe InvokeIdOk (invoke_of f)
  pub orig_id : Maybe (OrigHere m) (orig_of f)

unfoldable pub claim : List ℕ → Claim
claim m =
    record {
      Of = FaultOk m;
      grows = λ i j f h q. record { place = omega (arith, q.place); owner = q.owner; plain = q.plain; invoke_id = q.invoke_id; orig_id = q.orig_id };
      found = λ k p i. record { place = omega arith; owner = tt; plain = i; invoke_id = tt; orig_id = tt };
    }

-- found in m or about it: 7, 8 and 9 belong to no part of it
pub record RefusedFor (m : List ℕ) (f : Fault) : Type 0 where
  pub place : place_of f ≤ length m
  pub owner : OwnerOk (owner_of f)
  pub inner : Plain (kind_of f) ⊎ (owner_of f ≡ portion)
  pub overlong : kind_of f ≡ FaultKind.Overlong → place_of f ≡ most_octets
  pub no_message : kind_of f ≡ FaultKind.NoMessage → place_of f ≡ 0
  pub invoke_id : Maybe InvokeIdOk (invoke_of f)
  pub orig_id : Maybe (OrigHere m) (orig_of f)

-- with levels enough for the fixed parts of a message
abbrev pub Refused : Rules → List ℕ → Fault → Type 0
Refused rules m f = 8 ≤ rules.limit → RefusedFor m f

pub plain_not : (k : FaultKind) → Plain k → (n : ℕ) → outer n ≡ true → number_of k ≡ n → ⊥
plain_not k i n t e = false≢true (sym i ∙ ap outer e ∙ t)

pub inside_message : (m : List ℕ) (f : Fault) → FaultOk m (length m) f → RefusedFor m f
unfolding number_of
inside_message m f q =
    record {
      place = q.place;
      owner = q.owner;
      inner = inl q.plain;
      overlong = λ e. absurd (plain_not (kind_of f) q.plain 7 refl (ap number_of e));
      no_message = λ e. absurd (plain_not (kind_of f) q.plain 8 refl (ap number_of e));
      invoke_id = q.invoke_id;
      orig_id = q.orig_id;
    }

-- at the top: of a kind that is found there at just that place
pub about_message : (m : List ℕ) (k : FaultKind) (p : ℕ) → p ≤ length m → (k ≡ FaultKind.Overlong → p ≡ most_octets) → (k ≡ FaultKind.NoMessage → p ≡ 0) → RefusedFor m (at k p)
about_message m k p h i j = record { place = h; owner = tt; inner = inr refl; overlong = i; no_message = j; invoke_id = tt; orig_id = tt }

pub other_kind : {A : Type 0} (k l : FaultKind) → eqb (number_of k) (number_of l) ≡ false → k ≡ l → A
other_kind k l t e = absurd (false≢true (sym t ∙ eq-eqb _ _ (ap number_of e)))

pub no_message_lem : (m : List ℕ) (t : Option Text) → Maybe (OrigHere m) t → RefusedFor m (fault FaultKind.NoMessage 0 portion none t)
unfolding number_of
no_message_lem m t h = record { place = omega arith; owner = tt; inner = inr refl; overlong = other_kind FaultKind.NoMessage FaultKind.Overlong refl; no_message = λ e. refl; invoke_id = tt; orig_id = h }

pub unknown_here : (rules : Rules) (m : List ℕ) (t : Option Text) → UnknownOrig rules m t → Maybe (OrigHere m) t
unfolding id_ok
unknown_here rules m none u = tt
unknown_here rules m (some s) (begun w) = let b = opens_begins rules m s w in (begins_behind b, rw (le-leb 1 (length s.1) b.sized.0, le-leb (length s.1) most_transaction_id_octets b.sized.1))

pub too_long : (m : List ℕ) → most_octets ≤ length m → RefusedFor m (at FaultKind.Overlong most_octets)
unfolding number_of
too_long m h = about_message m FaultKind.Overlong most_octets h (λ e. refl) (other_kind FaultKind.Overlong FaultKind.NoMessage refl)

pub after_message : (m : List ℕ) (p : ℕ) → p ≤ length m → RefusedFor m (at FaultKind.OctetsAfter p)
unfolding number_of
after_message m p h = about_message m FaultKind.OctetsAfter p h (other_kind FaultKind.OctetsAfter FaultKind.Overlong refl) (other_kind FaultKind.OctetsAfter FaultKind.NoMessage refl)

-- what is known from outside: an owner, an invoke ID, an originating ID
pub known_as : (m : List ℕ) (hi p : ℕ) (k : FaultKind) (o o' : Owner) (i i' : Option ℤ) (t t' : Option Text) → OwnerOk o' → Maybe InvokeIdOk i' → Maybe (OrigHere m) t' → FaultOk m hi (fault k p o i t) → FaultOk m hi (fault k p o' i' t')
known_as m hi p k o o' i i' t t' g j h q = record { place = q.place; owner = g; plain = q.plain; invoke_id = j; orig_id = h }

pub keeps_dialogue : (m : List ℕ) → Keeps (claim m) in_dialogue
unfolding claim in_dialogue
keeps_dialogue m hi (fault k p o i t) q = known_as m hi p k o dialogue i i t t tt q.invoke_id q.orig_id q

pub keeps_component : (m : List ℕ) (n : ℕ) → n < most_components → Keeps (claim m) (in_component n)
unfolding claim in_component
keeps_component m n h hi (fault k p o i t) q = known_as m hi p k o (component n) i i t t h q.invoke_id q.orig_id q

pub keeps_invoke : (m : List ℕ) (j : Option ℤ) → Maybe InvokeIdOk j → Keeps (claim m) (with_invoke_id j)
unfolding claim with_invoke_id
keeps_invoke m j h hi (fault k p o i t) q = known_as m hi p k o o i j t t q.owner h q.orig_id q

pub orig_here : (m : List ℕ) (s : Text) (l : Strings) (lo hi : ℕ) → Laid m lo hi (tagged 0x48 s ++ l) → id_ok s.1 ≡ true → OrigHere m s
unfolding Every
orig_here m s l lo hi i h = ((laid_each {P = StandsAt m} (λ s h. h) i).0, h)

pub keeps_carried : (m : List ℕ) (o : Originating Text) (lo hi : ℕ) → Laid m lo hi (orig_strings o) → OrigOk (orig_as octets_of o) → Keeps (claim m) (carried o)
unfolding claim with_orig_id
keeps_carried m (orig s) lo hi i h j (fault k p o n t) q = known_as m j p k o o n n t (some s) q.owner q.invoke_id (orig_here m s [] lo hi i h) q
