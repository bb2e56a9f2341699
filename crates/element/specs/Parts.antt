-- How elements and contents are put together; every place is asked by `ask`.
-- Assumes nothing: these are definitions.
use Rattle.std.specs.Prelude.{ℕ, zero, suc, ◌+◌}
use mathlib.Core.{Bool.Bool, Bool.true, Bool.false, Bool.◌||◌, Bool.cond, List.List, List.[], List.◌∷◌, Option.Option, Option.map, Option.none, Option.some}
use lib.{ListN.length, ListN.take, ListN.drop, Dec.eqb, IntN.ℤ}
use Rattle.primitive.specs.{Primitive.signed_of, Primitive.integer_ok}
use Rattle.element.specs.{Fault.Text, Fault.Fault, Fault.at, Ask.Got, Ask.got, Ask.next, Ask.check, Ask.blamed, Ask.definite, Ask.indefinite, Ask.Head, Ask.head, Ask.Body, Ask.ask, declared.FaultKind.FaultKind}

-- one kind of element: its first octets, and how its contents are read from its head, its place and the part that it begins
pub record Item (A : Type 0) : Type 0 where
  pub mine : ℕ → Bool
  pub contents : Head → ℕ → List ℕ → Got A

-- where contents stand: the levels left, and whom their elements belong to
pub record Where : Type 0 where
  pub left : ℕ
  pub owner : Fault → Fault

abbrev pub level : ℕ → Where
level l = record { left = l; owner = λ f. f }

-- a primitive whose contents pass a test; no indefinite length gets here
unfoldable pub leaf_contents : (List ℕ → Bool) → Head → ℕ → List ℕ → Got Text
leaf_contents fits (head a u (definite n)) p part = check (fits (take n (drop u part))) (at FaultKind.BadContents p) (got (p + u, take n (drop u part)) (u + n))
leaf_contents fits (head a u indefinite) p part = check false (at FaultKind.BadLength p) (got (p, []) 0)

abbrev pub leaf_item : ℕ → (List ℕ → Bool) → Item Text
leaf_item t fits = record { mine = λ a. eqb a t; contents = leaf_contents fits }

-- a constructor's contents, whose body may depend on how many octets there are: the body's value, and the octets without the end pair
unfoldable pub inside : {A : Type 0} → (ℕ → Body A) → Head → ℕ → List ℕ → Got (A × Text)
inside b (head a u (definite n)) p part = next (ask (b n) true (p + u) (take n (drop u part))) (λ v k. got (v, (p + u, take n (drop u part))) (u + n))
inside b (head a u indefinite) p part = next (ask (b (length (drop u part))) false (p + u) (drop u part)) (λ v k. got (v, (p + u, take k (drop u part))) (u + (k + 2)))

abbrev pub around_item : {A : Type 0} → ℕ → Body A → Item A
around_item t b = record { mine = λ a. eqb a t; contents = λ h p part. next (inside (λ n. b) h p part) (λ v n. got v.0 n) }

-- one that is kept as its contents octets
abbrev pub kept_item : {A : Type 0} → ℕ → (ℕ → Body A) → Item Text
kept_item t b = record { mine = λ a. eqb a t; contents = λ h p part. next (inside b h p part) (λ v n. got v.1 n) }

abbrev pub map_item : {A B : Type 0} → (A → B) → Item A → Item B
map_item f x = record { mine = x.mine; contents = λ h p part. next (x.contents h p part) (λ a n. got (f a) n) }

abbrev pub first_of : Head → ℕ
first_of (head a u s) = a

-- one item or another
abbrev pub or_item : {A : Type 0} → Item A → Item A → Item A
or_item x y = record { mine = λ a. x.mine a || y.mine a; contents = λ h p part. cond (x.mine (first_of h)) (x.contents h p part) (y.contents h p part) }

-- Contents

-- what comes at a place: the value if the contents end here, the expected tags, the fault of another, and how it goes on
abbrev pub place : {A : Type 0} → Where → Option A → (ℕ → Bool) → FaultKind → (Bool → Head → ℕ → List ℕ → Got A) → Body A
place w ends mine other goes = record { ends = ends; full = false; owner = w.owner; left = w.left; mine = mine; other = other; goes = goes }

-- nothing more may come
abbrev pub done : {A : Type 0} → Where → A → Body A
done w v = place w (some v) (λ a. false) FaultKind.TooMany (λ d h p part. got v 0)

-- an element, whose faults belong to `owner`, and then the rest, which may depend on it; `note` tells of it to later faults
unfoldable pub onward : {A B C : Type 0} → (Fault → Fault) → Got A → (A → Fault → Fault) → (A → Body B) → (A → B → C) → Bool → ℕ → List ℕ → Got C
onward owner x note y f d p part = next (blamed owner x) (λ a n. blamed (note a) (next (ask (y a) d (p + n) (drop n part)) (λ b k. got (f a b) (n + k))))

abbrev pub bind_body : {A B : Type 0} → Where → (A → Fault → Fault) → Item A → (A → Body B) → Body (A × B)
bind_body w note x y = place w none x.mine FaultKind.Another (λ d h p part. onward w.owner (x.contents h p part) note y (λ a b. (a, b)) d p part)

abbrev pub silently : {A : Type 0} → A → Fault → Fault
silently a f = f

abbrev pub then_body : {A B : Type 0} → Where → Item A → Body B → Body (A × B)
then_body w x y = bind_body w silently x (λ a. y)

-- one last element
abbrev pub only_body : {A : Type 0} → Where → Item A → Body A
only_body w x = place w none x.mine FaultKind.Another (λ d h p part. onward w.owner (x.contents h p part) silently (λ a. done w a) (λ a b. a) d p part)

-- one that may be left out
abbrev pub last_body : {A : Type 0} → Where → Item A → Body (Option A)
last_body w x = place w (some none) x.mine FaultKind.Another (λ d h p part. onward w.owner (x.contents h p part) silently (λ a. done w a) (λ a b. some a) d p part)

-- an element that may be left out, and then the rest, at whose place it stands
unfoldable pub opt_pick : {A B : Type 0} → Bool → Got A → Body B → Bool → Head → ℕ → List ℕ → Got (Option A × B)
opt_pick true x y d h p part = onward y.owner x silently (λ a. y) (λ a b. (some a, b)) d p part
opt_pick false x y d h p part = next (y.goes d h p part) (λ b k. got (none, b) k)

abbrev pub opt_body : {A B : Type 0} → Item A → Body B → Body (Option A × B)
opt_body x y =
    record { ends = map (λ b. (none, b)) y.ends; full = y.full; owner = y.owner; left = y.left; mine = λ a. x.mine a || y.mine a; other = y.other; goes = λ d h p part. opt_pick (x.mine (first_of h)) (x.contents h p part) y d h p part }

abbrev pub map_body : {A B : Type 0} → (A → B) → Body A → Body B
map_body f b =
    record { ends = map f b.ends; full = b.full; owner = b.owner; left = b.left; mine = b.mine; other = b.other; goes = λ d h p part. next (b.goes d h p part) (λ a n. got (f a) n) }

-- a series: `room` more may come (components, or as many as there are octets), the next is number k
unfoldable pub series_body : {A : Type 0} → (ℕ → Where) → FaultKind → Item A → Option (List A) → ℕ → ℕ → Body (List A)
series_body w other x e zero k = record { ends = e; full = true; owner = (w k).owner; left = (w k).left; mine = λ a. false; other = other; goes = λ d h p part. got [] 0 }
series_body w other x e (suc room) k =
    place (w k) e x.mine other
    (λ d h p part. onward (w k).owner (x.contents h p part) silently (λ a. series_body w other x (some []) room (suc k)) (λ a ws. a ∷ ws) d p part)

-- a signed integer of 1 to `most` octets; one octet for the IDs
abbrev pub integer_item : ℕ → ℕ → Item ℤ
integer_item t most = map_item (λ v. signed_of v.1) (leaf_item t (integer_ok most))
