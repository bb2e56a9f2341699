-- A grammar of octets as data: what may stand on the line, with the sender's choices left open; and document 01's lengths.
-- Assumes nothing: these are definitions.
use Rattle.std.specs.Prelude.{ℕ, suc, ◌≤◌, zero, ◌+◌, ◌/◌, ◌%◌, ◌<◌}
use mathlib.Core.{Path.◌≡◌, Logic.◌⊎◌, List.List, List.[], List.◌∷◌, List.◌++◌, Option.Option, Option.none, Option.some, Bool.Bool, Bool.true, Bool.false, Bool.cond}
use lib.{ListN.length, ListN.get_or, Dec.ltb, Dec.leb, Dec.eqb}
use Rattle.base.specs.{Number.number_from}

-- these very octets; a primitive; one form after another; a constructor around a form; a form or nothing. A tag is its octets
pub data Form : Type 0 where
  exactly : List ℕ → Form
  leaf_of : List ℕ → List ℕ → Form
  then : Form → Form → Form
  around_of : List ℕ → Form → Form
  perhaps : Form → Form

-- with a tag of one octet
abbrev pub leaf : ℕ → List ℕ → Form
leaf tag contents = leaf_of (tag ∷ []) contents

abbrev pub around : ℕ → Form → Form
around tag f = around_of (tag ∷ []) f

-- an optional part that is there or not, as the value says; one for each value of a list
abbrev pub maybe : {A : Type 0} → (A → Form) → Option A → Form
maybe f none = exactly []
maybe f (some a) = f a

unfoldable pub series_form : {A : Type 0} → (A → Form) → List A → Form
series_form f [] = exactly []
series_form f (a ∷ ws) = then (f a) (series_form f ws)

-- which octets may stand for a length of n, the shortest of them, and whether the indefinite form may be used
pub record LengthRules : Type 1 where
  pub Stands : List ℕ → ℕ → Type 0
  pub fewest : ℕ → List ℕ
  pub Indefinite : Type 0

module _ (rules : LengthRules) where
  -- tag, length and contents; or tag, 80, contents and the end pair
  unfoldable pub Definite : List ℕ → List ℕ → List ℕ → Type 0
  Definite tag c m = (l : List ℕ) × rules.Stands l (length c) × (m ≡ tag ++ (l ++ c))

  unfoldable pub Unending : List ℕ → List ℕ → List ℕ → Type 0
  Unending tag c m = rules.Indefinite × (m ≡ tag ++ (0x80 ∷ (c ++ (0 ∷ 0 ∷ []))))

  -- the octets m are of the form f
  unfoldable pub Matches : Form → List ℕ → Type 0
  Matches (exactly s) m = m ≡ s
  Matches (leaf_of t c) m = Definite t c m
  Matches (then f g) m = (a : List ℕ) × (b : List ℕ) × (m ≡ a ++ b) × Matches f a × Matches g b
  Matches (around_of t f) m = (c : List ℕ) × Matches f c × (Definite t c m ⊎ Unending t c m)
  Matches (perhaps f) m = (m ≡ []) ⊎ Matches f m

  -- the shortest octets of a form: with definite lengths, and without what may be left out
  unfoldable pub shortest : Form → List ℕ
  shortest (exactly s) = s
  shortest (leaf_of t c) = t ++ (rules.fewest (length c) ++ c)
  shortest (then f g) = shortest f ++ shortest g
  shortest (around_of t f) = let c = shortest f in t ++ (rules.fewest (length c) ++ c)
  shortest (perhaps f) = []

-- the same octets, or fewer
infix 40 ◌⊑◌
unfoldable pub ◌⊑◌ : List ℕ → List ℕ → Type 0
a ⊑ b = (a ≡ b) ⊎ (suc (length a) ≤ length b)

-- Document 01's lengths: under 128 in one octet, otherwise 81 to FE and as many octets, as few as possible; both forms for a constructor

-- whether a length in k octets, the first of which is `one`, is in as few as possible
unfoldable pub fewest_of : ℕ → ℕ → Bool
fewest_of one k = cond (eqb one 0) false (cond (eqb k 1) (leb 128 one) true)

pub record LongLength (l ds : List ℕ) (n : ℕ) : Type 0 where
  pub octets : l ≡ (128 + length ds) ∷ ds
  pub some : 1 ≤ length ds
  pub most : length ds ≤ 126
  pub number : number_from 0 ds ≡ n
  pub few : fewest_of (get_or ds 0 0) (length ds) ≡ true

unfoldable pub StandsFor : List ℕ → ℕ → Type 0
StandsFor l n = ((n < 128) × (l ≡ n ∷ [])) ⊎ ((ds : List ℕ) × LongLength l ds n)

-- a number's octets, none for 0; the first argument is enough of them
unfoldable pub digits : ℕ → ℕ → List ℕ
digits zero n = []
digits (suc k) n = let more = digits k (n / 256) in cond (eqb n 0) [] (more ++ (n % 256 ∷ []))

unfoldable pub length_octets : ℕ → List ℕ
length_octets n = let ds = digits n n in cond (ltb n 128) (n ∷ []) ((128 + length ds) ∷ ds)

abbrev pub document01 : LengthRules
document01 = record { Stands = StandsFor; fewest = length_octets; Indefinite = Unit {0} }
