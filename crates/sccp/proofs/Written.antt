-- What is written is read back, whatever stands behind it. Assumes nothing.
use Rattle.std.specs.Prelude.{Ok}
use Prim.Native.Nat.{ℕ, suc, ◌+◌, ◌≤◌, ◌<◌}
use native.Mathlib.Omega.{arith}
use native.Mathlib.Nat.{add-zero}
use mathlib.Core.Path.{◌≡◌, refl, sym, ap, ◌∙◌}
use mathlib.Core.Logic.{◌↔◌}
use mathlib.Core.Bool.{true, ◌&&◌}
use mathlib.Core.List.{List, [], ◌∷◌, ◌++◌, append_assoc}
use lib.ListN.{length, get_or, drop, length-append}
use lib.Seq.{get_or-drop, drop-drop, drop-append_seam, take-append_seam}
use borrow.Author.Tests.{eq-eqb}
use Rattle.std.proofs.lemmas.Bool.Decides.{nat_tests}
use Rattle.base.specs.Value.{Every}
use Rattle.base.proofs.Numbers.{Octets, octets_append}
use Rattle.sccp.specs.declared.{Part.Part, Unitdata.Unitdata}
use Rattle.sccp.specs.Unitdata.{part_at, inside, addressed, apart, separate, judged, read_unitdata}
use Rattle.sccp.specs.Standing.{laid_out, octets_of}
use Rattle.sccp.specs.Writing.{most_addressed, counted, unitdata_octets, in_range}
use Rattle.sccp.proofs.Ranges.{ranged, octets_length}

-- what stands behind a run of octets, and the octet at a place
onward : (l s r : List ℕ) (k n : ℕ) → drop k l ≡ s ++ r → n ≡ k + length s → drop n l ≡ r
onward l s r k n e f = rw f (sym (drop-drop (length s) k l) ∙ rw e (drop-append_seam s r))

octet : (l : List ℕ) (x : ℕ) (r : List ℕ) (k : ℕ) → drop k l ≡ x ∷ r → get_or l k 0 ≡ x
octet l x r k e = sym (get_or-drop k l 0 0 ∙ rw add-zero) ∙ rw e

-- a part by its length octet's place, and a message by its parts
module _ (l : List ℕ) where
  part_named : (i k p x : ℕ) → i + get_or l i 0 ≡ k → suc k ≡ p → get_or l k 0 ≡ x → part_at l i ≡ record { place = p; len = x }
  part_named i k p x e g f = rw (e, g, f)

  read_parts : (a b d : Part) → get_or l 0 0 ≡ 9 → part_at l 2 ≡ a → part_at l 3 ≡ b → part_at l 4 ≡ d → (inside l a && (inside l b && inside l d)) ≡ true → separate a b d ≡ true → addressed a b ≡ true → read_unitdata l ≡ Ok (record { class = get_or l 1 0; called = a; calling = b; userdata = d })
  unfolding read_unitdata judged
  read_parts a b d t e f g i s n =
      let i' : (inside l (part_at l 2) && (inside l (part_at l 3) && inside l (part_at l 4))) ≡ true = rw (← e, ← f, ← g) at i in
      let s' : separate (part_at l 2) (part_at l 3) (part_at l 4) ≡ true = rw (← e, ← f, ← g) at s in
      let n' : addressed (part_at l 2) (part_at l 3) ≡ true = rw (← e, ← f) at n in
      rw (eq-eqb (get_or l 0 0) 9 t, i', s', n', e, f, g)

module _ (c : ℕ) (a b d rest : List ℕ) where
  abbrev m : List ℕ
  m = unitdata_octets c a b d ++ rest

  -- from the called address on, from the calling one's length octet on, and so to the end
  called_at : drop 6 m ≡ a ++ (counted b ++ (counted d ++ rest))
  unfolding unitdata_octets
  called_at = append_assoc a (counted b ++ counted d) rest ∙ ap (λ (l : List ℕ). a ++ (length b ∷ l)) (append_assoc b (counted d) rest)

  calling_from : drop (6 + length a) m ≡ counted b ++ (counted d ++ rest)
  calling_from = onward m a (counted b ++ (counted d ++ rest)) 6 (6 + length a) called_at refl

  calling_at : drop (7 + length a) m ≡ b ++ (counted d ++ rest)
  calling_at = onward m (length b ∷ []) (b ++ (counted d ++ rest)) (6 + length a) (7 + length a) calling_from (omega arith)

  data_from : drop (7 + (length a + length b)) m ≡ counted d ++ rest
  data_from = onward m b (counted d ++ rest) (7 + length a) (7 + (length a + length b)) calling_at (omega arith)

  data_at : drop (8 + (length a + length b)) m ≡ d ++ rest
  data_at = onward m (length d ∷ []) (d ++ rest) (7 + (length a + length b)) (8 + (length a + length b)) data_from (omega arith)

  -- so the three parts named are the octets written
  pub parts_stand : let u = laid_out c a b d in (octets_of m u.called ≡ a) × (octets_of m u.calling ≡ b) × (octets_of m u.userdata ≡ d)
  parts_stand = (rw called_at (take-append_seam a _), rw calling_at (take-append_seam b _), rw data_at (take-append_seam d _))

  called_is : part_at m 2 ≡ (laid_out c a b d).called
  unfolding unitdata_octets
  called_is = refl

  -- each pointer counts from its own octet, and names the length octet
  calling_is : part_at m 3 ≡ (laid_out c a b d).calling
  unfolding unitdata_octets
  calling_is = part_named m 3 (6 + length a) (7 + length a) (length b) (omega arith) (omega arith) (octet m (length b) (b ++ (counted d ++ rest)) (6 + length a) calling_from)

  data_is : part_at m 4 ≡ (laid_out c a b d).userdata
  unfolding unitdata_octets
  data_is = part_named m 4 (7 + (length a + length b)) (8 + (length a + length b)) (length d) (omega arith) (omega arith) (octet m (length d) (d ++ rest) (7 + (length a + length b)) data_from)

  whole : length m ≡ 8 + (length a + length b) + length d + length rest
  whole = omega (arith, length-append (unitdata_octets c a b d) rest, octets_length c a b d [])

  -- the tests of reading
  abbrev u : Unitdata
  u = laid_out c a b d

  inside_all : (inside m u.called && (inside m u.calling && inside m u.userdata)) ≡ true
  inside_all = let w = whole in grind (arith, nat_tests)

  separate_all : separate u.called u.calling u.userdata ≡ true
  unfolding separate apart
  separate_all = grind (arith, nat_tests)

  -- what is written is read back
  pub reads_back : in_range (length a) (length b) (length d) ≡ true → read_unitdata m ≡ Ok (laid_out c a b d)
  unfolding unitdata_octets
  reads_back e =
      let r = ranged (length a) (length b) (length d) e in
      read_parts m u.called u.calling u.userdata refl called_is calling_is data_is inside_all separate_all (grind (arith, nat_tests))

-- Pointers

-- the last pointer fits one octet exactly if the addresses have at most 252 octets: with 253 it would be 256
pub pointers_exactly : (c : ℕ) (a b d : List ℕ) → (get_or (unitdata_octets c a b d) 4 0 < 256) ↔ (length a + length b ≤ most_addressed)
unfolding unitdata_octets
pointers_exactly c a b d = (λ h. omega arith, λ h. omega arith)

pub too_far : (c : ℕ) (a b d : List ℕ) → length a + length b ≡ 253 → get_or (unitdata_octets c a b d) 4 0 ≡ 256
unfolding unitdata_octets
too_far c a b d h = omega arith

-- all that is written are octets
counted_octets : (s : List ℕ) → length s < 256 → Octets s → Octets (counted s)
unfolding Every
counted_octets s h o = (h, o)

pub pointers_fit : (c : ℕ) (a b d : List ℕ) → in_range (length a) (length b) (length d) ≡ true → c < 256 → Octets a → Octets b → Octets d → Octets (unitdata_octets c a b d)
unfolding unitdata_octets Every
pointers_fit c a b d e k o p q =
    let r = ranged (length a) (length b) (length d) e in
    (omega arith, (k, (omega arith, (omega arith, (omega arith, octets_append (counted a) (counted b ++ counted d) (counted_octets a (omega arith) o) (octets_append (counted b) (counted d) (counted_octets b (omega arith) p) (counted_octets d (omega arith) q)))))))
