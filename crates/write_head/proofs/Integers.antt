-- An integer's octets are the last of its 32 bits. Assumes nothing.
use Prim.Native.Nat.{ℕ, zero, suc, ◌+◌, ◌-◌, ◌*◌, ◌/◌, ◌%◌, ◌≤◌, ◌<◌}
use native.Mathlib.Omega.{arith}
use mathlib.Core.Path.{◌≡◌, refl, sym, ap, ◌∙◌}
use mathlib.Core.Bool.{Bool, true, false}
use mathlib.Core.List.{List, [], ◌∷◌, ◌++◌}
use lib.ListN.{length, take, drop, get_or, length-drop}
use lib.Seq.{take_all}
use mir.Syntax.{w32}
use mir.Val.{of_z}
use Rattle.std.specs.Int.{to_be_bytes}
use Rattle.std.proofs.lemmas.Int.{ints}
use lib.IntN.{ℤ, pos, negsuc}
use lib.Signed.{mag}
use borrow.Author.Tests.{le-leb}
use Rattle.base.specs.Number.{octets_in, top_of, bits_at, holds}
use Rattle.base.proofs.Numbers.{bits_within, holds_small, small_holds}
use Rattle.element.specs.Form.{leaf, shortest, length_octets}
use Rattle.primitive.specs.Primitive.{width_from, integer_octets}
use Rattle.primitive.proofs.Integers.{integer_length, integer_some, integer_fits}
use Rattle.tcap.specs.Meaning.{integer}
use Rattle.write_check_row.specs.Forms.{octets_of}
use Rattle.write_head.proofs.Lengths.{short_length}

-- below -1 a wider number has further octets in front, and the same last ones
wider : (k j n : ℕ) → n ≤ top_of k → octets_in k (top_of k - n) ≡ octets_in k (top_of (k + j) - n)
unfolding octets_in top_of
wider zero j n h = refl
wider (suc k) j n h =
    let e : suc k + j ≡ suc (k + j) = omega arith in
    let a : (top_of k * 256 + 255 - n) / 256 ≡ top_of k - n / 256 = omega arith in
    let b : (top_of (k + j) * 256 + 255 - n) / 256 ≡ top_of (k + j) - n / 256 = omega (arith, grows k j) in
    let p : (top_of k * 256 + 255 - n) % 256 ≡ (top_of (k + j) * 256 + 255 - n) % 256 = omega (arith, grows k j) in
    rw (e, a, b, p, wider k j (n / 256) (omega arith))
  where
    grows : (k j : ℕ) → top_of k ≤ top_of (k + j)
    grows zero j = omega arith
    grows (suc k) j = let s : suc k + j ≡ suc (k + j) = omega arith in rw s (omega (arith, grows k j))

narrow : (k j : ℕ) (z : ℤ) → mag z ≤ top_of k → octets_in k (bits_at (top_of k) z) ≡ octets_in k (bits_at (top_of (k + j)) z)
unfolding bits_at
narrow k j (pos n) h = refl
narrow k j (negsuc n) h = wider k j n h

last_octets : (z : ℤ) → integer_octets z ≡ octets_in (width_from 3 1 z) (bits_at 4294967295 z)
unfolding integer_octets width_from top_of
last_octets z = go (holds 1 z) (holds 2 z) (holds 3 z) refl refl refl
  where
    small : (k : ℕ) → holds k z ≡ true → mag z ≤ top_of k
    small k e = omega (arith, holds_small k z e)

    go : (a b d : Bool) → holds 1 z ≡ a → holds 2 z ≡ b → holds 3 z ≡ d → integer_octets z ≡ octets_in (width_from 3 1 z) (bits_at 4294967295 z)
    go true b d e f g = rw e (narrow 1 3 z (small 1 e))
    go false true d e f g = rw (e, f) (narrow 2 2 z (small 2 f))
    go false false true e f g = rw (e, f, g) (narrow 3 1 z (small 3 g))
    go false false false e f g = rw (e, f, g)

module _ (z : ℤ) (size : ℕ) (s : size ≡ length (integer_octets z)) (h : mag z < 2147483648) where
  pub size_some : (1 ≤ size) × (size ≤ 4)
  unfolding top_of
  size_some = (omega (arith, integer_some z), omega (arith, integer_fits 4 z (omega arith) (small_holds 4 z (omega arith))))

  pub integer_parts : (tag number : ℕ) → number ≡ bits_at 4294967295 z → octets_of (integer tag z) ≡ tag ∷ size ∷ octets_in size number
  unfolding shortest
  integer_parts tag number n =
      let l : length_octets (length (integer_octets z)) ≡ size ∷ [] = rw (← s) (short_length size (omega (arith, size_some.1))) in
      let o : integer_octets z ≡ octets_in size number = rw (s, n, integer_length z) (last_octets z) in
      ap (λ (c : List ℕ). tag ∷ (c ++ integer_octets z)) l ∙ ap (λ (c : List ℕ). tag ∷ size ∷ c) o

  pub integer_one : (tag number : ℕ) → number ≡ bits_at 4294967295 z → size ≡ 1 → octets_of (integer tag z) ≡ tag ∷ 1 ∷ number % 256 ∷ []
  unfolding octets_in
  integer_one tag number n e = integer_parts tag number n ∙ ap (λ (k : ℕ). tag ∷ k ∷ octets_in k number) e

-- the last octets of 32 bits
cut : (k n : ℕ) → k ≤ 4 → drop (4 - k) (to_be_bytes w32 n) ≡ octets_in k n
unfolding octets_in
cut zero n h = refl
cut (suc zero) n h = refl
cut (suc (suc zero)) n h = refl
cut (suc (suc (suc zero))) n h = let e : n / 256 / 256 ≡ n / 65536 = omega arith in rw e
cut (suc (suc (suc (suc zero)))) n h =
    let e : n / 256 / 256 ≡ n / 65536 = omega arith in
    let f : n / 65536 / 256 ≡ n / 16777216 = omega arith in
    rw (e, f)
cut (suc (suc (suc (suc (suc k))))) n h = absurd (omega arith)

-- the number of 32 bits that stands for a value
bits_same : (z : ℤ) → mag z < 2147483648 → of_z w32 z ≡ bits_at 4294967295 z
unfolding bits_at
bits_same (pos n) h = omega (arith, ints)
bits_same (negsuc n) h = omega (arith, ints)

module _ (z : ℤ) (size : ℕ) (s : size ≡ length (integer_octets z)) (h : mag z < 2147483648) (b : List ℕ) (e : b ≡ to_be_bytes w32 (of_z w32 z)) where
  last_of : drop (4 - size) b ≡ integer_octets z
  last_of = rw (e, bits_same z h, cut size (bits_at 4294967295 z) (size_some z size s h).1, s, integer_length z, ← (last_octets z))

  whole : length (drop (4 - size) b) ≤ 4 - (4 - size)
  whole = omega (arith, length-drop (4 - size) b, ap length e)

  pub all_octets : (tag : ℕ) → octets_of (integer tag z) ≡ octets_of (leaf tag (take (4 - (4 - size)) (drop (4 - size) b)))
  all_octets tag = ap (λ (c : List ℕ). octets_of (leaf tag c)) (sym (take_all (4 - (4 - size)) (drop (4 - size) b) whole ∙ last_of))

  pub one_octet : (tag : ℕ) → size ≡ 1 → octets_of (integer tag z) ≡ tag ∷ 1 ∷ get_or b 3 0 ∷ []
  one_octet tag i = rw (e, bits_same z h) (integer_one z size s h tag (bits_at 4294967295 z) refl i)

-- a number of one octet
small_octets : (z : ℤ) → mag z < 128 → integer_octets z ≡ bits_at 255 z ∷ []
unfolding integer_octets width_from holds octets_in top_of
small_octets z h =
    let k : mag z ≤ 127 = omega arith in
    let b : bits_at 255 z % 256 ≡ bits_at 255 z = omega (arith, bits_within 255 z k) in
    rw (le-leb (mag z) 127 k, b)

pub small_parts : (tag : ℕ) (z : ℤ) → mag z < 128 → octets_of (integer tag z) ≡ tag ∷ 1 ∷ bits_at 255 z ∷ []
unfolding shortest
small_parts tag z h = rw (small_octets z h) (ap (λ (c : List ℕ). tag ∷ (c ++ (bits_at 255 z ∷ []))) (short_length 1 (omega arith)))
