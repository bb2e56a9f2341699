-- Laws of digits: a number by its last digit and how many it has, a signed number below 0 by its absolute value, and one octet more in hex. Assumes nothing.
use Prim.Native.Nat.{ℕ, zero, suc, ◌+◌, ◌*◌, ◌/◌, ◌%◌, ◌<◌, ◌≤◌}
use native.Mathlib.Omega.{arith}
use native.Mathlib.Numerals.{add-one}
use mathlib.Core.Bool.{Bool, true, false, false≢true}
use mathlib.Core.Path.{◌≡◌, refl, sym, ap, ◌∙◌}
use mathlib.Core.List.{List, [], ◌∷◌, ◌++◌}
use lib.ListN.{length, take, get_or, length-append}
use lib.Seq.{take-suc}
use lib.Dec.{ltb, leb-zero}
use lib.IntN.{ℤ, pos, negsuc, nat_abs}
use lib.Signed.{mag, le_z}
use borrow.Author.Tests.{lt-ltb, le-ltb, ltb-false}
use Rattle.base.specs.Text.{text}
use Rattle.base.specs.inner.Put.{Put}
use Rattle.base.proofs.Puts.{put_then}
use Rattle.digits.specs.Digits.{last_digits, decimal, signed, hex_digit, hex}

-- any bound above the number will do
stable : (f g n : ℕ) → n < f → n < g → last_digits f n ≡ last_digits g n
unfolding last_digits
stable zero g n a b = absurd (omega arith)
stable (suc f) zero n a b = absurd (omega arith)
stable (suc f) (suc g) n a b = by (ltb n 10) refl (λ (h : 10 ≤ n). stable f g (n / 10) (omega arith) (omega arith))
  where
    by : (t : Bool) → ltb n 10 ≡ t → (10 ≤ n → last_digits f (n / 10) ≡ last_digits g (n / 10)) → last_digits (suc f) n ≡ last_digits (suc g) n
    by true e r = rw e
    by false e r = simp e (ap (λ (l : List ℕ). l ++ ((48 + n % 10) ∷ [])) (r (ltb-false n 10 e)))

pub decimal_low : (n : ℕ) → n < 10 → decimal n ≡ (48 + n) ∷ []
unfolding decimal last_digits
decimal_low n h = simp (lt-ltb n 10 h)

pub decimal_more : (n : ℕ) → 10 ≤ n → decimal n ≡ decimal (n / 10) ++ ((48 + n % 10) ∷ [])
unfolding decimal last_digits
decimal_more n h = simp (le-ltb n 10 h) (ap (λ (l : List ℕ). l ++ ((48 + n % 10) ∷ [])) (stable n (suc (n / 10)) (n / 10) (omega arith) (omega arith)))

-- a number below tens k, which is 10, 100 and so on, has at most k + 1 digits
unfoldable pub tens : ℕ → ℕ
tens zero = 10
tens (suc k) = 10 * tens k

few_digits : (f k n : ℕ) → n < tens k → length (last_digits f n) ≤ suc k
unfolding last_digits tens
few_digits zero k n h = omega arith
few_digits (suc f) k n h = by (ltb n 10) refl k h (λ (j : ℕ) (l : n / 10 < tens j). few_digits f j (n / 10) l)
  where
    by : (t : Bool) → ltb n 10 ≡ t → (k : ℕ) → n < tens k → ((j : ℕ) → n / 10 < tens j → length (last_digits f (n / 10)) ≤ suc j) → length (last_digits (suc f) n) ≤ suc k
    by true e k h r = rw e (omega arith)
    by false e zero h r = absurd (omega (arith, h, ltb-false n 10 e))
    by false e (suc j) h r = rw e (omega (arith, length-append (last_digits f (n / 10)) ((48 + n % 10) ∷ []), r j (omega (arith, h))))

pub decimal_few : (k n : ℕ) → n < tens k → length (decimal n) ≤ suc k
unfolding decimal
decimal_few k n h = few_digits (suc n) k n h

pub signed_few : (k : ℕ) (z : ℤ) → mag z + 1 < tens k → length (signed z) ≤ suc (suc k)
unfolding signed
signed_few k (pos n) h = omega (arith, decimal_few k n (omega (arith, h)))
signed_few k (negsuc n) h = omega (arith, decimal_few k (suc n) (omega (arith, h)))

pub hex_length : (s : List ℕ) → length (hex s) ≡ 2 * length s
unfolding hex
hex_length [] = refl
hex_length (x ∷ xs) = omega (arith, hex_length xs)

-- a number below 0 by how far it is from 0
pub signed_below : (z : ℤ) → le_z (pos 0) z ≡ false → signed z ≡ text "-" ++ decimal (nat_abs z)
unfolding signed
signed_below (pos n) e = absurd (false≢true (sym e ∙ leb-zero n))
signed_below (negsuc n) e = refl

pub hex_append : (a b : List ℕ) → hex (a ++ b) ≡ hex a ++ hex b
unfolding hex
hex_append [] b = refl
hex_append (x ∷ a) b = rw (hex_append a b)

-- a turn of the loop
pub hex_step : (s : List ℕ) (i : ℕ) {d : List ℕ} {at : ℕ} {o : ℕ} {e : List ℕ} {q : ℕ} {f : List ℕ} → i < length s → Put d at (hex (take i s)) o e → Put e o (hex_digit (get_or s i 0 / 16) ∷ hex_digit (get_or s i 0 % 16) ∷ []) q f → Put d at (hex (take (i + 1) s)) q f
unfolding hex
hex_step s i h p n = rw (add-one i, take-suc s i 0 h, hex_append (take i s) (get_or s i 0 ∷ [])) (put_then p n)
