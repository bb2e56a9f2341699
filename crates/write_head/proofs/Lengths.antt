-- The octets of a length: one, two or three of them. Assumes nothing.
use Prim.Native.Nat.{ℕ, ◌/◌, ◌%◌, ◌≤◌, ◌<◌}
use native.Mathlib.Omega.{arith}
use mathlib.Core.Path.{◌≡◌}
use mathlib.Core.Logic.{inl, inr}
use mathlib.Core.List.{[], ◌∷◌}
use Rattle.element.specs.Form.{leaf, shortest, document01, length_octets}
use Rattle.element.proofs.Shortest.{Cases, cases}

pub short_length : (n : ℕ) → n < 128 → length_octets n ≡ n ∷ []
unfolding Cases
short_length n h = by (cases n (omega arith))
  where
    by : Cases n → length_octets n ≡ n ∷ []
    by (inl (k, e)) = e
    by (inr (inl (k, l, e))) = absurd (omega arith)
    by (inr (inr (k, e))) = absurd (omega arith)

pub long_length : (n : ℕ) → 128 ≤ n → n < 256 → length_octets n ≡ 0x81 ∷ n ∷ []
unfolding Cases
long_length n h i = by (cases n (omega arith))
  where
    by : Cases n → length_octets n ≡ 0x81 ∷ n ∷ []
    by (inl (k, e)) = absurd (omega arith)
    by (inr (inl (k, l, e))) = e
    by (inr (inr (k, e))) = absurd (omega arith)

pub wide_length : (n : ℕ) → 256 ≤ n → n < 65536 → length_octets n ≡ 0x82 ∷ (n / 256) ∷ (n % 256) ∷ []
unfolding Cases
wide_length n h i = by (cases n i)
  where
    by : Cases n → length_octets n ≡ 0x82 ∷ (n / 256) ∷ (n % 256) ∷ []
    by (inl (k, e)) = absurd (omega arith)
    by (inr (inl (k, l, e))) = absurd (omega arith)
    by (inr (inr (k, e))) = e

pub octet_octets : (t n : ℕ) → shortest document01 (leaf t (n ∷ [])) ≡ t ∷ 1 ∷ n ∷ []
unfolding shortest
octet_octets t n = rw (short_length 1 (omega arith))
