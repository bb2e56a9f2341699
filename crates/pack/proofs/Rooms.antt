-- What is left of the room after a put, and what a copy into a part of the buffer puts. Assumes nothing.
use Prim.Native.Nat.{ℕ, ◌+◌, ◌-◌, ◌/◌, ◌%◌, ◌≤◌}
use native.Mathlib.Omega.{arith}
use mathlib.Core.Path.{◌≡◌, sym, ap, ◌∙◌}
use mathlib.Core.List.{List, ◌++◌, append_assoc}
use lib.ListN.{length, take, drop}
use lib.Seq.{sets-eq, drop-drop}
use borrow.Rule.Slice.PartMut.{put_mid}
use Rattle.base.specs.Number.{octets_in}
use Rattle.base.specs.inner.Put.{farthest, Put}
use Rattle.base.proofs.Puts.{put_length}
use Rattle.layout.specs.Layout.{ids_octets}
use Rattle.std.specs.Prelude.{Option as Optional, ℤ}
use Rattle.std.specs.Int.{to_be_bytes, w32}

-- with room for so many more behind what was put
pub put_room : {d : List ℕ} {at : ℕ} {s : List ℕ} {r : ℕ} {e : List ℕ} → Put d at s r e → (k : ℕ) → at + (length s + k) ≤ length d → r + k ≤ length e
put_room p k h = omega (arith, p.ends, p.within, put_length p)

-- behind the IDs of a row there is room for the rest of it
pub rest_room : {d : List ℕ} {at : ℕ} (t : ℕ) (i l : Optional ℤ) {r : ℕ} {e : List ℕ} → Put d at (ids_octets t i l) r e → at + 24 ≤ length d → r + 19 ≤ length e
unfolding ids_octets
rest_room t i l p h = put_room p 19 h

-- octets in the place of as many
pub copied : (d : List ℕ) (at n : ℕ) (s t : List ℕ) → length d ≤ farthest → length s ≡ n → at + n ≤ length d → t ≡ s → Put d at s (at + n) (put_mid at (at + n - at) d t)
copied d at n s t w l h e =
    let k : at + (at + n - at) ≡ at + length s = omega arith in
    let behind : drop (at + n - at) (drop at d) ≡ drop (at + length s) d = drop-drop (at + n - at) at d ∙ ap (λ (j : ℕ). drop j d) k in
    record {
      within = w;
      ends = omega arith;
      holds = rw e (ap (λ (u : List ℕ). take at d ++ (s ++ u)) behind ∙ sym (sets-eq s d at (omega arith) ∙ append_assoc (take at d) s (drop (at + length s) d)));
    }

-- the octets of a number, most significant first
pub be_octets : (n : ℕ) → to_be_bytes w32 n ≡ octets_in 4 n
unfolding octets_in
be_octets n =
    let a : n / 16777216 % 256 ≡ n / 256 / 256 / 256 % 256 = omega arith in
    let b : n / 65536 % 256 ≡ n / 256 / 256 % 256 = omega arith in
    rw (a, b)

-- four octets are those of the lower 32 bits
pub octets_cut : (n : ℕ) → octets_in 4 (n % 4294967296) ≡ octets_in 4 n
unfolding octets_in
octets_cut n =
    let a : n % 4294967296 / 256 / 256 / 256 % 256 ≡ n / 256 / 256 / 256 % 256 = omega arith in
    let b : n % 4294967296 / 256 / 256 % 256 ≡ n / 256 / 256 % 256 = omega arith in
    let c : n % 4294967296 / 256 % 256 ≡ n / 256 % 256 = omega arith in
    let d : n % 4294967296 % 256 ≡ n % 256 = omega arith in
    rw (a, b, c, d)
