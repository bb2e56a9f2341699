-- What the counted length says of the room: past it the text is too long, and within it the text stands at the front. Assumes nothing.
use Rattle.std.specs.Prelude.{Some, None}
use Prim.Native.Nat.{ℕ, ◌<◌, ◌≤◌}
use native.Mathlib.Omega.{arith}
use mathlib.Core.Path.{◌≡◌}
use mathlib.Core.List.{List}
use lib.ListN.{length}
use borrow.Author.Tests.{le-leb, lt-leb}
use Rattle.base.specs.inner.Put.{farthest, Put}
use Rattle.base.proofs.Puts.{put_front}
use Rattle.listing.specs.Listing.{listed_of, buffer_after}

module _ (t out : List ℕ) {d : List ℕ} {size : ℕ} {e : List ℕ} (counted : Put d 0 t size e) where
  pub too_long : length out < size → (None ≡ listed_of t out) × (out ≡ buffer_after t out)
  unfolding listed_of buffer_after
  too_long h =
      let k : length out < length t = omega (arith, counted.ends) in
      (rw (lt-leb (length t) (length out) k), rw (lt-leb (length t) (length out) k))

  pub has_room : {q : ℕ} {f : List ℕ} → size ≤ length out → length out < farthest → Put out 0 t q f → (Some size ≡ listed_of t out) × (f ≡ buffer_after t out)
  unfolding listed_of buffer_after
  has_room h w p =
      let k : size ≡ length t = omega (arith, counted.ends) in
      let l : length t ≤ length out = omega arith in
      (rw (le-leb (length t) (length out) l, k), rw (le-leb (length t) (length out) l) (put_front p l))
