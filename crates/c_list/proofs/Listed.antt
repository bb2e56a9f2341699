-- What the answer of a listing tells: its length whole, for none is too long for the field; or 25, and then the buffer stays. Assumes nothing.
use Prim.Native.Nat.{ℕ, ◌+◌, ◌/◌, ◌%◌, ◌^◌, ◌≤◌, ◌<◌}
use native.Mathlib.Omega.{arith}
use mathlib.Core.Path.{◌≡◌, refl, sym}
use mathlib.Core.List.{List, ◌++◌}
use lib.ListN.{length, drop}
use borrow.Author.Tests.{le-leb, lt-leb}
use Rattle.tcap.specs.Reading.{reading}
use Rattle.listing.specs.Listing.{listing_of, listed_of, buffer_after}
use Rattle.listing.proofs.Longest.{longest_listing, listing_most}
use Rattle.c_answer.specs.Answer.{done, no_room, length_bits}
use Rattle.c_list.specs.List.{listed_bits, list_answer, list_room}
use Rattle.c_answer.proofs.Fields.{length_told}

module _ (m out : List ℕ) where
  abbrev lines : List ℕ
  lines = listing_of m (reading m)

  -- room enough: status 0, the length, and the listing before what was there
  pub listed_told : length lines ≤ length out → (list_answer m out % 2 ^ 8 ≡ done) × (list_answer m out / 2 ^ 8 ≡ length lines) × (list_room m out ≡ lines ++ drop (length lines) out)
  unfolding list_answer list_room listed_of buffer_after listed_bits length_bits
  listed_told h = rw (le-leb (length lines) (length out) h) (omega arith, sym (length_told (length lines) (omega (arith, listing_most m))), refl)

  pub unlisted_told : length out < length lines → (list_answer m out ≡ no_room) × (list_room m out ≡ out)
  unfolding list_answer list_room listed_of buffer_after listed_bits
  unlisted_told h = rw (lt-leb (length lines) (length out) h) (refl, refl)

  -- the header's GOLDENSKEP_LISTING_SIZE is always enough
  pub enough_told : longest_listing ≤ length out → length lines ≤ length out
  enough_told h = omega (arith, h, listing_most m)
