-- The answer to a refused message tells its place, its IDs, its cause or problem and its component whole: the fields are wide enough. Assumes nothing.
use Rattle.tcap.specs.Reading.{outcome_of}
use Rattle.std.specs.Prelude.{⊤, Option as Optional, Some, None, Result, Err}
use Prim.Native.Nat.{ℕ, ◌+◌, ◌/◌, ◌%◌, ◌^◌, ◌≤◌, ◌<◌}
use native.Mathlib.Omega.{arith}
use mathlib.Core.Path.{◌≡◌, refl}
use mathlib.Core.Logic.{inl, inr}
use mathlib.Core.Bool.{Bool, true, false, and-eq-true_iff}
use mathlib.Core.List.{List}
use mathlib.Core.Option.{Option, some}
use lib.ListN.{length}
use lib.Dec.{leb}
use borrow.Author.Tests.{leb-true}
use Rattle.base.specs.Number.{top_of}
use Rattle.base.proofs.Numbers.{bits_within, holds_small}
use lib.IntN.{ℤ}
use Rattle.element.specs.declared.FaultKind.{FaultKind}
use Rattle.element.specs.Fault.{Owner}
use Rattle.element.specs.Ask.{check}
use Rattle.element.proofs.StringPlaces.{stands_here, here_within}
use Rattle.tcap.specs.declared.{OrigTransactionId.OrigTransactionId, Answer.Answer, Refusal.Refusal}
use Rattle.tcap.specs.WellFormed.{most_octets, most_components, most_transaction_id_octets, id_ok}
use Rattle.tcap.specs.Reading.{located_up_to, refusal_of, answered, reading_up_to, reading}
use Rattle.tcap.specs.Standard.{Standard, no_message, seventeenth, inside6_b, unknown_component, mistyped_component, bad_component, mistyped_elsewhere, bad_elsewhere, overlong, octets_after}
use Rattle.tcap.proofs.FaultExactly.{refused_checked}
use Rattle.tcap.proofs.Refusals.{OrigRead, SendOk, refused_carries}
use Rattle.layout.specs.Layout.{orig_span, id_in, id_octet}
use Rattle.layout.specs.Fits.{IdFits}
use Rattle.layout.proofs.RoundTrip.{id_back}
use Rattle.c_answer.specs.Answer.{refusal_bits}
use Rattle.c_answer.proofs.Fields.{cause_of, component_of, id_of, place_field, orig_place_field, orig_length_field, cause_field, component_field, id_flag_field, id_field_lem}

standard_small : {k : FaultKind} {o : Owner} {i : Option ℤ} {a : Answer} → Standard k o i a → (cause_of a ≤ 4) × (component_of a < most_components)
standard_small no_message = omega arith
standard_small seventeenth = omega arith
standard_small (inside6_b s) = omega arith
standard_small (unknown_component h) = omega arith
standard_small (mistyped_component s h) = omega arith
standard_small (bad_component s h) = omega arith
standard_small (mistyped_elsewhere s) = omega arith
standard_small (bad_elsewhere s) = omega arith
standard_small overlong = omega arith
standard_small octets_after = omega arith

orig_small : (m : List ℕ) (o : Optional OrigTransactionId) → OrigRead m o → ((orig_span o).place + (orig_span o).len ≤ length m) × ((orig_span o).len ≤ most_transaction_id_octets)
unfolding orig_span id_ok
orig_small m o (inl e) = rw e (omega arith, omega arith)
orig_small m o (inr (t, e, s, k)) = rw e ((here_within (stands_here (some 0x48, t) s)).0, leb-true _ _ ((and-eq-true_iff (leb 1 (length t.1)) _).0 k).1)

sent_fits : (a : Answer) → SendOk a → IdFits (id_of a)
sent_fits (Answer.AbortCause n) h = tt
sent_fits (Answer.RejectProblem n k None) h = tt
sent_fits (Answer.RejectProblem n k (Some i)) h = h

octet_small : (i : Optional ℤ) → IdFits i → id_octet i % 2 ^ 8 ≡ id_octet i
unfolding id_octet top_of
octet_small None h = omega arith
octet_small (Some z) h = omega (arith, bits_within (top_of 1) z (holds_small 1 z h))

refusal_of_lem : (f g : Refusal) → ◌≡◌ {A = Result ⊤ Refusal} (Err f) (Err g) → f ≡ g
refusal_of_lem f g e = cc

-- a message over 255 octets is refused at 255, and no ID is sought
module _ (m : List ℕ) (f : Refusal) (h : outcome_of (reading m) ≡ Err f) where
  by_length : (b : Bool) → leb (length m) most_octets ≡ b → (f.place ≤ most_octets) × ((orig_span f.orig).place ≤ most_octets)
  unfolding reading reading_up_to located_up_to answered refusal_of check orig_span
  by_length true e = let c = (refused_carries m f h).0 in (omega (arith, c.place, leb-true (length m) most_octets e), omega (arith, (orig_small m f.orig c.orig_id).0, leb-true (length m) most_octets e))
  by_length false e = rw (← (refusal_of_lem _ f (rw e at h))) (omega arith, omega arith)

  small : (f.place ≤ most_octets) × ((orig_span f.orig).place ≤ most_octets)
  small = by_length (leb (length m) most_octets) refl

  pub told_place : refusal_bits f / 2 ^ 8 % 2 ^ 16 ≡ f.place
  told_place = omega (arith, place_field f, small.0)

  pub told_orig : refusal_bits f / 2 ^ 24 % 2 ^ 16 ≡ (orig_span f.orig).place
  told_orig = omega (arith, orig_place_field f, small.1)

  pub told_orig_length : refusal_bits f / 2 ^ 40 % 2 ^ 4 ≡ (orig_span f.orig).len
  told_orig_length = omega (arith, orig_length_field f, (orig_small m f.orig (refused_carries m f h).0.orig_id).1)

  pub told_cause : refusal_bits f / 2 ^ 45 % 2 ^ 3 ≡ cause_of f.answer
  told_cause = omega (arith, cause_field f, (standard_small (refused_checked m f h).answer).0)

  pub told_component : refusal_bits f / 2 ^ 48 % 2 ^ 7 ≡ component_of f.answer
  told_component = omega (arith, component_field f, (standard_small (refused_checked m f h).answer).1)

  -- read back from its flag and its octet
  pub told_id : id_in (refusal_bits f / 2 ^ 55 % 2) (refusal_bits f / 2 ^ 56) ≡ id_of f.answer
  told_id = let k = sent_fits f.answer (refused_carries m f h).0.sent in rw (id_flag_field f, id_field_lem f, octet_small (id_of f.answer) k) (id_back (id_of f.answer) k)
