-- What every refusal carries, for those who lay it out: a number from 1 to 16 that is not 10, a place in the message, the originating ID, of 1 to 4 octets,
-- where 48 stands before it, and an invoke ID of one octet. Assumes nothing.
use Rattle.tcap.specs.declared.OrigTransactionId.{OrigTransactionId}
use Rattle.tcap.specs.Reading.{outcome_of, handed_back}
use Rattle.std.specs.Prelude.{Result, Err, ⊤}
use Rattle.std.specs.Prelude.{Option as Optional, Some, None}
use Prim.Native.Nat.{ℕ, ◌≤◌}
use mathlib.Core.Path.{◌≡◌, refl}
use mathlib.Core.Logic.{◌⊎◌, inl, inr}
use mathlib.Core.Bool.{true}
use mathlib.Core.List.{List}
use mathlib.Core.Option.{map, get_or, Option, none, some}
use native.Mathlib.Omega.{arith}
use lib.ListN.{length}
use lib.IntN.{ℤ}
use Rattle.base.specs.Value.{Maybe}
use Rattle.element.specs.declared.{FaultKind.FaultKind}
use Rattle.element.specs.Fault.{number_of, Text, Owner, portion, dialogue, component, Fault, fault}
use Rattle.element.specs.Ask.{Got, got, bad}
use Rattle.element.proofs.StringPlaces.{StandsAt}
use Rattle.tcap.specs.declared.{Answer.Answer, Ground.Ground, Refusal.Refusal}
use Rattle.tcap.specs.Meaning.{Message, orig}
use Rattle.tcap.specs.WellFormed.{most_octets, the93, id_ok, InvokeIdOk}
use Rattle.tcap.specs.Record.{orig_field, blank_record}
use Rattle.tcap.specs.Reading.{located_up_to, ground_of, by_owner, answer_for, refusal_of, answered, reading_up_to, reading}
use Rattle.tcap.proofs.FaultPlaces.{OrigHere, RefusedFor}
use Rattle.tcap.proofs.Places.{fault_placed}

-- every kind has a number of the table, and 10 is retired
pub numbered : (k : FaultKind) → (1 ≤ number_of k) × (number_of k ≤ 16) × (number_of k ≡ 10 → ⊥)
unfolding number_of
numbered FaultKind.CutOff = (omega arith, omega arith, λ e. omega arith)
numbered FaultKind.BadTag = (omega arith, omega arith, λ e. omega arith)
numbered FaultKind.BadLength = (omega arith, omega arith, λ e. omega arith)
numbered FaultKind.PassesEnd = (omega arith, omega arith, λ e. omega arith)
numbered FaultKind.TooDeep = (omega arith, omega arith, λ e. omega arith)
numbered FaultKind.CodeZero = (omega arith, omega arith, λ e. omega arith)
numbered FaultKind.Overlong = (omega arith, omega arith, λ e. omega arith)
numbered FaultKind.NoMessage = (omega arith, omega arith, λ e. omega arith)
numbered FaultKind.OctetsAfter = (omega arith, omega arith, λ e. omega arith)
numbered FaultKind.Missing = (omega arith, omega arith, λ e. omega arith)
numbered FaultKind.Another = (omega arith, omega arith, λ e. omega arith)
numbered FaultKind.TooMany = (omega arith, omega arith, λ e. omega arith)
numbered FaultKind.BadContents = (omega arith, omega arith, λ e. omega arith)
numbered FaultKind.Seventeenth = (omega arith, omega arith, λ e. omega arith)
numbered FaultKind.UnknownComponent = (omega arith, omega arith, λ e. omega arith)

-- the originating ID stands in m, 48 and its length before it, and has 1 to 4 octets
abbrev pub OrigRead : List ℕ → Optional OrigTransactionId → Type 0
OrigRead m o = (o ≡ None) ⊎ ((t : Text) × (o ≡ orig_field (orig t)) × StandsAt m (some 0x48, t) × (id_ok t.1 ≡ true))

-- an invoke ID to send back is of one octet
abbrev pub SendOk : Answer → Type 0
SendOk (Answer.AbortCause n) = Unit {0}
SendOk (Answer.RejectProblem n k None) = Unit {0}
SendOk (Answer.RejectProblem n k (Some i)) = InvokeIdOk i

pub record Carries (m : List ℕ) (f : Refusal) : Type 0 where
  pub low : 1 ≤ number_of f.kind
  pub high : number_of f.kind ≤ 16
  pub not_ten : number_of f.kind ≡ 10 → ⊥
  pub place : f.place ≤ length m
  pub overlong : f.kind ≡ FaultKind.Overlong → f.place ≡ most_octets
  pub no_message : f.kind ≡ FaultKind.NoMessage → f.place ≡ 0
  pub orig_id : OrigRead m f.orig
  pub sent : SendOk f.answer

orig_read : (m : List ℕ) (t : Option Text) → Maybe (OrigHere m) t → OrigRead m (get_or (map (λ t. orig_field (orig t)) t) None)
orig_read m none h = inl refl
orig_read m (some t) h = inr (t, refl, h.0, h.1)

owner_sends : (problem cause : ℕ) (o : Owner) (i : Option ℤ) → Maybe InvokeIdOk i → SendOk (by_owner problem cause o i)
unfolding by_owner
owner_sends problem cause portion i h = tt
owner_sends problem cause dialogue i h = tt
owner_sends problem cause (component k) none h = tt
owner_sends problem cause (component k) (some i) h = h

answer_sends : (g : Ground) (o : Owner) (i : Option ℤ) → Maybe InvokeIdOk i → SendOk (answer_for g o i)
unfolding answer_for
answer_sends Ground.UnknownMessage o i h = tt
answer_sends Ground.TooManyComponents o i h = tt
answer_sends Ground.UnknownComponent o i h = owner_sends 0 2 o i h
answer_sends Ground.WrongPart o i h = owner_sends 1 3 o i h
answer_sends Ground.BadForm o i h = owner_sends 2 2 o i h

carries : (m : List ℕ) (f : Fault) → RefusedFor m f → Carries m (refusal_of f)
unfolding refusal_of
carries m (fault k p o i t) q =
    record {
      low = (numbered k).0;
      high = (numbered k).1;
      not_ten = (numbered k).2;
      place = q.place;
      overlong = q.overlong;
      no_message = q.no_message;
      orig_id = orig_read m t q.orig_id;
      sent = answer_sends (ground_of k) o i q.invoke_id;
    }

refusal_inj : (f g : Refusal) → ◌≡◌ {A = Result ⊤ Refusal} (Err f) (Err g) → f ≡ g
refusal_inj f g e = cc

refused_by : (m : List ℕ) (x : Got (Message Text)) → located_up_to the93 m ≡ x → (f : Refusal) → outcome_of (answered x) ≡ Err f → Carries m f × (handed_back (answered x) ≡ blank_record)
unfolding answered
refused_by m (got v n) e f h = let z : ◌≡◌ {A = ℕ} 0 1 = cc in absurd (omega arith)
refused_by m (bad g) e f h = (rw (refusal_inj (refusal_of g) f h) at (carries m g (fault_placed the93 (omega arith) m g e)), refl)

-- and it hands back no components
pub refused_carries : (m : List ℕ) (f : Refusal) → outcome_of (reading m) ≡ Err f → Carries m f × (handed_back (reading m) ≡ blank_record)
unfolding reading reading_up_to
refused_carries m f h = refused_by m (located_up_to the93 m) refl f h
