-- Missing, wrong and too many told apart by their numbers (document 02, §1): 14 exactly where the contents end and something mandatory is due, 15 exactly
-- where an element stands that may not and some other may, 16 exactly where none may. Assumes nothing.
use Rattle.tcap.specs.Reading.{outcome_of}
use Rattle.std.specs.Prelude.{Err}
use Prim.Native.Nat.{ℕ}
use mathlib.Core.Path.{◌≡◌, refl, sym, ap, ◌∙◌}
use mathlib.Core.Logic.{◌↔◌}
use mathlib.Core.Bool.{true, false, cond}
use mathlib.Core.List.{List}
use mathlib.Core.Option.{Option}
use lib.Dec.{eqb}
use lib.IntN.{ℤ}
use Rattle.element.specs.Fault.{number_of, Text, Owner, Fault, fault}
use Rattle.element.specs.declared.FaultKind.{FaultKind}
use Rattle.element.specs.Ask.{bad}
use Rattle.tcap.specs.declared.{Refusal.Refusal}
use Rattle.tcap.specs.WellFormed.{the93}
use Rattle.tcap.specs.Reading.{located_up_to, refusal_of, answered, reading_up_to, reading}
use Rattle.tcap.proofs.FaultExactly.{fault_exactly, refused_checked}
use Rattle.tcap.proofs.DueExactly.{MissingAt, StrangeAt, missing_exactly, another_exactly, too_many_exactly}

-- Each number is one kind's

abbrev kind_at : ℕ → FaultKind
kind_at n =
    cond (eqb n 1) FaultKind.CutOff
    (cond (eqb n 2) FaultKind.BadTag
    (cond (eqb n 3) FaultKind.BadLength
    (cond (eqb n 4) FaultKind.PassesEnd
    (cond (eqb n 5) FaultKind.TooDeep
    (cond (eqb n 6) FaultKind.CodeZero
    (cond (eqb n 7) FaultKind.Overlong
    (cond (eqb n 8) FaultKind.NoMessage
    (cond (eqb n 9) FaultKind.OctetsAfter
    (cond (eqb n 11) FaultKind.BadContents
    (cond (eqb n 12) FaultKind.Seventeenth
    (cond (eqb n 13) FaultKind.UnknownComponent
    (cond (eqb n 14) FaultKind.Missing
    (cond (eqb n 15) FaultKind.Another
    FaultKind.TooMany)))))))))))))

kind_back : (k : FaultKind) → kind_at (number_of k) ≡ k
unfolding number_of
kind_back FaultKind.CutOff = refl
kind_back FaultKind.BadTag = refl
kind_back FaultKind.BadLength = refl
kind_back FaultKind.PassesEnd = refl
kind_back FaultKind.TooDeep = refl
kind_back FaultKind.CodeZero = refl
kind_back FaultKind.Overlong = refl
kind_back FaultKind.NoMessage = refl
kind_back FaultKind.OctetsAfter = refl
kind_back FaultKind.BadContents = refl
kind_back FaultKind.Seventeenth = refl
kind_back FaultKind.UnknownComponent = refl
kind_back FaultKind.Missing = refl
kind_back FaultKind.Another = refl
kind_back FaultKind.TooMany = refl

pub one_kind : (k l : FaultKind) → number_of k ≡ number_of l → k ≡ l
one_kind k l e = sym (kind_back k) ∙ ap kind_at e ∙ kind_back l

-- reading refuses m, by this number and at this place
abbrev pub RefusedAt : ℕ → List ℕ → ℕ → Type 0
RefusedAt n m p = (r : Refusal) × (outcome_of (reading m) ≡ Err r) × (number_of r.kind ≡ n) × (r.place ≡ p)

-- of some owner and with some IDs
abbrev Of : (Owner → Option ℤ → Option Text → Type 0) → Type 0
Of P = (w : Owner) × (i : Option ℤ) × (t : Option Text) × P w i t

module _ (m : List ℕ) (p : ℕ) where
  refused_located : (f : Fault) → located_up_to the93 m ≡ bad f → outcome_of (reading m) ≡ Err (refusal_of f)
  unfolding reading reading_up_to answered
  refused_located f e = rw e refl

  -- what is known of each fault of a kind is known of each refusal by its number
  by_number : (k : FaultKind) (P : Owner → Option ℤ → Option Text → Type 0) → ((w : Owner) (i : Option ℤ) (t : Option Text) → (located_up_to the93 m ≡ bad (fault k p w i t)) ↔ P w i t) → RefusedAt (number_of k) m p ↔ Of P
  unfolding refusal_of
  by_number k P g = (told, λ (w, i, t, x). (refusal_of (fault k p w i t), refused_located (fault k p w i t) ((g w i t).1 x), refl, refl))
    where
      told : RefusedAt (number_of k) m p → Of P
      told (r, e, n, q) =
          let c = refused_checked m r e in
          let same : c.kind ≡ k = one_kind c.kind k (sym c.same_number ∙ n) in
          let here : c.place ≡ p = sym c.same_place ∙ q in
          let f : located_up_to the93 m ≡ bad (fault c.kind c.place c.owner c.invoke_id c.orig_id) = (fault_exactly the93 m _).1 c.there in
          (c.owner, c.invoke_id, c.orig_id, (g c.owner c.invoke_id c.orig_id).0 (rw (same, here) at f))

  pub missing_told : RefusedAt 14 m p ↔ Of (MissingAt the93 m p)
  unfolding number_of
  missing_told = by_number FaultKind.Missing (MissingAt the93 m p) (missing_exactly the93 m p)

  pub another_told : RefusedAt 15 m p ↔ Of (λ w i t. StrangeAt the93 m p w i t true)
  unfolding number_of
  another_told = by_number FaultKind.Another (λ w i t. StrangeAt the93 m p w i t true) (another_exactly the93 m p)

  pub nothing_more_told : RefusedAt 16 m p ↔ Of (λ w i t. StrangeAt the93 m p w i t false)
  unfolding number_of
  nothing_more_told = by_number FaultKind.TooMany (λ w i t. StrangeAt the93 m p w i t false) (too_many_exactly the93 m p)
