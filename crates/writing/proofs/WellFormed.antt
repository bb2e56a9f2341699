-- A record is well-formed exactly if it has a meaning that is. Assumes nothing.
use Rattle.tcap.specs.declared.DestTransactionId.{DestTransactionId}
use Rattle.tcap.specs.declared.OrigTransactionId.{OrigTransactionId}
use Rattle.std.specs.Prelude.{Option as Optional, Some, None}
use Prim.Native.Nat.{ℕ, zero, suc, ◌≤◌}
use mathlib.Core.Path.{◌≡◌, refl, sym, ◌∙◌}
use mathlib.Core.Logic.{◌⊎◌, inl, inr}
use mathlib.Core.Bool.{Bool, true, false, cond, ◌&&◌, false≢true, and-false}
use mathlib.Core.List.{List, [], ◌∷◌}
use mathlib.Core.Option.{Option, none, some, none-ne-some, some-injective}
use native.Mathlib.Omega.{arith}
use lib.ListN.{length, take, length-take, length-map}
use lib.Dec.{leb}
use borrow.Author.Tests.{leb-true}
use Rattle.base.specs.Value.{Every}
use Rattle.tcap.specs.declared.{Row.Row, Dialogue.Dialogue, Record.Record}
use Rattle.tcap.specs.Meaning.{Meaning}
use Rattle.tcap.specs.WellFormed.{most_components, WellFormed}
use Rattle.tcap.specs.Record.{parts_mean, meaning_of}
use Rattle.tcap.specs.Verdict.{every, counted, orig_there, dest_there, cause_there, parts_fit, row_parts_fit, all_parts, orig_ranges, dest_ranges, dialogue_ranges, row_ranges, all_ranges, orig_lies, dest_lies, dialogue_lies, row_lies, all_lie, dialogue_shaped, row_shaped, all_shaped}
use Rattle.writing.specs.Writing.{RecordOk, RowTyped, RecordTyped}
use Rattle.writing.proofs.Parts.{given_four, rows_in, ending_in, orig_in, dest_in, row_there, rows_mean_lem, ending_means_lem, orig_means_lem, dest_means_lem}
use Rattle.writing.proofs.Making.{there, caused, Made, made_means, make, made_ok}
use Rattle.writing.proofs.Testing.{all_true, both_true, orig_is_lem, dest_is_lem, ending_is, rows_are_lem}

-- over rows
every_both : (f g : Row → Bool) (rs : List Row) → every (λ w. f w && g w) rs ≡ (every f rs && every g rs)
unfolding every
every_both f g [] = refl
every_both f g (w ∷ rs) = rw (every_both f g rs) (swap (f w) (g w) (every f rs) (every g rs))
  where
    swap : (a b c d : Bool) → ((a && b) && (c && d)) ≡ ((a && c) && (b && d))
    swap true true c d = refl
    swap true false c d = sym (and-false c)
    swap false b c d = refl

pub every_take : (n : ℕ) (rs : List Row) → Every RowTyped rs → Every RowTyped (take n rs)
unfolding Every
every_take zero rs f = tt
every_take (suc n) [] f = tt
every_take (suc n) (w ∷ rs) f = (f.0, every_take n rs f.1)

holds_some : {A : Type 0} {a : A} (b : Bool) (x : Option A) → cond b x none ≡ some a → (b ≡ true) × (x ≡ some a)
holds_some true x e = (refl, e)
holds_some {a = a} false x e = absurd (none-ne-some a e)

orig_there_lem : (m : List ℕ) (o : Optional OrigTransactionId) → there (orig_in m o) ≡ orig_there o
unfolding orig_there
orig_there_lem m None = refl
orig_there_lem m (Some o) = refl

dest_there_lem : (m : List ℕ) (e : Optional DestTransactionId) → there (dest_in m e) ≡ dest_there e
unfolding dest_there
dest_there_lem m None = refl
dest_there_lem m (Some e) = refl

cause_there_lem : (m : List ℕ) (d : Dialogue) → caused (ending_in m d) ≡ cause_there d
unfolding cause_there
cause_there_lem m Dialogue.NoDialogue = refl
cause_there_lem m (Dialogue.Cause n) = refl
cause_there_lem m (Dialogue.Request n u) = refl
cause_there_lem m (Dialogue.Response n r s u) = refl
cause_there_lem m (Dialogue.DialogueAbort r u) = refl
cause_there_lem m (Dialogue.Unidialogue n u) = refl
cause_there_lem m (Dialogue.OutsideElement n e) = refl
cause_there_lem m (Dialogue.OutsideOctets n c) = refl

module _ (r : Record) (m : List ℕ) where
  -- the meaning that the parts make, and what they must be for it
  abbrev made : Option Meaning
  made = parts_mean m r.kind (orig_in m r.orig) (dest_in m r.dest) (ending_in m r.dialogue) (rows_in m (counted r))

  abbrev Whole : Meaning → Type 0
  Whole μ = Made r.kind (orig_in m r.orig) (dest_in m r.dest) (ending_in m r.dialogue) (rows_in m (counted r)) μ

  abbrev fit : Bool
  fit = parts_fit r.kind (there (orig_in m r.orig)) (there (dest_in m r.dest)) (caused (ending_in m r.dialogue)) (length (rows_in m (counted r)))

  makes : ((made ≡ none) × (fit ≡ false)) ⊎ ((μ : Meaning) × Whole μ)
  makes = make m r.kind (orig_in m r.orig) (dest_in m r.dest) (ending_in m r.dialogue) (rows_in m (counted r))

  -- a record means something only if it has at most 16 rows, no null but of a Reject, and every string within the material
  pub record There : Type 0 where
    pub few : leb r.count most_components ≡ true
    pub orig_lie : orig_lies (length m) r.orig ≡ true
    pub dest_lie : dest_lies (length m) r.dest ≡ true
    pub dialogue_lie : dialogue_lies (length m) r.dialogue ≡ true
    pub rows_fit : every (λ w. row_parts_fit w.id w.kind) (counted r) ≡ true
    pub rows_lie : every (λ w. row_lies (length m) w.kind) (counted r) ≡ true

  abbrev all_there : Bool
  all_there = leb r.count most_components && (orig_lies (length m) r.orig && (dest_lies (length m) r.dest && (dialogue_lies (length m) r.dialogue && every (row_there m) (counted r))))

  meaning_is : meaning_of r m ≡ cond all_there made none
  unfolding meaning_of
  meaning_is =
      rw (orig_means_lem m r.orig, dest_means_lem m r.dest, ending_means_lem m r.dialogue, rows_mean_lem m (counted r))
      (given_four (leb r.count most_components) (orig_lies (length m) r.orig) (dest_lies (length m) r.dest) (dialogue_lies (length m) r.dialogue) (every (row_there m) (counted r)) (orig_in m r.orig) (dest_in m r.dest) (ending_in m r.dialogue) (rows_in m (counted r)) (parts_mean m r.kind))

  rows_there : every (row_there m) (counted r) ≡ (every (λ w. row_parts_fit w.id w.kind) (counted r) && every (λ w. row_lies (length m) w.kind) (counted r))
  rows_there = every_both (λ w. row_parts_fit w.id w.kind) (λ w. row_lies (length m) w.kind) (counted r)

  all_there_lem : There → all_there ≡ true
  all_there_lem t = all_true _ _ t.few (all_true _ _ t.orig_lie (all_true _ _ t.dest_lie (all_true _ _ t.dialogue_lie (rows_there ∙ all_true _ _ t.rows_fit t.rows_lie))))

  pub found : {μ : Meaning} → meaning_of r m ≡ some μ → There × Whole μ
  found {μ} e =
      let h = holds_some all_there made (sym meaning_is ∙ e) in
      let a = both_true _ _ h.0 in
      let b = both_true _ _ a.1 in
      let c = both_true _ _ b.1 in
      let d = both_true _ _ c.1 in
      let x = both_true _ _ (sym rows_there ∙ d.1) in
      (record { few = a.0; orig_lie = b.0; dest_lie = c.0; dialogue_lie = d.0; rows_fit = x.0; rows_lie = x.1 }, by_parts h.1 makes)
    where
      by_parts : made ≡ some μ → ((made ≡ none) × (fit ≡ false)) ⊎ ((ν : Meaning) × Whole ν) → Whole μ
      by_parts f (inl (z, x)) = absurd (none-ne-some μ (sym z ∙ f))
      by_parts f (inr (ν, v)) = rw (some-injective ν μ (sym (made_means m v) ∙ f)) at v

  -- the other checks
  record Good : Type 0 where
    parts : parts_fit r.kind (orig_there r.orig) (dest_there r.dest) (cause_there r.dialogue) r.count ≡ true
    orig_is : orig_ranges r.orig ≡ true
    dest_is : dest_ranges r.dest ≡ true
    dialogue_is : dialogue_ranges r.dialogue ≡ true
    rows_are : every (λ w. row_ranges w.kind) (counted r) ≡ true
    dialogue_forms : dialogue_shaped m r.dialogue ≡ true
    rows_form : every (λ w. row_shaped m w.kind) (counted r) ≡ true

  checks : RecordOk r m → There × Good
  unfolding all_parts all_ranges all_lie all_shaped
  checks o =
      let p = both_true _ _ o.parts in
      let a = both_true _ _ o.ranged in
      let b = both_true _ _ a.1 in
      let c = both_true _ _ b.1 in
      let d = both_true _ _ c.1 in
      let x = both_true _ _ o.lie in
      let y = both_true _ _ x.1 in
      let z = both_true _ _ y.1 in
      let s = both_true _ _ o.shaped in (
        record { few = a.0; orig_lie = x.0; dest_lie = y.0; dialogue_lie = z.0; rows_fit = p.1; rows_lie = z.1 },
        record { parts = p.0; orig_is = b.0; dest_is = c.0; dialogue_is = d.0; rows_are = d.1; dialogue_forms = s.0; rows_form = s.1 },
      )

  checked : There → Good → RecordOk r m
  unfolding all_parts all_ranges all_lie all_shaped
  checked t g =
      record {
        parts = all_true _ _ g.parts t.rows_fit;
        ranged = all_true _ _ t.few (all_true _ _ g.orig_is (all_true _ _ g.dest_is (all_true _ _ g.dialogue_is g.rows_are)));
        lie = all_true _ _ t.orig_lie (all_true _ _ t.dest_lie (all_true _ _ t.dialogue_lie t.rows_lie));
        shaped = all_true _ _ g.dialogue_forms g.rows_form;
      }

  -- what is there of the record is there of its meaning
  counted_in : length r.rows ≡ most_components → There → length (rows_in m (counted r)) ≡ r.count
  counted_in h t = length-map (counted r) _ ∙ length-take r.count r.rows ∙ omega (arith, leb-true r.count most_components t.few)

  fitted : length r.rows ≡ most_components → There → fit ≡ parts_fit r.kind (orig_there r.orig) (dest_there r.dest) (cause_there r.dialogue) r.count
  fitted h t = rw (counted_in h t, orig_there_lem m r.orig, dest_there_lem m r.dest, cause_there_lem m r.dialogue)

  pub checked_means : RecordTyped r → RecordOk r m → (μ : Meaning) × (meaning_of r m ≡ some μ) × WellFormed μ
  checked_means w o = let (t, g) = checks o in by_parts t g makes
    where
      by_parts : There → Good → ((made ≡ none) × (fit ≡ false)) ⊎ ((μ : Meaning) × Whole μ) → (μ : Meaning) × (meaning_of r m ≡ some μ) × WellFormed μ
      by_parts t g (inl (x, h)) = absurd (false≢true (sym h ∙ fitted w.full t ∙ g.parts))
      by_parts t g (inr (μ, v)) =
          let few : length (rows_in m (counted r)) ≤ most_components = omega (arith, counted_in w.full t, leb-true r.count most_components t.few) in (
            μ,
            meaning_is ∙ rw (all_there_lem t) (made_means m v),
            (made_ok v).1 (
              fitted w.full t ∙ g.parts,
              (orig_is_lem m r.orig t.orig_lie).1 g.orig_is,
              (dest_is_lem m r.dest t.dest_lie).1 g.dest_is,
              (ending_is m r.dialogue t.dialogue_lie).fine tt g.dialogue_is g.dialogue_forms,
              (few, (rows_are_lem m (counted r) t.rows_lie).fine (every_take r.count r.rows w.each) g.rows_are g.rows_form),
            ),
          )

  pub means_checked : {μ : Meaning} → length r.rows ≡ most_components → meaning_of r m ≡ some μ → WellFormed μ → RecordOk r m
  means_checked h e o =
      let (t, v) = found e in
      let p = (made_ok v).0 o in
      let d = (ending_is m r.dialogue t.dialogue_lie).told p.3 in
      let w = (rows_are_lem m (counted r) t.rows_lie).told p.4.1 in
      checked t (record {
        parts = sym (fitted h t) ∙ p.0;
        orig_is = (orig_is_lem m r.orig t.orig_lie).0 p.1;
        dest_is = (dest_is_lem m r.dest t.dest_lie).0 p.2;
        dialogue_is = d.1;
        rows_are = w.1;
        dialogue_forms = d.2;
        rows_form = w.2;
      })
