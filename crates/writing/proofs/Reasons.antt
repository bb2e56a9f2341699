-- The tests of a record are those of its parts: each of 24, 23, 21 and 22 fails exactly if something is wrong with some part. Assumes nothing.
use Rattle.std.specs.Prelude.{ℤ}
use Rattle.tcap.specs.declared.DestTransactionId.{DestTransactionId}
use Rattle.tcap.specs.declared.OrigTransactionId.{OrigTransactionId}
use Rattle.tcap.specs.declared.Span.{Span}
use Rattle.std.specs.Prelude.{Option as Optional, Some, None}
use Prim.Native.Nat.{ℕ}
use native.Mathlib.Omega.{arith}
use mathlib.Core.Path.{◌≡◌, refl}
use mathlib.Core.Logic.{◌↔◌}
use mathlib.Core.Bool.{Bool, true, false, not, ◌&&◌, and-true, and-false, and_assoc, not-not}
use mathlib.Core.List.{List, [], ◌∷◌}
use lib.ListN.{length}
use lib.Dec.{leb, eqb}
use borrow.Author.Tests.{eqb-true, eqb-false, le-leb}
use Rattle.base.specs.Value.{Every}
use Rattle.tcap.specs.declared.{Code.Code, Problem.Problem, Diagnostic.Diagnostic, ComponentKind.ComponentKind, Row.Row, Dialogue.Dialogue, MessageKind.MessageKind, Record.Record}
use Rattle.tcap.specs.WellFormed.{most_components}
use Rattle.layout.specs.Fits.{IdFits, LinkedFits}
use Rattle.tcap.specs.Verdict.{every, counted, orig_there, dest_there, cause_there, parts_fit, id_there, row_parts_fit, all_parts, orig_ranges, dest_ranges, code_ranges, problem_ranges, returned_ranges, row_ranges, source_ranges, dialogue_ranges, all_ranges, lies, option_lies, orig_lies, dest_lies, code_lies, returned_lies, row_lies, dialogue_lies, all_lie, parameter_shaped, info_shaped, code_shaped, returned_shaped, row_shaped, dialogue_shaped, all_shaped}
use Rattle.writing.specs.Writing.{CodeTyped, ReturnedTyped, KindTyped, RowTyped, RecordTyped}
use Rattle.writing.specs.Reasons.{Need, must, may, Wanted, series, element, there, needs_of, orig_parts, dest_parts, option_parts, source_part, dialogue_parts, id_parts, linked_parts, code_part, returned_parts, problem_part, row_parts, rows_parts, parts_of, Misfit, RangeOff, EndOff, ShapeOff, SomePart}
use Rattle.writing.proofs.WellFormed.{every_take}
use Rattle.writing.proofs.PartTests.{tells_exactly, whole, whole_append, tells_any, fits, length_in, in_range, shaped_as, within, shaped, fits_tells, range_tells, end_tells, shaped_tells}

-- 24: the tests of a record are those of its parts

origs_fit : (n : Need) (o : Optional OrigTransactionId) → whole fits (orig_parts n o) ≡ fits (there n (orig_there o))
unfolding whole fits orig_parts orig_there
origs_fit n None = and-true _
origs_fit n (Some o) = and-true _

dests_fit : (n : Need) (e : Optional DestTransactionId) → whole fits (dest_parts n e) ≡ fits (there n (dest_there e))
unfolding whole fits dest_parts dest_there
dests_fit n None = and-true _
dests_fit n (Some e) = and-true _

options_fit : (w : Wanted) (u : Optional Span) → whole fits (option_parts w u) ≡ true
unfolding whole fits option_parts
options_fit w None = refl
options_fit w (Some s) = refl

source_fits : (s : Diagnostic) → fits (source_part s) ≡ true
unfolding fits source_part
source_fits (Diagnostic.ByUser n) = refl
source_fits (Diagnostic.ByProvider n) = refl

dialogue_fits : (n : Need) (d : Dialogue) → whole fits (dialogue_parts n d) ≡ fits (there n (cause_there d))
unfolding whole fits dialogue_parts cause_there
dialogue_fits n Dialogue.NoDialogue = and-true _
dialogue_fits n (Dialogue.Cause c) = and-true _
dialogue_fits n (Dialogue.Request a u) = rw (options_fit series u) (and-true _)
dialogue_fits n (Dialogue.Unidialogue a u) = rw (options_fit series u) (and-true _)
dialogue_fits n (Dialogue.Response a r s u) = rw (source_fits s, options_fit series u) (and-true _)
dialogue_fits n (Dialogue.DialogueAbort r u) = rw (options_fit series u) (and-true _)
dialogue_fits n (Dialogue.OutsideElement a e) = and-true _
dialogue_fits n (Dialogue.OutsideOctets a c) = and-true _

id_fits : (n : Need) (i : Optional ℤ) → whole fits (id_parts n i) ≡ fits (there n (id_there i))
unfolding whole fits id_parts id_there
id_fits n None = and-true _
id_fits n (Some i) = and-true _

linked_fits : (l : Optional ℤ) → whole fits (linked_parts l) ≡ true
unfolding whole fits linked_parts
linked_fits None = refl
linked_fits (Some i) = refl

code_fits : (c : Code) → fits (code_part c) ≡ true
unfolding fits code_part
code_fits (Code.Local z) = refl
code_fits (Code.Global s) = refl

returned_fits : (r : Optional (Code × Span)) → whole fits (returned_parts r) ≡ true
unfolding whole fits returned_parts
returned_fits None = refl
returned_fits (Some (c, p)) = rw (code_fits c)

problem_fits : (q : Problem) → fits (problem_part q) ≡ true
unfolding fits problem_part
problem_fits (Problem.General n) = refl
problem_fits (Problem.OfInvoke n) = refl
problem_fits (Problem.OfResult n) = refl
problem_fits (Problem.OfError n) = refl

row_fits : (i : Optional ℤ) (k : ComponentKind) → whole fits (row_parts i k) ≡ row_parts_fit i k
unfolding whole fits row_parts row_parts_fit
row_fits i (ComponentKind.Invoke l c p) = simp (whole_append, id_fits, linked_fits, code_fits, options_fit, and-true)
row_fits i (ComponentKind.ResultLast r) = simp (whole_append, id_fits, returned_fits, and-true)
row_fits i (ComponentKind.ResultNotLast r) = simp (whole_append, id_fits, returned_fits, and-true)
row_fits i (ComponentKind.ReturnError c p) = simp (whole_append, id_fits, code_fits, options_fit, and-true)
row_fits i (ComponentKind.Reject q) = simp (whole_append, id_fits, problem_fits, and-true)

rows_fit : (rs : List Row) → whole fits (rows_parts rs) ≡ every (λ w. row_parts_fit w.id w.kind) rs
unfolding whole rows_parts every
rows_fit [] = refl
rows_fit (w ∷ rs) = rw (whole_append, row_fits w.id w.kind, rows_fit rs)

-- a count above 0
some_count : (n : ℕ) → leb 1 n ≡ not (eqb n 0)
some_count n = by_count (eqb n 0) refl
  where
    by_count : (b : Bool) → eqb n 0 ≡ b → leb 1 n ≡ not (eqb n 0)
    by_count true e = rw (e, eqb-true n 0 e)
    by_count false e = rw e (le-leb 1 n (omega (arith, eqb-false n 0 e)))

kinds_fit : (k : MessageKind) (o e c : Bool) (n : ℕ)
    → let q = needs_of k in (fits (there q.orig o) && (fits (there q.dest e) && (fits (there q.cause c) && fits (there q.components (not (eqb n 0)))))) ≡ parts_fit k o e c n
unfolding needs_of fits parts_fit
kinds_fit MessageKind.Unidirectional o e c n = rw (some_count n)
kinds_fit MessageKind.Begin o e c n = rw (and-true (not c))
kinds_fit MessageKind.End o e c n = rw (and-true (not c))
kinds_fit MessageKind.Continue o e c n = rw (and-true (not c))
kinds_fit MessageKind.Abort o e c n = rw (not-not (eqb n 0))

parts_fit_lem : (r : Record) → whole fits (parts_of r) ≡ all_parts r
unfolding parts_of all_parts whole fits
parts_fit_lem r =
    let n = needs_of r.kind in
    rw (← (kinds_fit r.kind (orig_there r.orig) (dest_there r.dest) (cause_there r.dialogue) r.count))
    (simp (whole_append, origs_fit, dests_fit, dialogue_fits, rows_fit, and_assoc))

-- 23: of numbers that their types hold

module _ (w : Wanted) (free : (n : ℕ) → length_in w n ≡ true) where
  options_ranged : (u : Optional Span) → whole in_range (option_parts w u) ≡ true
  unfolding whole in_range option_parts
  options_ranged None = refl
  options_ranged (Some s) = rw (free s.len)

parameter_ranged : (u : Optional Span) → whole in_range (option_parts (element 4) u) ≡ true
unfolding length_in
parameter_ranged u = options_ranged (element 4) (λ n. refl) u

info_ranged : (u : Optional Span) → whole in_range (option_parts series u) ≡ true
unfolding length_in
info_ranged u = options_ranged series (λ n. refl) u

origs_ranged : (n : Need) (o : Optional OrigTransactionId) → whole in_range (orig_parts n o) ≡ orig_ranges o
unfolding whole in_range length_in orig_parts orig_ranges
origs_ranged n None = refl
origs_ranged n (Some o) = and-true _

dests_ranged : (n : Need) (e : Optional DestTransactionId) → whole in_range (dest_parts n e) ≡ dest_ranges e
unfolding whole in_range length_in dest_parts dest_ranges
dests_ranged n None = refl
dests_ranged n (Some e) = and-true _

source_ranged : (s : Diagnostic) → in_range (source_part s) ≡ source_ranges s
unfolding in_range source_part source_ranges
source_ranged (Diagnostic.ByUser n) = refl
source_ranged (Diagnostic.ByProvider n) = refl

dialogue_ranged : (n : Need) (d : Dialogue) → whole in_range (dialogue_parts n d) ≡ dialogue_ranges d
unfolding whole in_range length_in dialogue_parts dialogue_ranges
dialogue_ranged n Dialogue.NoDialogue = refl
dialogue_ranged n (Dialogue.Cause c) = and-true _
dialogue_ranged n (Dialogue.Request a u) = rw (info_ranged u) (and-true _)
dialogue_ranged n (Dialogue.Unidialogue a u) = rw (info_ranged u) (and-true _)
dialogue_ranged n (Dialogue.Response a r s u) = simp (source_ranged, info_ranged, and-true)
dialogue_ranged n (Dialogue.DialogueAbort r u) = rw (info_ranged u) (and-true _)
dialogue_ranged n (Dialogue.OutsideElement a e) = and-true _
dialogue_ranged n (Dialogue.OutsideOctets a c) = and-true _

id_ranged : (n : Need) (i : Optional ℤ) → IdFits i → whole in_range (id_parts n i) ≡ true
unfolding whole in_range id_parts
id_ranged n None f = refl
id_ranged n (Some i) f = rw f

linked_ranged : (l : Optional ℤ) → LinkedFits l → whole in_range (linked_parts l) ≡ true
unfolding whole in_range linked_parts
linked_ranged None f = refl
linked_ranged (Some i) f = rw f

code_ranged : (c : Code) → CodeTyped c → in_range (code_part c) ≡ code_ranges c
unfolding in_range length_in code_part code_ranges
code_ranged (Code.Local z) f = f
code_ranged (Code.Global s) f = refl

returned_ranged : (r : Optional (Code × Span)) → ReturnedTyped r → whole in_range (returned_parts r) ≡ returned_ranges r
unfolding whole in_range length_in returned_parts returned_ranges
returned_ranged None f = refl
returned_ranged (Some (c, p)) f = rw (code_ranged c f) (and-true _)

problem_ranged : (q : Problem) → in_range (problem_part q) ≡ problem_ranges q
unfolding in_range problem_part problem_ranges
problem_ranged (Problem.General n) = refl
problem_ranged (Problem.OfInvoke n) = refl
problem_ranged (Problem.OfResult n) = refl
problem_ranged (Problem.OfError n) = refl

row_ranged : (i : Optional ℤ) (k : ComponentKind) → IdFits i → KindTyped k → whole in_range (row_parts i k) ≡ row_ranges k
unfolding whole row_parts row_ranges
row_ranged i (ComponentKind.Invoke l c p) f g = rw (whole_append, whole_append, id_ranged must i f, linked_ranged l g.0, code_ranged c g.1, parameter_ranged p) (and-true _)
row_ranged i (ComponentKind.ResultLast r) f g = rw (whole_append, id_ranged must i f) (returned_ranged r g)
row_ranged i (ComponentKind.ResultNotLast r) f g = rw (whole_append, id_ranged must i f) (returned_ranged r g)
row_ranged i (ComponentKind.ReturnError c p) f g = rw (whole_append, id_ranged must i f, code_ranged c g, parameter_ranged p) (and-true _)
row_ranged i (ComponentKind.Reject q) f g = rw (whole_append, id_ranged may i f, problem_ranged q) (and-true _)

rows_ranged : (rs : List Row) → Every RowTyped rs → whole in_range (rows_parts rs) ≡ every (λ w. row_ranges w.kind) rs
unfolding whole rows_parts every Every RowTyped
rows_ranged [] f = refl
rows_ranged (w ∷ rs) f = rw (whole_append, row_ranged w.id w.kind f.0.0 f.0.1, rows_ranged rs f.1)

-- the count is asked first
count_first : (o e d n w : Bool) → (o && (e && (d && (n && w)))) ≡ (n && (o && (e && (d && w))))
count_first o e d true w = refl
count_first o e d false w = rw (and-false d, and-false e, and-false o)

parts_ranged : (r : Record) → RecordTyped r → whole in_range (parts_of r) ≡ all_ranges r
unfolding parts_of all_ranges whole in_range
parts_ranged r t =
    let n = needs_of r.kind in
    rw (whole_append, whole_append, whole_append, origs_ranged n.orig r.orig, dests_ranged n.dest r.dest, dialogue_ranged n.cause r.dialogue, rows_ranged (counted r) (every_take r.count r.rows t.each))
    (count_first (orig_ranges r.orig) (dest_ranges r.dest) (dialogue_ranges r.dialogue) (leb r.count most_components) (every (λ w. row_ranges w.kind) (counted r)))

module _ (m : List ℕ) where
  -- 21

  options_within : (w : Wanted) (u : Optional Span) → whole (within m) (option_parts w u) ≡ option_lies (length m) u
  unfolding whole within option_parts option_lies
  options_within w None = refl
  options_within w (Some s) = and-true _

  origs_within : (n : Need) (o : Optional OrigTransactionId) → whole (within m) (orig_parts n o) ≡ orig_lies (length m) o
  unfolding whole within orig_parts orig_lies
  origs_within n None = refl
  origs_within n (Some o) = and-true _

  dests_within : (n : Need) (e : Optional DestTransactionId) → whole (within m) (dest_parts n e) ≡ dest_lies (length m) e
  unfolding whole within dest_parts dest_lies
  dests_within n None = refl
  dests_within n (Some e) = and-true _

  source_within : (s : Diagnostic) → within m (source_part s) ≡ true
  unfolding within source_part
  source_within (Diagnostic.ByUser n) = refl
  source_within (Diagnostic.ByProvider n) = refl

  dialogue_within : (n : Need) (d : Dialogue) → whole (within m) (dialogue_parts n d) ≡ dialogue_lies (length m) d
  unfolding whole within dialogue_parts dialogue_lies
  dialogue_within n Dialogue.NoDialogue = refl
  dialogue_within n (Dialogue.Cause c) = refl
  dialogue_within n (Dialogue.Request a u) = rw (options_within series u)
  dialogue_within n (Dialogue.Unidialogue a u) = rw (options_within series u)
  dialogue_within n (Dialogue.Response a r s u) = rw (source_within s, options_within series u)
  dialogue_within n (Dialogue.DialogueAbort r u) = options_within series u
  dialogue_within n (Dialogue.OutsideElement a e) = rw (and-true (lies (length m) e))
  dialogue_within n (Dialogue.OutsideOctets a c) = rw (and-true (lies (length m) c))

  id_within : (n : Need) (i : Optional ℤ) → whole (within m) (id_parts n i) ≡ true
  unfolding whole within id_parts
  id_within n None = refl
  id_within n (Some i) = refl

  linked_within : (l : Optional ℤ) → whole (within m) (linked_parts l) ≡ true
  unfolding whole within linked_parts
  linked_within None = refl
  linked_within (Some i) = refl

  code_within : (c : Code) → within m (code_part c) ≡ code_lies (length m) c
  unfolding within code_part code_lies
  code_within (Code.Local z) = refl
  code_within (Code.Global s) = refl

  returned_within : (r : Optional (Code × Span)) → whole (within m) (returned_parts r) ≡ returned_lies (length m) r
  unfolding whole within returned_parts returned_lies
  returned_within None = refl
  returned_within (Some (c, p)) = rw (code_within c, and-true (lies (length m) p))

  problem_within : (q : Problem) → within m (problem_part q) ≡ true
  unfolding within problem_part
  problem_within (Problem.General n) = refl
  problem_within (Problem.OfInvoke n) = refl
  problem_within (Problem.OfResult n) = refl
  problem_within (Problem.OfError n) = refl

  row_within : (i : Optional ℤ) (k : ComponentKind) → whole (within m) (row_parts i k) ≡ row_lies (length m) k
  unfolding whole row_parts row_lies
  row_within i (ComponentKind.Invoke l c p) = rw (whole_append, whole_append, id_within must i, linked_within l, code_within c, options_within (element 4) p)
  row_within i (ComponentKind.ResultLast r) = rw (whole_append, id_within must i) (returned_within r)
  row_within i (ComponentKind.ResultNotLast r) = rw (whole_append, id_within must i) (returned_within r)
  row_within i (ComponentKind.ReturnError c p) = rw (whole_append, id_within must i, code_within c, options_within (element 4) p)
  row_within i (ComponentKind.Reject q) = rw (whole_append, id_within may i, problem_within q)

  rows_within : (rs : List Row) → whole (within m) (rows_parts rs) ≡ every (λ w. row_lies (length m) w.kind) rs
  unfolding whole rows_parts every
  rows_within [] = refl
  rows_within (w ∷ rs) = rw (whole_append, row_within w.id w.kind, rows_within rs)

  parts_within : (r : Record) → whole (within m) (parts_of r) ≡ all_lie (length m) r
  unfolding parts_of all_lie whole within
  parts_within r =
      let n = needs_of r.kind in
      rw (whole_append, whole_append, whole_append, origs_within n.orig r.orig, dests_within n.dest r.dest, dialogue_within n.cause r.dialogue, rows_within (counted r))

  -- 22

  parameter_shaped_lem : (u : Optional Span) → whole (shaped m) (option_parts (element 4) u) ≡ parameter_shaped m u
  unfolding whole shaped shaped_as option_parts parameter_shaped
  parameter_shaped_lem None = refl
  parameter_shaped_lem (Some s) = and-true _

  info_shaped_lem : (u : Optional Span) → whole (shaped m) (option_parts series u) ≡ info_shaped m u
  unfolding whole shaped shaped_as option_parts info_shaped
  info_shaped_lem None = refl
  info_shaped_lem (Some s) = and-true _

  origs_shaped : (n : Need) (o : Optional OrigTransactionId) → whole (shaped m) (orig_parts n o) ≡ true
  unfolding whole shaped shaped_as orig_parts
  origs_shaped n None = refl
  origs_shaped n (Some o) = refl

  dests_shaped : (n : Need) (e : Optional DestTransactionId) → whole (shaped m) (dest_parts n e) ≡ true
  unfolding whole shaped shaped_as dest_parts
  dests_shaped n None = refl
  dests_shaped n (Some e) = refl

  source_shaped : (s : Diagnostic) → shaped m (source_part s) ≡ true
  unfolding shaped source_part
  source_shaped (Diagnostic.ByUser n) = refl
  source_shaped (Diagnostic.ByProvider n) = refl

  dialogue_shaped_lem : (n : Need) (d : Dialogue) → whole (shaped m) (dialogue_parts n d) ≡ dialogue_shaped m d
  unfolding whole shaped shaped_as dialogue_parts dialogue_shaped
  dialogue_shaped_lem n Dialogue.NoDialogue = refl
  dialogue_shaped_lem n (Dialogue.Cause c) = refl
  dialogue_shaped_lem n (Dialogue.Request a u) = rw (info_shaped_lem u)
  dialogue_shaped_lem n (Dialogue.Unidialogue a u) = rw (info_shaped_lem u)
  dialogue_shaped_lem n (Dialogue.Response a r s u) = rw (source_shaped s, info_shaped_lem u)
  dialogue_shaped_lem n (Dialogue.DialogueAbort r u) = info_shaped_lem u
  dialogue_shaped_lem n (Dialogue.OutsideElement a e) = simp and-true
  dialogue_shaped_lem n (Dialogue.OutsideOctets a c) = and-true _

  id_shaped : (n : Need) (i : Optional ℤ) → whole (shaped m) (id_parts n i) ≡ true
  unfolding whole shaped id_parts
  id_shaped n None = refl
  id_shaped n (Some i) = refl

  linked_shaped : (l : Optional ℤ) → whole (shaped m) (linked_parts l) ≡ true
  unfolding whole shaped linked_parts
  linked_shaped None = refl
  linked_shaped (Some i) = refl

  code_shaped_lem : (c : Code) → shaped m (code_part c) ≡ code_shaped m c
  unfolding shaped shaped_as code_part code_shaped
  code_shaped_lem (Code.Local z) = refl
  code_shaped_lem (Code.Global s) = refl

  returned_shaped_lem : (r : Optional (Code × Span)) → whole (shaped m) (returned_parts r) ≡ returned_shaped m r
  unfolding whole shaped shaped_as returned_parts returned_shaped
  returned_shaped_lem None = refl
  returned_shaped_lem (Some (c, p)) = simp (code_shaped_lem, and-true)

  problem_shaped : (q : Problem) → shaped m (problem_part q) ≡ true
  unfolding shaped problem_part
  problem_shaped (Problem.General n) = refl
  problem_shaped (Problem.OfInvoke n) = refl
  problem_shaped (Problem.OfResult n) = refl
  problem_shaped (Problem.OfError n) = refl

  row_shaped_lem : (i : Optional ℤ) (k : ComponentKind) → whole (shaped m) (row_parts i k) ≡ row_shaped m k
  unfolding whole row_parts row_shaped
  row_shaped_lem i (ComponentKind.Invoke l c p) = rw (whole_append, whole_append, id_shaped must i, linked_shaped l, code_shaped_lem c, parameter_shaped_lem p)
  row_shaped_lem i (ComponentKind.ResultLast r) = rw (whole_append, id_shaped must i) (returned_shaped_lem r)
  row_shaped_lem i (ComponentKind.ResultNotLast r) = rw (whole_append, id_shaped must i) (returned_shaped_lem r)
  row_shaped_lem i (ComponentKind.ReturnError c p) = rw (whole_append, id_shaped must i, code_shaped_lem c, parameter_shaped_lem p)
  row_shaped_lem i (ComponentKind.Reject q) = rw (whole_append, id_shaped may i, problem_shaped q)

  rows_shaped : (rs : List Row) → whole (shaped m) (rows_parts rs) ≡ every (λ w. row_shaped m w.kind) rs
  unfolding whole rows_parts every
  rows_shaped [] = refl
  rows_shaped (w ∷ rs) = rw (whole_append, row_shaped_lem w.id w.kind, rows_shaped rs)

  parts_shaped : (r : Record) → whole (shaped m) (parts_of r) ≡ all_shaped m r
  unfolding parts_of all_shaped whole shaped
  parts_shaped r =
      let n = needs_of r.kind in
      rw (whole_append, whole_append, whole_append, origs_shaped n.orig r.orig, dests_shaped n.dest r.dest, dialogue_shaped_lem n.cause r.dialogue, rows_shaped (counted r))

-- So a test of the record fails exactly if something is wrong with some part

module _ (r : Record) (m : List ℕ) where
  pub parts_exactly : (all_parts r ≡ false) ↔ SomePart Misfit r
  parts_exactly = tells_exactly (rw (parts_fit_lem r) at (tells_any fits fits_tells (parts_of r)))

  pub ranged_exactly : RecordTyped r → (all_ranges r ≡ false) ↔ SomePart RangeOff r
  ranged_exactly t = tells_exactly (rw (parts_ranged r t) at (tells_any in_range range_tells (parts_of r)))

  pub lie_exactly : (all_lie (length m) r ≡ false) ↔ SomePart (EndOff m) r
  lie_exactly = tells_exactly (rw (parts_within m r) at (tells_any (within m) (end_tells m) (parts_of r)))

  pub shaped_exactly : (all_shaped m r ≡ false) ↔ SomePart (ShapeOff m) r
  shaped_exactly = tells_exactly (rw (parts_shaped m r) at (tells_any (shaped m) (shaped_tells m) (parts_of r)))
