-- Why a record has no meaning over the octets beside it: exactly for one of these causes. Assumes nothing.
use Rattle.std.specs.Prelude.{ℤ}
use Rattle.tcap.specs.declared.Code.{Code}
use Rattle.tcap.specs.declared.DestTransactionId.{DestTransactionId}
use Rattle.tcap.specs.declared.OrigTransactionId.{OrigTransactionId}
use Rattle.std.specs.Prelude.{Option as Optional, Some, None}
use Prim.Native.Nat.{ℕ, ◌+◌, ◌<◌}
use mathlib.Core.Path.{◌≡◌, refl, sym, ◌∙◌}
use mathlib.Core.Logic.{◌⊎◌, inl, inr, ◌↔◌}
use mathlib.Core.Bool.{Bool, true, false}
use mathlib.Core.List.{List, [], ◌∷◌}
use mathlib.Core.Option.{Option, none, some, bind}
use native.Mathlib.Omega.{arith}
use lib.ListN.{length, take, drop}
use lib.Dec.{leb}
use borrow.Author.Tests.{leb-true, leb-false}
use Rattle.tcap.specs.declared.{Span.Span, Code.Code as CodeField, ComponentKind.ComponentKind, Row.Row, Dialogue.Dialogue as DialogueField, MessageKind.MessageKind, Record.Record}
use Rattle.tcap.specs.Meaning.{Originating, orig, Destination, dest, local, global, Component, invoke, last, not_last, error, reject, Dialogue, request, unidialogue, response, aborted, single, octets, Ending, silent, cause, says, unidirectional, begin, finish, continue, abort}
use Rattle.tcap.specs.WellFormed.{most_components}
use Rattle.tcap.specs.Record.{octets_at, span_means, code_means, both_means, id_means, linked_means, row_means, rows_mean, ending_means, portion_of, orig_means, dest_means, lacks, lacks_all, parts_mean, meaning_of, Same}

module _ (m : List ℕ) where
  -- a string past the end, in any part that has one
  abbrev pub Past : Span → Type 0
  Past s = length m < s.place + s.len

  abbrev pub PastOption : Optional Span → Type 0
  PastOption None = ⊥
  PastOption (Some s) = Past s

  abbrev pub PastCode : CodeField → Type 0
  PastCode (CodeField.Local z) = ⊥
  PastCode (CodeField.Global s) = Past s

  abbrev pub PastReturned : Optional (Code × Span) → Type 0
  PastReturned None = ⊥
  PastReturned (Some (c, p)) = PastCode c ⊎ Past p

  abbrev pub PastOrig : Optional OrigTransactionId → Type 0
  PastOrig None = ⊥
  PastOrig (Some o) = Past o.0.octets

  abbrev pub PastDest : Optional DestTransactionId → Type 0
  PastDest None = ⊥
  PastDest (Some e) = Past e.0.octets

  abbrev pub PastDialogue : DialogueField → Type 0
  PastDialogue DialogueField.NoDialogue = ⊥
  PastDialogue (DialogueField.Cause n) = ⊥
  PastDialogue (DialogueField.Request n u) = Past n ⊎ PastOption u
  PastDialogue (DialogueField.Response n r s u) = Past n ⊎ PastOption u
  PastDialogue (DialogueField.DialogueAbort r u) = PastOption u
  PastDialogue (DialogueField.Unidialogue n u) = Past n ⊎ PastOption u
  PastDialogue (DialogueField.OutsideElement n e) = Past n ⊎ Past e
  PastDialogue (DialogueField.OutsideOctets n c) = Past n ⊎ Past c

  -- a row: a null invoke ID outside a Reject, or a string past the end
  abbrev pub RowCause : Optional ℤ → ComponentKind → Type 0
  RowCause i (ComponentKind.Invoke l c p) = (i ≡ None) ⊎ (PastCode c ⊎ PastOption p)
  RowCause i (ComponentKind.ResultLast r) = (i ≡ None) ⊎ PastReturned r
  RowCause i (ComponentKind.ResultNotLast r) = (i ≡ None) ⊎ PastReturned r
  RowCause i (ComponentKind.ReturnError c p) = (i ≡ None) ⊎ (PastCode c ⊎ PastOption p)
  RowCause i (ComponentKind.Reject q) = ⊥

  unfoldable pub RowsCause : List Row → Type 0
  RowsCause [] = ⊥
  RowsCause (r ∷ rs) = RowCause r.id r.kind ⊎ RowsCause rs

  -- an ID that the kind lacks or may not have, a cause outside an Abort, a component in an Abort
  abbrev pub IsCause : DialogueField → Type 0
  IsCause d = (n : ℕ) × (d ≡ DialogueField.Cause n)

  abbrev pub PartsCause : MessageKind → Optional OrigTransactionId → Optional DestTransactionId → DialogueField → List Row → Type 0
  PartsCause MessageKind.Unidirectional o e d rs = (o ≡ None → ⊥) ⊎ ((e ≡ None → ⊥) ⊎ IsCause d)
  PartsCause MessageKind.Begin o e d rs = (o ≡ None) ⊎ ((e ≡ None → ⊥) ⊎ IsCause d)
  PartsCause MessageKind.End o e d rs = (o ≡ None → ⊥) ⊎ ((e ≡ None) ⊎ IsCause d)
  PartsCause MessageKind.Continue o e d rs = (o ≡ None) ⊎ ((e ≡ None) ⊎ IsCause d)
  PartsCause MessageKind.Abort o e d rs = (o ≡ None → ⊥) ⊎ ((e ≡ None) ⊎ (rs ≡ [] → ⊥))

  pub data Cause (r : Record) : Type 0 where
    many : most_components < r.count → Cause r
    past_orig : PastOrig r.orig → Cause r
    past_dest : PastDest r.dest → Cause r
    past_dialogue : PastDialogue r.dialogue → Cause r
    in_row : RowsCause (take r.count r.rows) → Cause r
    in_parts : PartsCause r.kind r.orig r.dest r.dialogue (take r.count r.rows) → Cause r

  -- something is wrong and there is no meaning, or nothing is and there is one
  abbrev Or : {A : Type 0} → Type 0 → Option A → Type 0
  Or {A} P x = (P × (x ≡ none)) ⊎ ((P → ⊥) × ((a : A) × (x ≡ some a)))

  fine : {A P : Type 0} {x : Option A} → (P → ⊥) → (a : A) → x ≡ some a → Or P x
  fine n a e = inr (n, (a, e))

  string_or : (s : Span) → Or (Past s) (octets_at m s)
  string_or s = by_test (leb (s.place + s.len) (length m)) refl
    where
      by_test : (b : Bool) → leb (s.place + s.len) (length m) ≡ b → Or (Past s) (octets_at m s)
      by_test true e = fine (λ p. omega (arith, leb-true (s.place + s.len) (length m) e)) (take s.len (drop s.place m)) (rw e)
      by_test false e = inl (omega (arith, leb-false (s.place + s.len) (length m) e), rw e)

  -- one after another
  neither : {P Q : Type 0} → (P → ⊥) → (Q → ⊥) → P ⊎ Q → ⊥
  neither n k (inl p) = n p
  neither n k (inr q) = k q

  bind_or : {A B : Type 0} {P Q : Type 0} (x : Option A) (f : A → Option B) → Or P x → ((a : A) → Or Q (f a)) → Or (P ⊎ Q) (bind x f)
  unfolding bind
  bind_or x f (inl (p, e)) g = inl (inl p, rw e)
  bind_or {A} {B} {P} {Q} x f (inr (n, (a, e))) g = on (g a)
    where
      on : Or Q (f a) → Or (P ⊎ Q) (bind x f)
      on (inl (q, h)) = inl (inr q, rw e h)
      on (inr (k, (b, h))) = inr (neither n k, (b, rw e h))

  map_or : {A B : Type 0} {P : Type 0} (x : Option A) (f : A → B) → Or P x → Or P (bind x (λ a. some (f a)))
  unfolding bind
  map_or x f (inl (p, e)) = inl (p, rw e)
  map_or x f (inr (n, (a, e))) = inr (n, (f a, rw e))

  never : ⊥ → ⊥
  never x = x

  option_or : (s : Optional Span) → Or (PastOption s) (span_means m s)
  option_or None = fine never none refl
  option_or (Some s) = map_or (octets_at m s) (λ c. some c) (string_or s)

  code_or : (c : CodeField) → Or (PastCode c) (code_means m c)
  code_or (CodeField.Local z) = fine never (local z) refl
  code_or (CodeField.Global s) = map_or (octets_at m s) global (string_or s)

  both_or : (r : Optional (Code × Span)) → Or (PastReturned r) (both_means m r)
  both_or None = fine never none refl
  both_or (Some (c, p)) = bind_or (code_means m c) _ (code_or c) λ d. map_or (octets_at m p) (λ p. some (d, p)) (string_or p)

  id_or : (i : Optional ℤ) → Or (i ≡ None) (id_means m i)
  id_or None = inl (refl, refl)
  id_or (Some i) = fine (λ e. let z : ◌≡◌ {A = ℕ} 0 1 = cc in omega arith) i refl

  row_or : (i : Optional ℤ) (k : ComponentKind) → Or (RowCause i k) (row_means m i k)
  row_or i (ComponentKind.Invoke l c p) = bind_or (id_means m i) _ (id_or i) λ j. bind_or (code_means m c) _ (code_or c) λ d. map_or (span_means m p) (λ p. invoke j (linked_means m l) d p) (option_or p)
  row_or i (ComponentKind.ResultLast r) = bind_or (id_means m i) _ (id_or i) λ j. map_or (both_means m r) (λ r. last j r) (both_or r)
  row_or i (ComponentKind.ResultNotLast r) = bind_or (id_means m i) _ (id_or i) λ j. map_or (both_means m r) (λ r. not_last j r) (both_or r)
  row_or i (ComponentKind.ReturnError c p) = bind_or (id_means m i) _ (id_or i) λ j. bind_or (code_means m c) _ (code_or c) λ d. map_or (span_means m p) (λ p. error j d p) (option_or p)
  row_or i (ComponentKind.Reject q) = fine never (reject (id_means m i) q) refl

  rows_or : (rs : List Row) → Or (RowsCause rs) (rows_mean m rs)
  unfolding RowsCause rows_mean
  rows_or [] = fine never [] refl
  rows_or (r ∷ rs) = bind_or (row_means m r.id r.kind) _ (row_or r.id r.kind) λ c. map_or (rows_mean m rs) (λ cs. c ∷ cs) (rows_or rs)

  ending_or : (d : DialogueField) → Or (PastDialogue d) (ending_means m d)
  ending_or DialogueField.NoDialogue = fine never silent refl
  ending_or (DialogueField.Cause n) = fine never (cause n) refl
  ending_or (DialogueField.Request n u) = bind_or (octets_at m n) _ (string_or n) λ c. map_or (span_means m u) (λ u. says (request c u)) (option_or u)
  ending_or (DialogueField.Response n r s u) = bind_or (octets_at m n) _ (string_or n) λ c. map_or (span_means m u) (λ u. says (response c r s u)) (option_or u)
  ending_or (DialogueField.DialogueAbort r u) = map_or (span_means m u) (λ u. says (aborted r u)) (option_or u)
  ending_or (DialogueField.Unidialogue n u) = bind_or (octets_at m n) _ (string_or n) λ c. map_or (span_means m u) (λ u. says (unidialogue c u)) (option_or u)
  ending_or (DialogueField.OutsideElement n e) = bind_or (octets_at m n) _ (string_or n) λ c. map_or (octets_at m e) (λ e. says (single c e)) (string_or e)
  ending_or (DialogueField.OutsideOctets n c) = bind_or (octets_at m n) _ (string_or n) λ d. map_or (octets_at m c) (λ c. says (octets d c)) (string_or c)

  orig_or : (o : Optional OrigTransactionId) → Or (PastOrig o) (orig_means m o)
  orig_or None = fine never none refl
  orig_or (Some o) = map_or (octets_at m o.0.octets) (λ c. some (orig c)) (string_or o.0.octets)

  dest_or : (e : Optional DestTransactionId) → Or (PastDest e) (dest_means m e)
  dest_or None = fine never none refl
  dest_or (Some e) = map_or (octets_at m e.0.octets) (λ c. some (dest c)) (string_or e.0.octets)

  -- a field is there just if its meaning is
  data Link {F A : Type 0} (blank x : F) : Option A → Type 0 where
    absent : x ≡ blank → Link blank x none
    present : {y : A} → (x ≡ blank → ⊥) → Link blank x (some y)

  lacks_or : {F A : Type 0} {blank x : F} {v : Option A} → Link blank x v → Or (x ≡ blank → ⊥) (lacks m v)
  lacks_or (absent e) = fine (λ n. n e) tt refl
  lacks_or (present n) = inl (n, refl)

  needs_or : {F A : Type 0} {blank x : F} {v : Option A} → Link blank x v → Or (x ≡ blank) v
  needs_or (absent e) = inl (e, refl)
  needs_or (present {y = y} n) = fine n y refl

  some_is : {A : Type 0} {a b : A} → some a ≡ some b → a ≡ b
  some_is e = cc

  not_some : {A : Type 0} {a : A} → none ≡ some a → ⊥
  not_some e = let z : ◌≡◌ {A = ℕ} 0 1 = cc in omega arith

  there : {F A B : Type 0} {blank f : F} (x : Option A) (g : A → B) (v : Option B) → (f ≡ blank → ⊥) → bind x (λ a. some (some (g a))) ≡ some v → Link blank f v
  unfolding bind
  there none g v n e = absurd (not_some e)
  there (some a) g v n e = rw (← (some_is e)) (present n)

  orig_link : (o : Optional OrigTransactionId) (v : Option (Originating (List ℕ))) → orig_means m o ≡ some v → Link None o v
  orig_link None v e = rw (← (some_is e)) (absent refl)
  orig_link (Some o) v e = there (octets_at m o.0.octets) orig v (λ q. let z : ◌≡◌ {A = ℕ} 0 1 = cc in omega arith) e

  dest_link : (o : Optional DestTransactionId) (v : Option (Destination (List ℕ))) → dest_means m o ≡ some v → Link None o v
  dest_link None v e = rw (← (some_is e)) (absent refl)
  dest_link (Some o) v e = there (octets_at m o.0.octets) dest v (λ q. let z : ◌≡◌ {A = ℕ} 0 1 = cc in omega arith) e

  -- of a dialogue that is said
  said : {P : Type 0} {d : Dialogue (List ℕ)} (s : Ending (List ℕ)) → (P → ⊥) → some (says d) ≡ some s → Or P (portion_of m s)
  said {d = d} s n e = rw (← (some_is e)) (fine n (some d) refl)

  said_one : {P A : Type 0} (x : Option A) (f : A → Dialogue (List ℕ)) (s : Ending (List ℕ)) → (P → ⊥) → bind x (λ a. some (says (f a))) ≡ some s → Or P (portion_of m s)
  unfolding bind
  said_one none f s n e = absurd (not_some e)
  said_one (some a) f s n e = said s n e

  said_two : {P A B : Type 0} (x : Option A) (y : Option B) (f : A → B → Dialogue (List ℕ)) (s : Ending (List ℕ)) → (P → ⊥) → bind x (λ a. bind y (λ b. some (says (f a b)))) ≡ some s → Or P (portion_of m s)
  unfolding bind
  said_two none y f s n e = absurd (not_some e)
  said_two (some a) y f s n e = said_one y (f a) s n e

  portion_or : (d : DialogueField) (s : Ending (List ℕ)) → ending_means m d ≡ some s → Or (IsCause d) (portion_of m s)
  portion_or DialogueField.NoDialogue s e = rw (← (some_is e)) (fine (λ (n, q). let z : ◌≡◌ {A = ℕ} 0 1 = cc in omega arith) none refl)
  portion_or (DialogueField.Cause n) s e = rw (← (some_is e)) (inl ((n, refl), refl))
  portion_or (DialogueField.Request n u) s e = said_two (octets_at m n) (span_means m u) request s (λ (k, q). let z : ◌≡◌ {A = ℕ} 0 1 = cc in omega arith) e
  portion_or (DialogueField.Response n r v u) s e = said_two (octets_at m n) (span_means m u) (λ n u. response n r v u) s (λ (k, q). let z : ◌≡◌ {A = ℕ} 0 1 = cc in omega arith) e
  portion_or (DialogueField.DialogueAbort r u) s e = said_one (span_means m u) (aborted r) s (λ (k, q). let z : ◌≡◌ {A = ℕ} 0 1 = cc in omega arith) e
  portion_or (DialogueField.Unidialogue n u) s e = said_two (octets_at m n) (span_means m u) unidialogue s (λ (k, q). let z : ◌≡◌ {A = ℕ} 0 1 = cc in omega arith) e
  portion_or (DialogueField.OutsideElement n x) s e = said_two (octets_at m n) (octets_at m x) single s (λ (k, q). let z : ◌≡◌ {A = ℕ} 0 1 = cc in omega arith) e
  portion_or (DialogueField.OutsideOctets n c) s e = said_two (octets_at m n) (octets_at m c) octets s (λ (k, q). let z : ◌≡◌ {A = ℕ} 0 1 = cc in omega arith) e

  some_row : (c : Component (List ℕ)) (x : Option (List (Component (List ℕ)))) → bind x (λ cs. some (c ∷ cs)) ≡ some [] → ⊥
  unfolding bind
  some_row c none e = not_some e
  some_row c (some cs) e = let z : ◌≡◌ {A = ℕ} 0 1 = cc in omega arith

  first_row : (x : Option (Component (List ℕ))) (y : Option (List (Component (List ℕ)))) → bind x (λ c. bind y (λ cs. some (c ∷ cs))) ≡ some [] → ⊥
  unfolding bind
  first_row none y e = not_some e
  first_row (some c) y e = some_row c y e

  no_rows : (rs : List Row) → rows_mean m rs ≡ some [] → rs ≡ []
  unfolding rows_mean
  no_rows [] e = refl
  no_rows (r ∷ rs) e = absurd (first_row (row_means m r.id r.kind) (rows_mean m rs) e)

  none_or : (rs : List Row) (cs : List (Component (List ℕ))) → rows_mean m rs ≡ some cs → Or (rs ≡ [] → ⊥) (lacks_all m cs)
  unfolding rows_mean
  none_or rs [] e = fine (λ n. n (no_rows rs e)) tt refl
  none_or rs (c ∷ cs) e = inl ((λ q. empty (rw q at e)), refl)
    where
      empty : some [] ≡ some (c ∷ cs) → ⊥
      empty h = let z : ◌≡◌ {A = ℕ} 0 1 = cc in omega arith

  module _ (o : Optional OrigTransactionId) (x : Optional DestTransactionId) (d : DialogueField) (rs : List Row) {ov : Option (Originating (List ℕ))} {xv : Option (Destination (List ℕ))} (s : Ending (List ℕ)) (cs : List (Component (List ℕ)))
      (lo : Link None o ov) (lx : Link None x xv) (ls : Or (IsCause d) (portion_of m s)) (lr : Or (rs ≡ [] → ⊥) (lacks_all m cs)) where
    parts_or : (k : MessageKind) → Or (PartsCause k o x d rs) (parts_mean m k ov xv s cs)
    parts_or MessageKind.Unidirectional = bind_or (lacks m ov) _ (lacks_or lo) λ _. bind_or (lacks m xv) _ (lacks_or lx) λ _. map_or (portion_of m s) (λ d. unidirectional d cs) ls
    parts_or MessageKind.Begin = bind_or ov _ (needs_or lo) λ o. bind_or (lacks m xv) _ (lacks_or lx) λ _. map_or (portion_of m s) (λ d. begin o d cs) ls
    parts_or MessageKind.End = bind_or (lacks m ov) _ (lacks_or lo) λ _. bind_or xv _ (needs_or lx) λ e. map_or (portion_of m s) (λ d. finish e d cs) ls
    parts_or MessageKind.Continue = bind_or ov _ (needs_or lo) λ o. bind_or xv _ (needs_or lx) λ e. map_or (portion_of m s) (λ d. continue o e d cs) ls
    parts_or MessageKind.Abort = bind_or (lacks m ov) _ (lacks_or lo) λ _. bind_or xv _ (needs_or lx) λ e. map_or (lacks_all m cs) (λ y. abort e s) lr

  -- every record has a cause and no meaning, or no cause and a meaning
  module _ (r : Record) where
    abbrev counted : List Row
    counted = take r.count r.rows

    abbrev CauseOr : Type 0
    CauseOr = Or (Cause r) (meaning_of r m)

    module _ (c : leb r.count most_components ≡ true) where
      none_of : (PastOrig r.orig → ⊥) → (PastDest r.dest → ⊥) → (PastDialogue r.dialogue → ⊥) → (RowsCause counted → ⊥) → (PartsCause r.kind r.orig r.dest r.dialogue counted → ⊥) → Cause r → ⊥
      none_of nw nx ns nr np (many h) = omega (arith, leb-true r.count most_components c)
      none_of nw nx ns nr np (past_orig p) = nw p
      none_of nw nx ns nr np (past_dest p) = nx p
      none_of nw nx ns nr np (past_dialogue p) = ns p
      none_of nw nx ns nr np (in_row p) = nr p
      none_of nw nx ns nr np (in_parts p) = np p

      module _ (nw : PastOrig r.orig → ⊥) (ov : Option (Originating (List ℕ))) (eo : orig_means m r.orig ≡ some ov) where
        module _ (nx : PastDest r.dest → ⊥) (xv : Option (Destination (List ℕ))) (ex : dest_means m r.dest ≡ some xv) where
          module _ (ns : PastDialogue r.dialogue → ⊥) (s : Ending (List ℕ)) (es : ending_means m r.dialogue ≡ some s) where
            by_parts : (RowsCause counted → ⊥) → (cs : List (Component (List ℕ))) → rows_mean m counted ≡ some cs → Or (PartsCause r.kind r.orig r.dest r.dialogue counted) (parts_mean m r.kind ov xv s cs) → CauseOr
            unfolding meaning_of bind
            by_parts nr cs er (inl (p, h)) = inl (in_parts p, rw (c, eo, ex, es, er) h)
            by_parts nr cs er (inr (np, (μ, h))) = inr (none_of nw nx ns nr np, (μ, rw (c, eo, ex, es, er) h))

            by_rows : Or (RowsCause counted) (rows_mean m counted) → CauseOr
            unfolding meaning_of bind
            by_rows (inl (p, h)) = inl (in_row p, rw (c, eo, ex, es, h))
            by_rows (inr (nr, (cs, er))) =
                by_parts nr cs er (parts_or r.orig r.dest r.dialogue counted s cs (orig_link r.orig ov eo) (dest_link r.dest xv ex) (portion_or r.dialogue s es) (none_or counted cs er) r.kind)

          by_ending : Or (PastDialogue r.dialogue) (ending_means m r.dialogue) → CauseOr
          unfolding meaning_of bind
          by_ending (inl (p, h)) = inl (past_dialogue p, rw (c, eo, ex, h))
          by_ending (inr (ns, (s, es))) = by_rows ns s es (rows_or counted)

        by_dest : Or (PastDest r.dest) (dest_means m r.dest) → CauseOr
        unfolding meaning_of bind
        by_dest (inl (p, h)) = inl (past_dest p, rw (c, eo, h))
        by_dest (inr (nx, (xv, ex))) = by_ending nx xv ex (ending_or r.dialogue)

      by_orig : Or (PastOrig r.orig) (orig_means m r.orig) → CauseOr
      unfolding meaning_of bind
      by_orig (inl (p, h)) = inl (past_orig p, rw (c, h))
      by_orig (inr (nw, (ov, eo))) = by_dest nw ov eo (dest_or r.dest)

    by_count : (c : Bool) → leb r.count most_components ≡ c → CauseOr
    unfolding meaning_of
    by_count true c = by_orig c (orig_or r.orig)
    by_count false c = inl (many (omega (arith, leb-false r.count most_components c)), rw c)

    whether : CauseOr
    whether = by_count (leb r.count most_components) refl

    -- no meaning exactly if there is a cause
    pub cause_exactly : (meaning_of r m ≡ none) ↔ Cause r
    cause_exactly = by_cause whether
      where
        by_cause : CauseOr → (meaning_of r m ≡ none) ↔ Cause r
        by_cause (inl (p, e)) = (λ _. p, λ _. e)
        by_cause (inr (n, (μ, e))) = (λ h. absurd (not_some (sym h ∙ e)), λ p. absurd (n p))

    -- and then it is not the same even as itself
    pub same_itself : Same r m r m ↔ (Cause r → ⊥)
    unfolding Same
    same_itself = by_cause whether
      where
        by_cause : CauseOr → Same r m r m ↔ (Cause r → ⊥)
        by_cause (inl (p, e)) = (λ s. absurd (not_some (sym e ∙ s.1)), λ n. absurd (n p))
        by_cause (inr (n, (μ, e))) = (λ _. n, λ _. (μ, e, e))
