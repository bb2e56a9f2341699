-- What each part of a record means where its strings lie within the material: a value, found by `lies` and never cut. Assumes nothing.
use Rattle.tcap.specs.declared.DestTransactionId.{DestTransactionId}
use Rattle.tcap.specs.declared.OrigTransactionId.{OrigTransactionId}
use Rattle.std.specs.Prelude.{Option as Optional, Some, None}
use Prim.Native.Nat.{ℕ}
use mathlib.Core.Path.{◌≡◌, refl}
use mathlib.Core.Bool.{Bool, true, false, cond, ◌&&◌}
use mathlib.Core.List.{List, [], ◌∷◌, map}
use mathlib.Core.Option.{Option, none, some, bind}
use lib.ListN.{length}
use lib.IntN.{ℤ, pos}
use Rattle.tcap.specs.declared.{Span.Span, Code.Code as CodeField, ComponentKind.ComponentKind, Row.Row, Dialogue.Dialogue as DialogueField}
use Rattle.tcap.specs.Meaning.{Originating, orig, Destination, dest, Code, local, global, Component, invoke, last, not_last, error, reject, Dialogue, request, unidialogue, response, aborted, single, octets, Ending, silent, cause, says}
use Rattle.tcap.specs.Record.{octets_at, span_means, code_means, both_means, id_means, linked_means, row_means, rows_mean, named, ending_means, orig_means, dest_means}
use Rattle.tcap.specs.Verdict.{every, id_there, row_parts_fit, lies, option_lies, orig_lies, dest_lies, code_lies, returned_lies, row_lies, dialogue_lies, string_octets}

-- a value that is there if the test holds
abbrev pub given : {A : Type 0} → Bool → A → Option A
given b a = cond b (some a) none

given_bound : {A B : Type 0} (b : Bool) (a : A) (f : A → Option B) → bind (given b a) f ≡ cond b (f a) none
unfolding bind
given_bound true a f = refl
given_bound false a f = refl

given_then : {A B : Type 0} (b c : Bool) (a : A) (y : Option B) (f : A → Option B) → f a ≡ cond c y none → bind (given b a) f ≡ cond (b && c) y none
unfolding bind
given_then true c a y f e = e
given_then false c a y f e = refl

given_one : {A B : Type 0} (b : Bool) (a : A) (f : A → B) → bind (given b a) (λ x. some (f x)) ≡ given b (f a)
given_one b a f = given_bound b a (λ x. some (f x))

given_two : {A B C : Type 0} (b c : Bool) (a : A) (d : B) (f : A → B → C) → bind (given b a) (λ x. bind (given c d) (λ y. some (f x y))) ≡ given (b && c) (f a d)
given_two b c a d f = given_then b c a (some (f a d)) (λ x. bind (given c d) (λ y. some (f x y))) (given_one c d (f a))

-- of a record: behind a first test, four parts of which a last is made
pub given_four : {A B C D E : Type 0} (t p q v w : Bool) (a : A) (b : B) (c : C) (d : D) (f : A → B → C → D → Option E)
    → cond t (bind (given p a) (λ x. bind (given q b) (λ y. bind (given v c) (λ z. bind (given w d) (f x y z))))) none ≡ cond (t && (p && (q && (v && w)))) (f a b c d) none
unfolding bind
given_four true true true true w a b c d f = given_bound w d (f a b c)
given_four true true true false w a b c d f = refl
given_four true true false v w a b c d f = refl
given_four true false q v w a b c d f = refl
given_four false p q v w a b c d f = refl

module _ (m : List ℕ) where
  abbrev pub option_in : Optional Span → Option (List ℕ)
  option_in None = none
  option_in (Some s) = some (string_octets m s)

  abbrev pub code_in : CodeField → Code (List ℕ)
  code_in (CodeField.Local z) = local z
  code_in (CodeField.Global s) = global (string_octets m s)

  abbrev pub both_in : Optional (CodeField × Span) → Option (Code (List ℕ) × List ℕ)
  both_in None = none
  both_in (Some (c, p)) = some (code_in c, string_octets m p)

  -- where a null may not stand its value does not matter
  abbrev pub id_in : Optional ℤ → ℤ
  id_in None = pos 0
  id_in (Some i) = i

  abbrev pub row_in : Optional ℤ → ComponentKind → Component (List ℕ)
  row_in i (ComponentKind.Invoke l c p) = invoke (id_in i) (linked_means m l) (code_in c) (option_in p)
  row_in i (ComponentKind.ResultLast r) = last (id_in i) (both_in r)
  row_in i (ComponentKind.ResultNotLast r) = not_last (id_in i) (both_in r)
  row_in i (ComponentKind.ReturnError c p) = error (id_in i) (code_in c) (option_in p)
  row_in i (ComponentKind.Reject q) = reject (id_means m i) q

  abbrev pub rows_in : List Row → List (Component (List ℕ))
  rows_in rs = map (λ w. row_in w.id w.kind) rs

  abbrev pub ending_in : DialogueField → Ending (List ℕ)
  ending_in DialogueField.NoDialogue = silent
  ending_in (DialogueField.Cause n) = cause n
  ending_in (DialogueField.Request n u) = says (request (string_octets m n) (option_in u))
  ending_in (DialogueField.Response n r s u) = says (response (string_octets m n) r s (option_in u))
  ending_in (DialogueField.DialogueAbort r u) = says (aborted r (option_in u))
  ending_in (DialogueField.Unidialogue n u) = says (unidialogue (string_octets m n) (option_in u))
  ending_in (DialogueField.OutsideElement n e) = says (single (string_octets m n) (string_octets m e))
  ending_in (DialogueField.OutsideOctets n c) = says (octets (string_octets m n) (string_octets m c))

  abbrev pub orig_in : Optional OrigTransactionId → Option (Originating (List ℕ))
  orig_in None = none
  orig_in (Some o) = some (orig (string_octets m o.0.octets))

  abbrev pub dest_in : Optional DestTransactionId → Option (Destination (List ℕ))
  dest_in None = none
  dest_in (Some e) = some (dest (string_octets m e.0.octets))

  -- The laws: a part means its value exactly if its strings lie within the material, and otherwise nothing

  span_means_lem : (s : Span) → octets_at m s ≡ given (lies (length m) s) (string_octets m s)
  unfolding lies string_octets
  span_means_lem s = refl

  option_means : (u : Optional Span) → span_means m u ≡ given (option_lies (length m) u) (option_in u)
  unfolding option_lies
  option_means None = refl
  option_means (Some s) = rw (span_means_lem s) (given_one (lies (length m) s) (string_octets m s) some)

  code_means_lem : (c : CodeField) → code_means m c ≡ given (code_lies (length m) c) (code_in c)
  unfolding code_lies
  code_means_lem (CodeField.Local z) = refl
  code_means_lem (CodeField.Global s) = rw (span_means_lem s) (given_one (lies (length m) s) (string_octets m s) global)

  both_means_lem : (r : Optional (CodeField × Span)) → both_means m r ≡ given (returned_lies (length m) r) (both_in r)
  unfolding returned_lies
  both_means_lem None = refl
  both_means_lem (Some (c, p)) = rw (code_means_lem c, span_means_lem p) (given_two (code_lies (length m) c) (lies (length m) p) (code_in c) (string_octets m p) (λ c p. some (c, p)))

  id_means_lem : (i : Optional ℤ) → id_means m i ≡ given (id_there i) (id_in i)
  unfolding id_there
  id_means_lem None = refl
  id_means_lem (Some i) = refl

  row_means_lem : (i : Optional ℤ) (k : ComponentKind) → row_means m i k ≡ given (row_parts_fit i k && row_lies (length m) k) (row_in i k)
  unfolding row_parts_fit row_lies
  row_means_lem i (ComponentKind.Invoke l c p) =
      rw (id_means_lem i, code_means_lem c, option_means p) (given_then (id_there i) _ (id_in i) _ _ (given_two (code_lies (length m) c) (option_lies (length m) p) (code_in c) (option_in p) (invoke (id_in i) (linked_means m l))))
  row_means_lem i (ComponentKind.ResultLast r) = rw (id_means_lem i, both_means_lem r) (given_two (id_there i) (returned_lies (length m) r) (id_in i) (both_in r) last)
  row_means_lem i (ComponentKind.ResultNotLast r) = rw (id_means_lem i, both_means_lem r) (given_two (id_there i) (returned_lies (length m) r) (id_in i) (both_in r) not_last)
  row_means_lem i (ComponentKind.ReturnError c p) =
      rw (id_means_lem i, code_means_lem c, option_means p) (given_then (id_there i) _ (id_in i) _ _ (given_two (code_lies (length m) c) (option_lies (length m) p) (code_in c) (option_in p) (error (id_in i))))
  row_means_lem i (ComponentKind.Reject q) = refl

  abbrev pub row_there : Row → Bool
  row_there w = row_parts_fit w.id w.kind && row_lies (length m) w.kind

  pub rows_mean_lem : (rs : List Row) → rows_mean m rs ≡ given (every row_there rs) (rows_in rs)
  unfolding rows_mean every
  rows_mean_lem [] = refl
  rows_mean_lem (w ∷ rs) = rw (row_means_lem w.id w.kind, rows_mean_lem rs) (given_two (row_there w) (every row_there rs) (row_in w.id w.kind) (rows_in rs) ◌∷◌)

  named_means : (n : Span) (u : Optional Span) (f : List ℕ → Option (List ℕ) → Dialogue (List ℕ)) → named m n u f ≡ given (lies (length m) n && option_lies (length m) u) (says (f (string_octets m n) (option_in u)))
  named_means n u f = rw (span_means_lem n, option_means u) (given_two (lies (length m) n) (option_lies (length m) u) (string_octets m n) (option_in u) (λ n u. says (f n u)))

  outside_means : (n s : Span) (f : List ℕ → List ℕ → Dialogue (List ℕ)) → bind (octets_at m n) (λ n. bind (octets_at m s) (λ c. some (says (f n c)))) ≡ given (lies (length m) n && lies (length m) s) (says (f (string_octets m n) (string_octets m s)))
  outside_means n s f = rw (span_means_lem n, span_means_lem s) (given_two (lies (length m) n) (lies (length m) s) (string_octets m n) (string_octets m s) (λ n c. says (f n c)))

  pub ending_means_lem : (d : DialogueField) → ending_means m d ≡ given (dialogue_lies (length m) d) (ending_in d)
  unfolding dialogue_lies
  ending_means_lem DialogueField.NoDialogue = refl
  ending_means_lem (DialogueField.Cause n) = refl
  ending_means_lem (DialogueField.Request n u) = named_means n u request
  ending_means_lem (DialogueField.Response n r s u) = named_means n u (λ n u. response n r s u)
  ending_means_lem (DialogueField.DialogueAbort r u) = rw (option_means u) (given_one (option_lies (length m) u) (option_in u) (λ u. says (aborted r u)))
  ending_means_lem (DialogueField.Unidialogue n u) = named_means n u unidialogue
  ending_means_lem (DialogueField.OutsideElement n e) = outside_means n e single
  ending_means_lem (DialogueField.OutsideOctets n c) = outside_means n c octets

  pub orig_means_lem : (o : Optional OrigTransactionId) → orig_means m o ≡ given (orig_lies (length m) o) (orig_in o)
  unfolding orig_lies
  orig_means_lem None = refl
  orig_means_lem (Some o) = rw (span_means_lem o.0.octets) (given_one (lies (length m) o.0.octets) (string_octets m o.0.octets) (λ c. some (orig c)))

  pub dest_means_lem : (e : Optional DestTransactionId) → dest_means m e ≡ given (dest_lies (length m) e) (dest_in e)
  unfolding dest_lies
  dest_means_lem None = refl
  dest_means_lem (Some e) = rw (span_means_lem e.0.octets) (given_one (lies (length m) e.0.octets) (string_octets m e.0.octets) (λ c. some (dest c)))
