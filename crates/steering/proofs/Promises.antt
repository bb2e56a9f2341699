-- What steering promises beside its equation: which rule is the first that fits, which rules fit nothing, and that a message is steered by what it means.
-- Assumes nothing.
use Rattle.std.specs.Prelude.{ℤ, Option as Optional, Some, None, Result, Ok, Err, ⊤}
use Prim.Native.Nat.{ℕ, ◌<◌}
use native.Mathlib.Omega.{arith}
use mathlib.Core.Path.{◌≡◌, refl, ap}
use mathlib.Core.Logic.{◌↔◌}
use mathlib.Core.Bool.{Bool, true, false}
use mathlib.Core.List.{List, [], ◌∷◌, ◌++◌, map}
use mathlib.Core.Option.{some}
use lib.ListN.{length, get_or, replicate}
use borrow.Author.Tests.{ne_eqb, lt-leb}
use Rattle.base.specs.Value.{Every}
use Rattle.element.specs.Fault.{Text}
use Rattle.element.specs.Ask.{got}
use Rattle.tcap.specs.declared.{MessageKind.MessageKind, Record.Record, Refusal.Refusal}
use Rattle.tcap.specs.Meaning.{local, global, Component, invoke, last, not_last, error, reject, Message, unidirectional, begin, finish, continue, abort, Meaning}
use Rattle.tcap.specs.WellFormed.{the93, Reads}
use Rattle.tcap.specs.Record.{row_of, blank_row, record_of, message_tag}
use Rattle.tcap.specs.Reading.{located_up_to, answered, reading_up_to, reading, outcome_of, handed_back}
use Rattle.tcap.proofs.Strings.{octets_of, component_as, forget}
use Rattle.tcap.proofs.Promises.{reads_located}
use Rattle.steering.specs.declared.{Rule.Rule, Key.Key}
use Rattle.steering.specs.Steering.{local_of, invoked, first_of, key_of, keyed, any_kind, kind_fits, rule_fits, first_fit, steered_by, steering, link_of, refusal_of}
use Rattle.steering.specs.Layout.{no_kind, kind_in, rule_of}
use Rattle.steering.specs.Meant.{tag_meant, invoke_meant, code_meant, first_meant}

-- The first rule that fits: those before it do not

module _ (tag : ℕ) (first : Optional ℤ) where
  abbrev pub Misses : Rule → Type 0
  Misses r = rule_fits r tag first ≡ false

  abbrev pub FirstGives : List Rule → ℕ → Type 0
  FirstGives rules n = (before : List Rule) × (rule : Rule) × (after : List Rule) × (rules ≡ before ++ rule ∷ after) × Every Misses before × (rule_fits rule tag first ≡ true) × (rule.link ≡ n)

  link_found : (rules : List Rule) (n : ℕ) → first_fit rules tag first ≡ Some n → FirstGives rules n
  unfolding first_fit Every
  link_found [] n e = let z : ◌≡◌ {A = ℕ} 0 1 = cc in absurd (omega arith)
  link_found (r ∷ rs) n e = by_test (λ g. link_found rs n g) (rule_fits r tag first) refl
    where
      by_test : (first_fit rs tag first ≡ Some n → FirstGives rs n) → (b : Bool) → rule_fits r tag first ≡ b → FirstGives (r ∷ rs) n
      by_test step true t = let g : Some r.link ≡ Some n = (rw t at e) in ([], r, rs, refl, tt, t, cc)
      by_test step false t = let (b, x, a, s, o, f, l) = step (rw t at e) in (r ∷ b, x, a, ap (λ (q : List Rule). r ∷ q) s, (t, o), f, l)

  link_given : (rules : List Rule) (n : ℕ) → FirstGives rules n → first_fit rules tag first ≡ Some n
  unfolding first_fit Every
  link_given rules n ([], x, a, s, o, f, l) = rw (s, f, l)
  link_given rules n (b ∷ bs, x, a, s, o, f, l) = rw (s, o.0) (link_given (bs ++ x ∷ a) n (bs, x, a, refl, o.1, f, l))

  none_found : (rules : List Rule) → first_fit rules tag first ≡ None → Every Misses rules
  unfolding first_fit Every
  none_found [] e = tt
  none_found (r ∷ rs) e = by_test (λ g. none_found rs g) (rule_fits r tag first) refl
    where
      by_test : (first_fit rs tag first ≡ None → Every Misses rs) → (b : Bool) → rule_fits r tag first ≡ b → Misses r × Every Misses rs
      by_test step true t = let g : Some r.link ≡ None = (rw t at e) in let z : ◌≡◌ {A = ℕ} 0 1 = cc in absurd (omega arith)
      by_test step false t = (t, step (rw t at e))

  none_given : (rules : List Rule) → Every Misses rules → first_fit rules tag first ≡ None
  unfolding first_fit Every
  none_given [] o = refl
  none_given (r ∷ rs) o = rw o.0 (none_given rs o.1)

-- What the answer says of the message and the rules

link_at : (c : Optional ℕ) (n : ℕ) → (link_of (Ok c) ≡ some n) ↔ (c ≡ Some n)
unfolding link_of
link_at None n = (λ e. let z : ◌≡◌ {A = ℕ} 0 1 = cc in absurd (omega arith), λ e. let z : ◌≡◌ {A = ℕ} 0 1 = cc in absurd (omega arith))
link_at (Some k) n = (λ e. cc, λ e. cc)

none_at : (c : Optional ℕ) → (◌≡◌ {A = Result (Optional ℕ) Refusal} (Ok c) (Ok None)) ↔ (c ≡ None)
none_at c = (λ e. cc, λ e. cc)

refused : (f : Refusal) → ◌≡◌ {A = Result ⊤ Refusal} (Err f) (Ok tt) → ⊥
refused f e = let z : ◌≡◌ {A = ℕ} 0 1 = cc in absurd (omega arith)

module _ (rules : List Rule) where
  abbrev fit : Record → Optional ℕ
  fit r = first_fit rules (key_of r).tag (key_of r).first

  link_by : (r : Result Record Refusal) (n : ℕ) → (link_of (steered_by (keyed r) rules) ≡ some n) ↔ ((outcome_of r ≡ Ok tt) × (fit (handed_back r) ≡ Some n))
  unfolding keyed steered_by link_of
  link_by (Ok r) n = let by = link_at (fit r) n in (λ e. (refl, by.0 e), λ h. by.1 h.1)
  link_by (Err f) n = (λ e. let z : ◌≡◌ {A = ℕ} 0 1 = cc in absurd (omega arith), λ h. absurd (refused f h.0))

  none_by : (r : Result Record Refusal) → (steered_by (keyed r) rules ≡ Ok None) ↔ ((outcome_of r ≡ Ok tt) × (fit (handed_back r) ≡ None))
  unfolding keyed steered_by
  none_by (Ok r) = let by = none_at (fit r) in (λ e. (refl, by.0 e), λ h. by.1 h.1)
  none_by (Err f) = (λ e. let z : ◌≡◌ {A = ℕ} 0 1 = cc in absurd (omega arith), λ h. absurd (refused f h.0))

  refused_by : (r : Result Record Refusal) (f : Refusal) → (refusal_of (steered_by (keyed r) rules) ≡ some f) ↔ (outcome_of r ≡ Err f)
  unfolding keyed steered_by refusal_of
  refused_by (Ok r) f = (λ e. let z : ◌≡◌ {A = ℕ} 0 1 = cc in absurd (omega arith), λ h. let z : ◌≡◌ {A = ℕ} 0 1 = cc in absurd (omega arith))
  refused_by (Err g) f = (λ e. cc, λ h. cc)

module _ (m : List ℕ) (rules : List Rule) where
  abbrev key : Key
  key = key_of (handed_back (reading m))

  -- the message is read, and the first rule that fits it gives the link
  pub steered_link : (n : ℕ) → (link_of (steering m rules) ≡ some n) ↔ ((outcome_of (reading m) ≡ Ok tt) × FirstGives key.tag key.first rules n)
  unfolding steering
  steered_link n =
      let by = link_by rules (reading m) n in
      (λ e. ((by.0 e).0, link_found key.tag key.first rules n (by.0 e).1), λ h. by.1 (h.0, link_given key.tag key.first rules n h.1))

  -- it is read, and none fits it
  pub steered_none : (steering m rules ≡ Ok None) ↔ ((outcome_of (reading m) ≡ Ok tt) × Every (Misses key.tag key.first) rules)
  unfolding steering
  steered_none =
      let by = none_by rules (reading m) in
      (λ e. ((by.0 e).0, none_found key.tag key.first rules (by.0 e).1), λ h. by.1 (h.0, none_given key.tag key.first rules h.1))

  -- the reader refuses it, whatever the rules
  pub steered_refused : (f : Refusal) → (refusal_of (steering m rules) ≡ some f) ↔ (outcome_of (reading m) ≡ Err f)
  unfolding steering
  steered_refused f = refused_by rules (reading m) f

-- Rules that fit nothing: a kind that is neither any nor one of the five, and so octets that are no rule

abbrev pub Strange : ℕ → Type 0
Strange asked = (asked ≡ any_kind → ⊥) × ((kind : MessageKind) → asked ≡ message_tag kind → ⊥)

pub strange_misses : (rule : Rule) → Strange rule.kind → (kind : MessageKind) (first : Optional ℤ) → rule_fits rule (message_tag kind) first ≡ false
unfolding rule_fits kind_fits
strange_misses rule s kind first = rw (ne_eqb rule.kind any_kind s.0, ne_eqb rule.kind (message_tag kind) (s.1 kind))

no_kind_lem : (kind : MessageKind) → no_kind ≡ message_tag kind → ⊥
no_kind_lem MessageKind.Unidirectional e = omega (arith, e)
no_kind_lem MessageKind.Begin e = omega (arith, e)
no_kind_lem MessageKind.End e = omega (arith, e)
no_kind_lem MessageKind.Continue e = omega (arith, e)
no_kind_lem MessageKind.Abort e = omega (arith, e)

no_rule_strange : (kind flag : ℕ) → 1 < flag → Strange (kind_in kind flag)
unfolding kind_in
no_rule_strange kind flag l = rw (lt-leb flag 1 l) (λ e. omega (arith, e), no_kind_lem)

pub no_rule_misses : (octets : List ℕ) → 1 < get_or octets 1 0 → (kind : MessageKind) (first : Optional ℤ) → rule_fits (rule_of octets) (message_tag kind) first ≡ false
unfolding rule_of
no_rule_misses octets h = strange_misses (rule_of octets) (no_rule_strange (get_or octets 0 0) (get_or octets 1 0) h)

-- A message is steered by what it means

row_first : (c : Component Text) → invoked (row_of c).kind ≡ invoke_meant c
unfolding invoked local_of
row_first (invoke i l (local z) p) = refl
row_first (invoke i l (global s) p) = refl
row_first (last i r) = refl
row_first (not_last i r) = refl
row_first (error i c p) = refl
row_first (reject i q) = refl

rows_first : (cs : List (Component Text)) (n : ℕ) → first_of (length cs) (get_or (map row_of cs ++ replicate n blank_row) 0 blank_row).kind ≡ code_meant cs
unfolding first_of
rows_first [] n = refl
rows_first (c ∷ cs) n = rw (ne_eqb (length (c ∷ cs)) 0 (λ e. omega (arith, e))) (row_first c)

key_meant : (v : Message Text) → key_of (record_of v) ≡ record { tag = tag_meant v; first = first_meant v }
unfolding key_of record_of
key_meant (unidirectional d cs) = rw (rows_first cs _)
key_meant (begin o d cs) = rw (rows_first cs _)
key_meant (finish e d cs) = rw (rows_first cs _)
key_meant (continue o e d cs) = rw (rows_first cs _)
key_meant (abort e s) = rw (rows_first [] _)

code_kept : (c : Component Text) → invoke_meant c ≡ invoke_meant (component_as octets_of c)
code_kept (invoke i l (local z) p) = refl
code_kept (invoke i l (global s) p) = refl
code_kept (last i r) = refl
code_kept (not_last i r) = refl
code_kept (error i c p) = refl
code_kept (reject i q) = refl

codes_kept : (cs : List (Component Text)) → code_meant cs ≡ code_meant (map (component_as octets_of) cs)
codes_kept [] = refl
codes_kept (c ∷ cs) = code_kept c

tag_kept : (v : Message Text) → tag_meant v ≡ tag_meant (forget v)
tag_kept (unidirectional d cs) = refl
tag_kept (begin o d cs) = refl
tag_kept (finish e d cs) = refl
tag_kept (continue o e d cs) = refl
tag_kept (abort e s) = refl

first_kept : (v : Message Text) → first_meant v ≡ first_meant (forget v)
first_kept (unidirectional d cs) = codes_kept cs
first_kept (begin o d cs) = codes_kept cs
first_kept (finish e d cs) = codes_kept cs
first_kept (continue o e d cs) = codes_kept cs
first_kept (abort e s) = refl

read_is : (m : List ℕ) (v : Message Text) (n : ℕ) → located_up_to the93 m ≡ got v n → reading m ≡ Ok (record_of v)
unfolding reading reading_up_to answered
read_is m v n e = rw e

pub steered_by_meaning : (m : List ℕ) (μ : Meaning) → Reads m μ → (rules : List Rule) → steering m rules ≡ Ok (first_fit rules (tag_meant μ) (first_meant μ))
unfolding steering steered_by keyed
steered_by_meaning m μ r rules =
    let (v, e, f) = reads_located the93 (omega arith) m μ r in
    rw (read_is m v (length m) e, key_meant v, tag_kept v, first_kept v, f)
