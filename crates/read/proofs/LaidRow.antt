-- A component laid out in zeros is the octets of its row. Assumes nothing.
use Prim.Native.Nat.{ℕ, zero, suc, ◌+◌, ◌-◌, ◌*◌, ◌/◌, ◌%◌, ◌≤◌}
use native.Mathlib.Omega.{arith}
use mathlib.Core.Path.{◌≡◌, refl, sym, ap, ◌∙◌}
use mathlib.Core.List.{List, [], ◌∷◌, ◌++◌, map, append_assoc, append-nil}
use mathlib.Core.Option.{Option, none, some}
use lib.ListN.{length, drop, replicate, length-append}
use lib.Seq.{take_at, drop_at}
use lib.IntN.{ℤ}
use Rattle.base.specs.Number.{octets_in, top_of, bits_at}
use Rattle.base.specs.Value.{Every}
use Rattle.base.proofs.Values.{every_parts}
use Rattle.element.specs.Fault.{Text}
use Rattle.tcap.specs.declared.{Span.Span, Problem.Problem, Row.Row}
use Rattle.tcap.specs.Meaning.{Code, local, global, Component, invoke, last, not_last, error, reject}
use Rattle.tcap.specs.Record.{span_of, span_field, id_field, linked_field, code_field, both_field, row_of}
use Rattle.tcap.proofs.Strings.{Strings, option_strings, whole, series_strings, code_strings, both_strings, component_strings}
use Rattle.layout.specs.Layout.{span_octets, no_span, optional_flag, optional_span, id_flag, id_octet, linked_flag, linked_octet, code_tag, code_span, problem_tag, problem_number, ids_octets, parts_octets, coded_octets, returned_octets, problem_octets, kind_octets, row_octets, rows_octets}
use Rattle.layout.proofs.RoundTrip.{rows_length}
use Rattle.read_place.specs.Laying.{lay_text, lay_id, lay_reject_id, lay_linked, lay_code, lay_element, lay_parameter, lay_returned, lay_problem, lay_component, lay_row, lay_rows}

-- a place and a length whose upper two octets are 0
abbrev pub Small : Text → Type 0
Small t = (t.0 ≤ 65535) × (length t.1 ≤ 65535)

-- every string of some
abbrev pub AllSmall : Strings → Type 0
AllSmall l = Every (λ s. Small s.1) l

pub both_small : (a b : Strings) → AllSmall (a ++ b) → AllSmall a × AllSmall b
both_small = every_parts (λ s. Small s.1)

-- the upper two octets of each are 0
abbrev Uppers : ℕ → Type 0
Uppers n = (n / 256 / 256 / 256 % 256 ≡ 0) × (n / 256 / 256 % 256 ≡ 0)

uppers : (n : ℕ) → n ≤ 65535 → Uppers n
uppers n h = (omega arith, omega arith)

pub text_uppers : (t : Text) → Small t → Uppers t.0 × Uppers (length t.1)
text_uppers t s = (uppers t.0 s.0, uppers (length t.1) s.1)

-- Each field, where it stands in a row

id_laid : (a : ℕ) (i : Option ℤ) (r : List ℕ) → lay_reject_id i (a ∷ 0 ∷ 0 ∷ r) ≡ a ∷ id_flag (id_field i) ∷ id_octet (id_field i) ∷ r
unfolding lay_reject_id lay_id id_flag id_octet
id_laid a none r = refl
id_laid a (some i) r = refl

module _ (a b c d e : ℕ) where
  linked_laid : (k : Option ℤ) (r : List ℕ) → lay_linked k (a ∷ b ∷ c ∷ 0 ∷ 0 ∷ r) ≡ a ∷ b ∷ c ∷ linked_flag (linked_field k) ∷ linked_octet (linked_field k) ∷ r
  unfolding lay_linked linked_flag linked_octet
  linked_laid none r = refl
  linked_laid (some i) r = refl

  code_laid : (v : Code Text) → AllSmall (code_strings v) → (r : List ℕ) → lay_code v (a ∷ b ∷ c ∷ d ∷ e ∷ 0 ∷ 0 ∷ 0 ∷ span_octets no_span ++ r) ≡ a ∷ b ∷ c ∷ d ∷ e ∷ code_tag (code_field v) ∷ 0 ∷ 0 ∷ span_octets (code_span (code_field v)) ++ r
  unfolding lay_code lay_text span_octets octets_in code_tag code_span Every
  code_laid (local z) s r = refl
  code_laid (global t) s r = let ((w, x), (y, z)) = text_uppers t s.0 in rw (w, x, y, z)

  element_laid : (g : ℕ) (k : Span) (t : Text) → Small t → lay_element t (a ∷ b ∷ c ∷ d ∷ e ∷ g ∷ 0 ∷ 0 ∷ span_octets k ++ span_octets no_span) ≡ a ∷ b ∷ c ∷ d ∷ e ∷ g ∷ 1 ∷ 0 ∷ span_octets k ++ span_octets (span_of t)
  unfolding lay_element lay_text span_octets octets_in
  element_laid g k t s = let ((w, x), (y, z)) = text_uppers t s in rw (w, x, y, z)

  coded_laid : (v : Code Text) (p : Option Text) → AllSmall (code_strings v ++ option_strings whole p) → lay_parameter p (lay_code v (a ∷ b ∷ c ∷ d ∷ e ∷ parts_octets 0 0 0 no_span no_span)) ≡ a ∷ b ∷ c ∷ d ∷ e ∷ coded_octets (code_field v) (span_field p)
  unfolding lay_parameter coded_octets parts_octets optional_flag optional_span Every
  coded_laid v none s = let (k, e) = both_small (code_strings v) [] s in code_laid v k (span_octets no_span)
  coded_laid v (some t) s = let (k, e) = both_small (code_strings v) (whole t) s in rw (code_laid v k (span_octets no_span)) (element_laid (code_tag (code_field v)) (code_span (code_field v)) t e.0)

  returned_laid : (r : Option (Code Text × Text)) → AllSmall (option_strings both_strings r) → lay_returned r (a ∷ b ∷ c ∷ d ∷ e ∷ parts_octets 0 0 0 no_span no_span) ≡ a ∷ b ∷ c ∷ d ∷ e ∷ returned_octets (both_field r)
  unfolding lay_returned returned_octets lay_parameter
  returned_laid none s = refl
  returned_laid (some (v, t)) s = coded_laid v (some t) s

  problem_laid : (q : Problem) → lay_problem q (a ∷ b ∷ c ∷ d ∷ e ∷ parts_octets 0 0 0 no_span no_span) ≡ a ∷ b ∷ c ∷ d ∷ e ∷ problem_octets q
  unfolding lay_problem problem_octets parts_octets problem_tag problem_number
  problem_laid (Problem.General n) = refl
  problem_laid (Problem.OfInvoke n) = refl
  problem_laid (Problem.OfResult n) = refl
  problem_laid (Problem.OfError n) = refl

abbrev bits : ℤ → ℕ
bits i = bits_at (top_of 1) i

pub component_laid : (c : Component Text) → AllSmall (component_strings c) → lay_component c (replicate 24 0) ≡ row_octets (row_of c)
unfolding lay_component row_octets kind_octets ids_octets lay_id id_flag id_octet linked_flag linked_octet parts_octets span_octets octets_in
component_laid (invoke i k v p) s =
    rw (linked_laid 0xA1 1 (bits i) 0 0 k (parts_octets 0 0 0 no_span no_span)) (coded_laid 0xA1 1 (bits i) (linked_flag (linked_field k)) (linked_octet (linked_field k)) v p s)
component_laid (last i r) s = returned_laid 0xA2 1 (bits i) 0 0 r s
component_laid (not_last i r) s = returned_laid 0xA7 1 (bits i) 0 0 r s
component_laid (error i v p) s = coded_laid 0xA3 1 (bits i) 0 0 v p s
component_laid (reject i q) s = rw (id_laid 0xA4 i (0 ∷ 0 ∷ parts_octets 0 0 0 no_span no_span)) (problem_laid 0xA4 (id_flag (id_field i)) (id_octet (id_field i)) 0 0 q)

-- Rows one behind the other

unfoldable pub blanks : ℕ → List ℕ
blanks zero = []
blanks (suc n) = replicate 24 0 ++ blanks n

row_long : (r : Row) → length (row_octets r) ≡ 24
unfolding rows_octets
row_long r = omega (arith, length-append (row_octets r) [], rows_length (r ∷ []))

row_laid : (k : ℕ) (c : Component Text) (n : ℕ) (front : List ℕ) → length front ≡ 44 + 24 * k → AllSmall (component_strings c) → lay_row k c (front ++ blanks (suc n)) ≡ (front ++ row_octets (row_of c)) ++ blanks n
unfolding lay_row blanks
row_laid k c n front e s =
    let z : length (front ++ replicate 24 0) ≡ 68 + 24 * k = omega (arith, length-append front (replicate 24 0)) in
    let d : drop (68 + 24 * k) (front ++ (replicate 24 0 ++ blanks n)) ≡ blanks n = ap (drop (68 + 24 * k)) (sym (append_assoc front (replicate 24 0) (blanks n))) ∙ drop_at (front ++ replicate 24 0) (blanks n) (68 + 24 * k) z in
    rw (take_at front (replicate 24 0 ++ blanks n) (44 + 24 * k) e, drop_at front (replicate 24 0 ++ blanks n) (44 + 24 * k) e, d, component_laid c s)

pub rows_laid : (cs : List (Component Text)) (k n : ℕ) (front : List ℕ) → length front ≡ 44 + 24 * k → length cs ≤ n → AllSmall (series_strings component_strings cs) → lay_rows k cs (front ++ blanks n) ≡ front ++ rows_octets (map row_of cs) ++ blanks (n - length cs)
unfolding lay_rows rows_octets series_strings
rows_laid [] k n front e l s = let z : n - 0 ≡ n = omega arith in rw (z, append-nil)
rows_laid (c ∷ cs) k zero front e l s = absurd (omega (arith, l))
rows_laid (c ∷ cs) k (suc n) front e l s =
    let f : length (front ++ row_octets (row_of c)) ≡ 44 + 24 * suc k = omega (arith, length-append front (row_octets (row_of c)), row_long (row_of c)) in
    let z : suc n - suc (length cs) ≡ n - length cs = omega arith in
    let (here, rest) = both_small (component_strings c) (series_strings component_strings cs) s in
    rw (row_laid k c n front e here, rows_laid cs (suc k) n (front ++ row_octets (row_of c)) f (omega (arith, l)) rest, z, append_assoc front (row_octets (row_of c)) (rows_octets (map row_of cs)))
