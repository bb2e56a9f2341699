-- What is told of a part of a record: that it may be written, with its size, or the worst that is wrong with it; cited by inner contracts.
-- Assumes nothing: these are definitions.
use Rattle.std.specs.Prelude.{Option as Optional, Some, None, Result, Ok, Err}
use Rattle.std.specs.Prelude.{ℕ, suc, ◌+◌, min}
use mathlib.Core.{Bool.Bool, Bool.true, Bool.cond, Bool.◌&&◌, List.List}
use lib.{ListN.length, Dec.leb, Dec.ltb}
use Rattle.element.specs.{Form.Form, Form.then, Form.series_form, Form.length_octets, Form.shortest, Form.document01}
use Rattle.tcap.specs.{declared.Span.Span, declared.Code.Code, declared.Problem.Problem, declared.ComponentKind.ComponentKind, declared.Row.Row, Meaning.problem_form, WellFormed.most_octets}
use Rattle.write_check_row.specs.{declared.Wrong.Wrong, declared.TheConstants.Wrong.UNSHAPED, declared.TheConstants.Wrong.OUT_OF_MATERIAL, declared.TheConstants.Wrong.OUT_OF_RANGE, declared.TheConstants.Wrong.WRONG_PARTS, Forms.code_form, Forms.parameter_form, Forms.returned_form, Forms.rest_form, Forms.row_form}
use Rattle.tcap.specs.Verdict.{every, row_parts_fit, ranges, name_ranges, code_ranges, problem_ranges, returned_ranges, row_ranges, lies, option_lies, code_lies, returned_lies, row_lies, is_element, is_series, string_octets, name_shaped, parameter_shaped, code_shaped, returned_shaped, row_shaped}

-- the size of a part that may be written, capped, or the worst that is wrong with it
abbrev pub Judged : Type 0
Judged = Result ℕ Wrong

-- the order of document 01: 24 (4) before 23 (3), 21 (2) and 22 (1)
abbrev pub rank : Wrong → ℕ
rank k = k.0

abbrev pub worse : Wrong → Wrong → Wrong
worse k l = cond (ltb (rank k) (rank l)) l k

-- the worst of a part by the four tests, or nothing
unfoldable pub rank_of : Bool → Bool → Bool → Bool → Optional Wrong
rank_of parts ranges lies shaped = cond parts (cond ranges (cond lies (cond shaped None (Some UNSHAPED)) (Some OUT_OF_MATERIAL)) (Some OUT_OF_RANGE)) (Some WRONG_PARTS)

-- sizes above the most octets are all alike: no such message may be written
abbrev pub size_cap : ℕ
size_cap = suc most_octets

unfoldable pub judged : Optional Wrong → ℕ → Judged
judged None size = Ok (min size size_cap)
judged (Some k) size = Err k

-- a part as octets say it: an octet that chooses and is not listed is a wrong part, 24
abbrev pub listed : Bool → Judged → Judged
listed b j = cond b j (Err WRONG_PARTS)

-- two parts, one after the other
unfoldable pub joined : Judged → Judged → Judged
joined (Ok a) (Ok b) = Ok (min (a + b) size_cap)
joined (Ok a) (Err l) = Err l
joined (Err k) (Ok b) = Err k
joined (Err k) (Err l) = Err (worse k l)

-- the size of an element with a tag of one octet, by that of its contents
unfoldable pub whole_size : ℕ → ℕ
whole_size n = suc (length (length_octets n) + n)

unfoldable pub wrapped : Judged → Judged
wrapped (Ok n) = Ok (min (whole_size n) size_cap)
wrapped (Err k) = Err k

abbrev pub size_of : Form → ℕ
size_of f = length (shortest document01 f)

-- one octet of 0 to `most`
abbrev pub octet_judged : ℕ → ℕ → Judged
octet_judged x most = judged (rank_of true (leb x most) true true) 3

abbrev pub problem_judged : Problem → Judged
problem_judged q = judged (rank_of true (problem_ranges q) true true) (size_of (problem_form q))

module _ (m : List ℕ) where
  -- octets of any kind; of 1 to `most`; an object identifier; one element; a series of 28
  abbrev pub octets_judged : Span → Judged
  octets_judged s = judged (rank_of true true (lies (length m) s) true) (length (string_octets m s))

  abbrev pub sized_judged : ℕ → Span → Judged
  sized_judged most s = judged (rank_of true (ranges 1 most s.len) (lies (length m) s) true) (length (string_octets m s))

  abbrev pub name_judged : Span → Judged
  name_judged s = judged (rank_of true (name_ranges s) (lies (length m) s) (name_shaped m s)) (length (string_octets m s))

  abbrev pub element_judged : ℕ → Span → Judged
  element_judged left s = judged (rank_of true true (lies (length m) s) (is_element left (string_octets m s))) (length (string_octets m s))

  abbrev pub series_judged : ℕ → Span → Judged
  series_judged left s = judged (rank_of true true (lies (length m) s) (is_series left (string_octets m s))) (length (string_octets m s))

  abbrev pub code_judged : Code → Judged
  code_judged c = judged (rank_of true (code_ranges c) (code_lies (length m) c) (code_shaped m c)) (size_of (code_form m c))

  abbrev pub parameter_judged : Optional Span → Judged
  parameter_judged p = judged (rank_of true true (option_lies (length m) p) (parameter_shaped m p)) (size_of (parameter_form m p))

  abbrev pub coded_judged : Code → Optional Span → Judged
  coded_judged c p = judged (rank_of true (code_ranges c) (code_lies (length m) c && option_lies (length m) p) (code_shaped m c && parameter_shaped m p)) (size_of (then (code_form m c) (parameter_form m p)))

  abbrev pub returned_judged : Optional (Code × Span) → Judged
  returned_judged r = judged (rank_of true (returned_ranges r) (returned_lies (length m) r) (returned_shaped m r)) (size_of (returned_form m r))

  abbrev pub rest_judged : ComponentKind → Judged
  rest_judged k = judged (rank_of true (row_ranges k) (row_lies (length m) k) (row_shaped m k)) (size_of (rest_form m k))

  abbrev pub row_judged : Row → Judged
  row_judged r = judged (rank_of (row_parts_fit r.id r.kind) (row_ranges r.kind) (row_lies (length m) r.kind) (row_shaped m r.kind)) (size_of (row_form m r))

  -- all of them, one after the other
  unfoldable pub rows_rank : List Row → Optional Wrong
  rows_rank rs = rank_of (every (λ w. row_parts_fit w.id w.kind) rs) (every (λ w. row_ranges w.kind) rs) (every (λ w. row_lies (length m) w.kind) rs) (every (λ w. row_shaped m w.kind) rs)

  abbrev pub rows_judged : List Row → Judged
  rows_judged rs = judged (rows_rank rs) (size_of (series_form (row_form m) rs))
