-- How the judgements of parts are put together, and what the forms' sizes are. Assumes nothing.
use Rattle.std.specs.Prelude.{Option as Optional, Some, None, Ok, Err}
use Prim.Native.Nat.{ℕ, suc, ◌+◌, ◌≤◌, ◌<◌, min}
use native.Mathlib.Omega.{arith}
use mathlib.Core.Path.{◌≡◌, refl, sym, ap, ◌∙◌}
use mathlib.Core.Logic.{inl, inr}
use mathlib.Core.Bool.{Bool, true, false, ◌&&◌, and-true}
use mathlib.Core.List.{List}
use lib.ListN.{length, length-append}
use lib.Dec.{ltb}
use borrow.Author.Tests.{lt-ltb, ltb-true, ltb-false}
use Rattle.element.specs.Form.{Form, exactly, then, leaf, around, shortest, document01, StandsFor, length_octets}
use Rattle.element.proofs.Shortest.{document01_laws}
use Rattle.write_check_row.specs.declared.Wrong.{Wrong}
use Rattle.write_check_row.specs.declared.TheConstants.Wrong.{UNSHAPED}
use Rattle.write_check_row.specs.Judged.{worse, rank_of, size_cap, judged, joined, whole_size, wrapped, size_of}

-- the worse of two, or of one and nothing

abbrev pub worst : Optional Wrong → Optional Wrong → Optional Wrong
worst None l = l
worst (Some k) None = Some k
worst (Some k) (Some l) = Some (worse k l)

module _ (p v s h p' v' s' h' : Bool) where
  rank_both : worst (rank_of p v s h) (rank_of p' v' s' h') ≡ rank_of (p && p') (v && v') (s && s') (h && h')
  unfolding rank_of
  rank_both = by p v s h p' v' s' h'
    where
      by : (p v s h p' v' s' h' : Bool) → worst (rank_of p v s h) (rank_of p' v' s' h') ≡ rank_of (p && p') (v && v') (s && s') (h && h')
      by true true true true p' v' s' h' = refl
      by true true true false true true true true = refl
      by true true true false true true true false = refl
      by true true true false true true false h' = refl
      by true true true false true false s' h' = refl
      by true true true false false v' s' h' = refl
      by true true false h true true true true = refl
      by true true false h true true true false = refl
      by true true false h true true false h' = refl
      by true true false h true false s' h' = refl
      by true true false h false v' s' h' = refl
      by true false s h true true true true = refl
      by true false s h true true true false = refl
      by true false s h true true false h' = refl
      by true false s h true false s' h' = refl
      by true false s h false v' s' h' = refl
      by false v s h true true true true = refl
      by false v s h true true true false = refl
      by false v s h true true false h' = refl
      by false v s h true false s' h' = refl
      by false v s h false v' s' h' = refl

pub joined_judged : (k l : Optional Wrong) (a b : ℕ) → joined (judged k a) (judged l b) ≡ judged (worst k l) (a + b)
unfolding judged joined
joined_judged None None a b = ap Ok (omega arith)
joined_judged None (Some l) a b = refl
joined_judged (Some k) None a b = refl
joined_judged (Some k) (Some l) a b = refl

-- two parts, one after the other
pub join : (p v s h p' v' s' h' : Bool) (a b : ℕ) → joined (judged (rank_of p v s h) a) (judged (rank_of p' v' s' h') b) ≡ judged (rank_of (p && p') (v && v') (s && s') (h && h')) (a + b)
join p v s h p' v' s' h' a b = joined_judged (rank_of p v s h) (rank_of p' v' s' h') a b ∙ ap (λ (k : Optional Wrong). judged k (a + b)) (rank_both p v s h p' v' s' h')

-- an element by its contents

pub size_short : (n : ℕ) → n < 128 → whole_size n ≡ n + 2
unfolding whole_size length_octets
size_short n h = rw (lt-ltb n 128 h) (omega arith)

pub size_long : (n : ℕ) → 128 ≤ n → n < 256 → whole_size n ≡ n + 3
unfolding whole_size StandsFor
size_long n h i = by (document01_laws.stands n (omega arith))
  where
    by : StandsFor (length_octets n) n → suc (length (length_octets n) + n) ≡ n + 3
    by (inl (j, e)) = absurd (omega arith)
    by (inr (ds, l)) = omega (arith, ap length l.octets, l.some, document01_laws.smaller n i)

pub size_over : (n : ℕ) → n < whole_size n
unfolding whole_size
size_over n = omega arith

pub size_most : (n : ℕ) → size_cap ≤ n + 3 → size_cap ≤ whole_size n
size_most n h = by (ltb n size_cap) refl
  where
    by : (b : Bool) → ltb n size_cap ≡ b → size_cap ≤ whole_size n
    by true e = omega (arith, size_long n (omega arith) (ltb-true n size_cap e))
    by false e = omega (arith, size_over n, ltb-false n size_cap e)

size_capped : (n : ℕ) → min (whole_size (min n size_cap)) size_cap ≡ min (whole_size n) size_cap
size_capped n = by (ltb n size_cap) refl
  where
    by : (b : Bool) → ltb n size_cap ≡ b → min (whole_size (min n size_cap)) size_cap ≡ min (whole_size n) size_cap
    by true e =
        let h = ltb-true n size_cap e in
        let i : min n size_cap ≡ n = omega arith in
        rw i
    by false e =
        let h = ltb-false n size_cap e in
        let i : min n size_cap ≡ size_cap = omega arith in
        rw i (omega (arith, size_over n, size_over size_cap))

pub wrap : (k : Optional Wrong) (n : ℕ) → wrapped (judged k n) ≡ judged k (whole_size n)
unfolding judged wrapped
wrap None n = ap Ok (size_capped n)
wrap (Some k) n = refl

-- sizes of forms

pub then_size : (f g : Form) → size_of (then f g) ≡ size_of f + size_of g
unfolding shortest
then_size f g = length-append (shortest document01 f) (shortest document01 g)

pub around_size : (t : ℕ) (f : Form) → size_of (around t f) ≡ whole_size (size_of f)
unfolding shortest whole_size
around_size t f = ap suc (length-append (length_octets (size_of f)) (shortest document01 f))

pub leaf_size : (t : ℕ) (c : List ℕ) → size_of (leaf t c) ≡ whole_size (length c)
unfolding shortest whole_size
leaf_size t c = ap suc (length-append (length_octets (length c)) c)

pub exact_size : (c : List ℕ) → size_of (exactly c) ≡ length c
unfolding shortest
exact_size c = refl

-- what is fine passed all four tests
pub record Passed (p v s h : Bool) (n k : ℕ) : Type 0 where
  pub parts : p ≡ true
  pub ranges : v ≡ true
  pub lies : s ≡ true
  pub shaped : h ≡ true
  pub size : k ≡ min n size_cap

pub passed : (p v s h : Bool) (n k : ℕ) → judged (rank_of p v s h) n ≡ Ok k → Passed p v s h n k
unfolding judged rank_of
passed true true true true n k e = record { parts = refl; ranges = refl; lies = refl; shaped = refl; size = cc }
passed true true true false n k e = absurd cc
passed true true false h n k e = absurd cc
passed true false s h n k e = absurd cc
passed false v s h n k e = absurd cc

-- one more test of the last kind
module _ (v s a b : Bool) (n : ℕ) where
  pub later_bad : (k : Wrong) → judged (rank_of true v s a) n ≡ Err k → Err k ≡ judged (rank_of true v s (a && b)) n
  unfolding judged rank_of
  later_bad k e = by v s a e
    where
      by : (v s a : Bool) → judged (rank_of true v s a) n ≡ Err k → Err k ≡ judged (rank_of true v s (a && b)) n
      by false s a e = sym e
      by true false a e = sym e
      by true true false e = sym e
      by true true true e = absurd cc

  module _ (k : ℕ) (e : judged (rank_of true v s a) n ≡ Ok k) where
    pub later_fine : b ≡ true → Ok k ≡ judged (rank_of true v s (a && b)) n
    later_fine h = rw (h, and-true) (sym e)

    pub later_not : b ≡ false → Err UNSHAPED ≡ judged (rank_of true v s (a && b)) n
    unfolding judged rank_of
    later_not h = let q = passed true v s a n k e in rw (h, q.ranges, q.lies, q.shaped)
