-- `lay_number` meets its contract. Assumes nothing.
use native.Mathlib.Omega.{arith}
use Prim.Native.Nat.{ℕ, ◌+◌, ◌-◌, ◌/◌, ◌≤◌}
use mathlib.Core.Path.{◌≡◌, refl, sym, ◌∙◌}
use mathlib.Core.List.{List, ◌++◌, append_assoc}
use lib.ListN.{length, take, drop}
use Rattle.std.proofs.lemmas.List.{drop-drop}
use mir.Syntax.{w32}
use Rattle.std.specs.Int.{to_be_bytes}
use Rattle.std.proofs.lemmas.List.Edits.{sets, sets-eq}
use Rattle.base.specs.Number.{octets_in}
use Rattle.read_part.proofs.lay_number.Goals as goal

octets_of : (n : ℕ) → to_be_bytes w32 n ≡ octets_in 4 n
unfolding octets_in
octets_of n =
    let a : n / 256 / 256 / 256 ≡ n / 16777216 = omega arith in
    let b : n / 256 / 256 ≡ n / 65536 = omega arith in
    rw (a, b)

laid : (l : List ℕ) (o n : ℕ) → o + 4 ≤ length l → take o l ++ (octets_in 4 n ++ drop 4 (drop o l)) ≡ sets l o (octets_in 4 n)
unfolding octets_in
laid l o n h = rw (drop-drop) (sym (sets-eq (octets_in 4 n) l o h ∙ append_assoc (take o l) (octets_in 4 n) (drop (o + 4) l)))

pub returns : goal.returns
returns c =
    let e : c.copy_from_slice.new.self ≡ octets_in 4 c.args.n = c.copy_from_slice.ensures.after ∙ c.to_be_bytes.ensures ∙ octets_of c.args.n in
    let k : c.args.o + 4 - c.args.o ≡ 4 = omega arith in
    rw (e, k) (laid c.args.out.now c.args.o c.args.n (omega arith))
