-- Twelve zeros in the place of twelve octets. Assumes nothing.
use Prim.Native.Nat.{ℕ, ◌+◌, ◌-◌, ◌≤◌}
use native.Mathlib.Omega.{arith}
use mathlib.Core.Path.{◌≡◌, sym, ◌∙◌}
use mathlib.Core.List.{List}
use lib.ListN.{length, replicate, take, drop, length-drop}
use lib.Seq.{sets, sets-eq, drop-drop}
use borrow.Rule.Slice.PartMut.{put_mid}
use Rattle.std.proofs.Common.{append_assoc, length-take-le}
use Rattle.entry_octets.specs.Entries.{blank_octets}
use Rattle.entry_octets.proofs.put_blank.Goals as goal

zeros_put : (l f : List ℕ) (at : ℕ) → at + 12 ≤ length l → f ≡ replicate (length (take (at + 12 - at) (drop at l))) 0 → put_mid at (at + 12 - at) l f ≡ sets l at blank_octets
zeros_put l f at h e =
    let n : at + 12 - at ≡ 12 = omega arith in
    let m : length (take 12 (drop at l)) ≡ 12 = length-take-le 12 (drop at l) (simp length-drop (omega arith)) in
    let d : drop 12 (drop at l) ≡ drop (at + 12) l = drop-drop 12 at l in
    rw (e, n, m, d) (sym (sets-eq blank_octets l at h ∙ append_assoc (take at l) blank_octets (drop (at + 12) l)))

pub returns : goal.returns
returns c = record { within = omega arith; ends = omega arith; holds = zeros_put c.args.out.now c.fill.new.self c.args.at c.requires (c.fill.ensures.after (λ y h. h)) }
