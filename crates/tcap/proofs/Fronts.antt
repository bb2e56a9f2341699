-- What the readers of a tag and of a length call a fault is one, by the octets; what a head says of the part it begins. Assumes nothing.
use Prim.Native.Nat.{ℕ, suc, ◌+◌, ◌-◌, ◌≤◌, ◌<◌}
use mathlib.Core.Path.{◌≡◌, refl, sym, ap, ◌∙◌}
use mathlib.Core.Logic.{inl, inr}
use mathlib.Core.Bool.{Bool, true, false, not, ◌||◌, false≢true}
use mathlib.Core.List.{List, [], ◌∷◌, ◌++◌}
use native.Mathlib.Omega.{arith}
use lib.ListN.{length, take, drop, get_or, length-drop, length-append}
use lib.Seq.{drop-append_seam}
use lib.Dec.{ltb, leb, eqb}
use borrow.Author.Tests.{ltb-true, ltb-false, leb-true, leb-false, eqb-true, eqb-false, ne_eqb, lt-leb}
use Rattle.base.specs.Number.{number_from}
use Rattle.base.proofs.Tests.{cond_all}
use Rattle.element.specs.Form.{fewest_of}
use Rattle.element.specs.Element.{code_zero, extended_of, Definitely, Endlessly}
use Rattle.element.specs.Fault.{Text, Fault}
use Rattle.element.specs.declared.FaultKind.{FaultKind}
use Rattle.element.specs.declared.TagRead.{TagRead}
use Rattle.element.specs.declared.TagRead.TheVariants.{Fault as tag_fault, Tag as tag}
use Rattle.element.specs.declared.LengthRead.{LengthRead}
use Rattle.element.specs.declared.LengthRead.TheVariants.{Fault as length_fault, Definite as sized, Indefinite as unsized}
use Rattle.element.specs.declared.EndRead.TheVariants.{More as more}
use Rattle.element.specs.Head.{tag_of, first, second, third, within, long_of, length_of, end_of}
use Rattle.element.specs.Ask.{Got, blamed, definite, indefinite, Head, head}
use Rattle.element.specs.Parts.{first_of}
use Rattle.element.proofs.Heads.{TagIs, tag_sound}
use Rattle.element.proofs.Asking.{HeadOf, finite, unended, Says, head_says, more_at}
use Rattle.element.proofs.Ends.{Ends, held, failed}
use Rattle.tcap.specs.Due.{Holds}
use Rattle.tcap.specs.Refused.{Right, primitive, definite as filled, indefinite as endlessly, TagCut, empty, one, two, three, TagBad, small, long, LengthWrong, gone, cut, reserved, endless, wasteful, passing, passing_long, Tagged}
use Rattle.tcap.specs.WellFormed.{Rules}

-- The tag and the length: what their readers call a fault is one

pub data TagSays (part : List ℕ) : TagRead → Type 0 where
  cut_off : TagCut part → TagSays part (tag_fault FaultKind.CutOff)
  badly : TagBad part → TagSays part (tag_fault FaultKind.BadTag)
  good : {a s : ℕ} → TagSays part (tag a s)

third_says : (a x y : ℕ) (r : List ℕ) → extended_of a ≡ true → 129 ≤ x → 128 ≤ y → TagSays (a ∷ x ∷ y ∷ r) (third (a ∷ x ∷ y ∷ r))
unfolding third
third_says a x y [] e h k = cut_off (three e h k)
third_says a x y (z ∷ r) e h k =
    rw (lt-leb (length (a ∷ x ∷ y ∷ z ∷ r)) 3 (omega arith)) (cond_all (TagSays (a ∷ x ∷ y ∷ z ∷ r)) (ltb z 128) _ _ (λ _. good) (λ l. badly (long e h k (ltb-false z 128 l))))

second_says : (a x : ℕ) (r : List ℕ) → extended_of a ≡ true → 129 ≤ x → TagSays (a ∷ x ∷ r) (second (a ∷ x ∷ r))
unfolding second
second_says a x [] e h = cut_off (two e h)
second_says a x (y ∷ r) e h =
    rw (lt-leb (length (a ∷ x ∷ y ∷ r)) 2 (omega arith)) (cond_all (TagSays (a ∷ x ∷ y ∷ r)) (ltb y 128) _ _ (λ _. good) (λ l. third_says a x y r e h (ltb-false y 128 l)))

first_says : (a : ℕ) (r : List ℕ) → extended_of a ≡ true → TagSays (a ∷ r) (first (a ∷ r))
unfolding first
first_says a [] e = cut_off (one e)
first_says a (x ∷ r) e =
    rw (lt-leb (length (a ∷ x ∷ r)) 1 (omega arith))
    (cond_all (TagSays (a ∷ x ∷ r)) (eqb x 128) _ _ (λ n. badly (small e (inl (eqb-true x 128 n)))) λ n.
    cond_all (TagSays (a ∷ x ∷ r)) (ltb x 31) _ _ (λ h. badly (small e (inr (ltb-true x 31 h)))) λ h.
    cond_all (TagSays (a ∷ x ∷ r)) (ltb x 128) _ _ (λ _. good) λ k.
    second_says a x r e (omega (arith, ltb-false x 128 k, eqb-false x 128 n)))

pub tag_says : (part : List ℕ) → TagSays part (tag_of part)
unfolding tag_of
tag_says [] = cut_off empty
tag_says (a ∷ r) = rw (ne_eqb (length (a ∷ r)) 0 (λ q. omega arith)) (cond_all (TagSays (a ∷ r)) (extended_of a) _ _ (λ e. first_says a r e) (λ _. good))

pub data LengthSays (c : Bool) (part : List ℕ) : LengthRead → Type 0 where
  wrong : {k : FaultKind} → LengthWrong c part k → LengthSays c part (length_fault k)
  fine : {k n : ℕ} → LengthSays c part (sized k n)
  without : LengthSays c part unsized

within_says : (c : Bool) (part : List ℕ) (size n room : ℕ) → (room < n → LengthWrong c part FaultKind.PassesEnd) → LengthSays c part (within size n room)
unfolding within
within_says c part size n room h = cond_all (LengthSays c part) (leb n room) _ _ (λ _. fine) (λ e. wrong (h (leb-false n room e)))

pub length_says : (part : List ℕ) (c : Bool) → LengthSays c part (length_of part c)
unfolding length_of long_of
length_says [] c = wrong gone
length_says (b ∷ r) c =
    let z : length (b ∷ r) - 1 ≡ length r = omega arith in
    rw (ne_eqb (length (b ∷ r)) 0 (λ q. omega arith), z)
    (cond_all (LengthSays c (b ∷ r)) (ltb b 128) _ _ (λ e. within_says c (b ∷ r) 1 b (length r) λ h. passing (ltb-true b 128 e) h) λ e.
    cond_all (LengthSays c (b ∷ r)) (leb 255 b) _ _ (λ f. wrong (reserved (leb-true 255 b f))) λ f.
    cond_all (LengthSays c (b ∷ r)) (eqb b 128) _ _ (λ g. cond_all (LengthSays c (b ∷ r)) c _ _ (λ _. without) (λ i. rw (eqb-true b 128 g) (wrong (endless i)))) λ g.
    let lo : 129 ≤ b = omega (arith, ltb-false b 128 e, eqb-false b 128 g) in
    let hi : b ≤ 254 = omega (arith, leb-false 255 b f) in
    cond_all (LengthSays c (b ∷ r)) (ltb (length r) (b - 128)) _ _ (λ i. wrong (cut lo hi (ltb-true (length r) (b - 128) i))) λ i.
    let room : b - 128 ≤ length r = ltb-false (length r) (b - 128) i in
    cond_all (LengthSays c (b ∷ r)) (fewest_of (get_or r 0 0) (b - 128)) _ _
    (λ j. within_says c (b ∷ r) (suc (b - 128)) (number_from 0 (take (b - 128) r)) (length r - (b - 128)) λ h. passing_long lo hi room j h)
    (λ j. wrong (wasteful lo hi room j)))

tagged_from : (part : List ℕ) (a s : ℕ) → TagIs part (tag a s) → code_zero a ≡ false → Tagged part a (drop s part)
unfolding TagIs
tagged_from part a s (x, r, q, i, l) z =
    let g : drop s part ≡ r = rw (q, l) (drop-append_seam (a ∷ x) r) in
    record { ext = x; octets = q ∙ ap (λ (v : List ℕ). a ∷ (x ++ v)) (sym g); is_tag = i; plain = z }

pub tagged : (part : List ℕ) (a s : ℕ) → tag_of part ≡ tag a s → code_zero a ≡ false → Tagged part a (drop s part)
tagged part a s e z = tagged_from part a s (rw e at (tag_sound part)) z

-- Heads, and elements of at least one octet

pub first_octet : (part : List ℕ) (h : Head) → HeadOf part h → (r : List ℕ) × (part ≡ first_of h ∷ r)
unfolding Says
first_octet part (head a u (definite n)) i = let s : Definitely part a u n = head_says part (head a u (definite n)) i in ((s.ext ++ s.len) ++ drop u part, s.front)
first_octet part (head a u indefinite) i = let s : Endlessly part a u = head_says part (head a u indefinite) i in ((s.ext ++ (0x80 ∷ [])) ++ drop u part, s.front)

pub definite_some : {part : List ℕ} {a u n : ℕ} → Definitely part a u n → (1 ≤ u) × (1 ≤ length part)
definite_some {part} {a} {u} s =
    (omega (arith, s.used, length-append (a ∷ s.ext) s.len), omega (arith, ap length s.front, length-append ((a ∷ s.ext) ++ s.len) (drop u part), length-append (a ∷ s.ext) s.len))

pub endless_some : {part : List ℕ} {a u : ℕ} → Endlessly part a u → (1 ≤ u) × (1 ≤ length part)
endless_some {part} {a} {u} s =
    (omega (arith, s.used, length-append (a ∷ s.ext) (0x80 ∷ [])), omega (arith, ap length s.front, length-append ((a ∷ s.ext) ++ (0x80 ∷ [])) (drop u part), length-append (a ∷ s.ext) (0x80 ∷ [])))

pub right_some : {rules : Rules} {l a p n : ℕ} {h : Holds} {part : List ℕ} {x : Text} → Right rules l a h p part n x → (1 ≤ n) × (length (drop n part) + 1 ≤ length part)
right_some {part = part} (primitive {u = u} {n = n} j s c w) = let y = definite_some s in (omega (arith, y.0), omega (arith, y.0, y.1, length-drop (u + n) part))
right_some {part = part} (filled {u = u} {n = n} j s c w) = let y = definite_some s in (omega (arith, y.0), omega (arith, y.0, y.1, length-drop (u + n) part))
right_some {part = part} (endlessly {u = u} {k = k} j s c w) = let y = endless_some s in (omega (arith, y.0), omega (arith, y.0, y.1, length-drop (u + (k + 2)) part))

pub head_more : (d : Bool) (part : List ℕ) (h : Head) → HeadOf part h → end_of d part ≡ more
head_more d part h (finite a s k n e z g) = more_at d part a s e z
head_more d part h (unended a s e z g) = more_at d part a s e z

pub head_tagged : (part : List ℕ) (h : Head) → HeadOf part h → (r : List ℕ) × Tagged part (first_of h) r
head_tagged part h (finite a s k n e z g) = (drop s part, tagged part a s e z)
head_tagged part h (unended a s e z g) = (drop s part, tagged part a s e z)

pub none_more : (part : List ℕ) (d : Bool) → length part ≤ 0 → end_of d part ≡ more → ⊥
unfolding end_of
none_more [] true h e = let z : ◌≡◌ {A = ℕ} 0 1 = cc in absurd (omega arith)
none_more [] false h e = let z : ◌≡◌ {A = ℕ} 0 1 = cc in absurd (omega arith)
none_more (x ∷ r) d h e = absurd (omega arith)

pub is_true : (b : Bool) → not b ≡ false → b ≡ true
is_true true e = refl
is_true false e = absurd (false≢true (sym e))

pub ends_blame : {A : Type 0} {P : A → ℕ → Type 0} {Q : Fault → Type 0} (w : Fault → Fault) {x : Got A} → Ends P (λ f. Q (w f)) x → Ends P Q (blamed w x)
unfolding blamed
ends_blame w (held h) = held h
ends_blame w (failed h) = failed h

pub or_right : (a b : Bool) → (a || b) ≡ false → b ≡ false
or_right true b e = absurd (false≢true (sym e))
or_right false b e = e
