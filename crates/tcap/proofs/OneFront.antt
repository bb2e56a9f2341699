-- What stands at the front of a part is one thing: octets that are called a fault are read as that fault, a head is read as that head. Assumes nothing.
use Prim.Native.Nat.{ℕ, suc, ◌+◌, ◌-◌, ◌%◌}
use mathlib.Core.Path.{◌≡◌, refl, ap, ◌∙◌}
use mathlib.Core.Logic.{inl, inr}
use mathlib.Core.Bool.{Bool, true, false, ◌||◌}
use mathlib.Core.List.{List, [], ◌∷◌, ◌++◌, append_assoc}
use native.Mathlib.Omega.{arith}
use lib.ListN.{length, take, drop, length-append}
use lib.Seq.{drop-append_seam}
use lib.Dec.{eqb}
use borrow.Author.Tests.{eqb-true, lt-ltb, le-ltb, le-leb, lt-leb, eq-eqb, ne_eqb}
use Rattle.base.specs.Number.{number_from}
use Rattle.element.specs.Element.{constructor_of, code_zero, extended_of, Definitely, Endlessly}
use Rattle.element.specs.declared.FaultKind.{FaultKind}
use Rattle.element.specs.declared.TagRead.TheVariants.{Fault as tag_fault, Tag as tag}
use Rattle.element.specs.declared.LengthRead.TheVariants.{Fault as length_fault, Definite as sized, Indefinite as unsized}
use Rattle.element.specs.Head.{tag_of, first, second, third, within, long_of, length_of}
use Rattle.element.specs.Ask.{definite, indefinite, head}
use Rattle.element.proofs.Heads.{tag_complete, length_complete, length_endless}
use Rattle.element.proofs.Asking.{HeadOf, finite, unended}
use Rattle.tcap.specs.Refused.{TagCut, empty, one, two, three, TagBad, small, long, LengthWrong, gone, cut, reserved, endless, wasteful, passing, passing_long, Tagged}

-- Tags

pub cut_tag : {part : List ℕ} → TagCut part → tag_of part ≡ tag_fault FaultKind.CutOff
unfolding tag_of first second third
cut_tag empty = refl
cut_tag (one e) = rw e
cut_tag (two {x = x} e h) = rw (e, ne_eqb x 128 (λ q. omega arith), le-ltb x 31 (omega arith), le-ltb x 128 (omega arith))
cut_tag (three {x = x} {y = y} e h k) = rw (e, ne_eqb x 128 (λ q. omega arith), le-ltb x 31 (omega arith), le-ltb x 128 (omega arith), le-ltb y 128 k)

pub bad_tag_lem : {part : List ℕ} → TagBad part → tag_of part ≡ tag_fault FaultKind.BadTag
unfolding tag_of first second third
bad_tag_lem (small {a = a} {x = x} {r = r} e (inl h)) = rw (ne_eqb (length (a ∷ x ∷ r)) 0 (λ q. omega arith), e, lt-leb (length (a ∷ x ∷ r)) 1 (omega arith), eq-eqb x 128 h)
bad_tag_lem (small {a = a} {x = x} {r = r} e (inr h)) = rw (ne_eqb (length (a ∷ x ∷ r)) 0 (λ q. omega arith), e, lt-leb (length (a ∷ x ∷ r)) 1 (omega arith), ne_eqb x 128 (λ q. omega arith), lt-ltb x 31 h)
bad_tag_lem (long {a = a} {x = x} {y = y} {z = z} {r = r} e h k l) =
    rw (ne_eqb (length (a ∷ x ∷ y ∷ z ∷ r)) 0 (λ q. omega arith), e, lt-leb (length (a ∷ x ∷ y ∷ z ∷ r)) 1 (omega arith), ne_eqb x 128 (λ q. omega arith), le-ltb x 31 (omega arith), le-ltb x 128 (omega arith), lt-leb (length (a ∷ x ∷ y ∷ z ∷ r)) 2 (omega arith), le-ltb y 128 k, lt-leb (length (a ∷ x ∷ y ∷ z ∷ r)) 3 (omega arith), le-ltb z 128 l)

pub tagged_tag : {part : List ℕ} {a : ℕ} {q : List ℕ} (t : Tagged part a q) → (tag_of part ≡ tag a (suc (length t.ext))) × (drop (suc (length t.ext)) part ≡ q)
tagged_tag {a = a} {q = q} t = (rw t.octets (tag_complete a t.ext q t.is_tag), rw t.octets (drop-append_seam (a ∷ t.ext) q))

zero_plain : (a : ℕ) → code_zero a ≡ true → extended_of a ≡ false
unfolding code_zero extended_of
zero_plain a e = by_zero (eqb a 0) refl e
  where
    by_zero : (b : Bool) → eqb a 0 ≡ b → (b || eqb a 32) ≡ true → eqb (a % 32) 31 ≡ false
    by_zero true f e = let z : a ≡ 0 = eqb-true a 0 f in rw z refl
    by_zero false f e = let z : a ≡ 32 = eqb-true a 32 e in rw z refl

pub zero_tag_lem : {part : List ℕ} {a : ℕ} {q : List ℕ} → part ≡ a ∷ q → code_zero a ≡ true → tag_of part ≡ tag a 1
unfolding tag_of
zero_tag_lem {a = a} {q = q} e z = rw (e, ne_eqb (length (a ∷ q)) 0 (λ q. omega arith), zero_plain a z)

-- Lengths

length_one : (b : ℕ) (r : List ℕ) → length (b ∷ r) - 1 ≡ length r
length_one b r = omega arith

pub wrong_length : {c : Bool} {q : List ℕ} {k : FaultKind} → LengthWrong c q k → length_of q c ≡ length_fault k
unfolding length_of long_of within
wrong_length gone = refl
wrong_length (cut {b = b} {r = r} h k l) =
    rw (ne_eqb (length (b ∷ r)) 0 (λ q. omega arith), le-ltb b 128 (omega arith), lt-leb 255 b (omega arith), ne_eqb b 128 (λ q. omega arith), length_one b r, lt-ltb (length r) (b - 128) l)
wrong_length (reserved {b = b} {r = r} h) = rw (ne_eqb (length (b ∷ r)) 0 (λ q. omega arith), le-ltb b 128 (omega arith), le-leb 255 b h)
wrong_length (endless {r = r} e) = rw (ne_eqb (length (0x80 ∷ r)) 0 (λ q. omega arith), e)
wrong_length (wasteful {b = b} {r = r} h k l f) =
    rw (ne_eqb (length (b ∷ r)) 0 (λ q. omega arith), le-ltb b 128 (omega arith), lt-leb 255 b (omega arith), ne_eqb b 128 (λ q. omega arith), length_one b r, le-ltb (length r) (b - 128) l, f)
wrong_length (passing {b = b} {r = r} h k) = rw (ne_eqb (length (b ∷ r)) 0 (λ q. omega arith), lt-ltb b 128 h, length_one b r, lt-leb b (length r) k)
wrong_length (passing_long {b = b} {r = r} h k l f g) =
    rw (ne_eqb (length (b ∷ r)) 0 (λ q. omega arith), le-ltb b 128 (omega arith), lt-leb 255 b (omega arith), ne_eqb b 128 (λ q. omega arith), length_one b r, le-ltb (length r) (b - 128) l, f, lt-leb (number_from 0 (take (b - 128) r)) (length r - (b - 128)) g)

-- Heads

pub definite_head : {part : List ℕ} {a u n : ℕ} → Definitely part a u n → HeadOf part (head a u (definite n))
definite_head {part = part} {a = a} {u = u} {n = n} s =
    let e : part ≡ a ∷ (s.ext ++ (s.len ++ drop u part)) = s.front ∙ append_assoc (a ∷ s.ext) s.len (drop u part) in
    let t : tag_of part ≡ tag a (suc (length s.ext)) = ap tag_of e ∙ tag_complete a s.ext (s.len ++ drop u part) s.is_tag in
    let f : drop (suc (length s.ext)) part ≡ s.len ++ drop u part = ap (drop (suc (length s.ext))) e ∙ drop-append_seam (a ∷ s.ext) (s.len ++ drop u part) in
    let g : u ≡ suc (length s.ext) + length s.len = s.used ∙ length-append (a ∷ s.ext) s.len in
    let l : length_of (drop (suc (length s.ext)) part) (constructor_of a) ≡ sized (length s.len) n = rw f (length_complete s.len n (drop u part) (constructor_of a) s.stands s.room) in
    rw g (finite a (suc (length s.ext)) (length s.len) n t s.plain l)

pub endless_head : {part : List ℕ} {a u : ℕ} → Endlessly part a u → HeadOf part (head a u indefinite)
endless_head {part = part} {a = a} {u = u} s =
    let e : part ≡ a ∷ (s.ext ++ ((0x80 ∷ []) ++ drop u part)) = s.front ∙ append_assoc (a ∷ s.ext) (0x80 ∷ []) (drop u part) in
    let t : tag_of part ≡ tag a (suc (length s.ext)) = ap tag_of e ∙ tag_complete a s.ext ((0x80 ∷ []) ++ drop u part) s.is_tag in
    let f : drop (suc (length s.ext)) part ≡ 0x80 ∷ drop u part = ap (drop (suc (length s.ext))) e ∙ drop-append_seam (a ∷ s.ext) ((0x80 ∷ []) ++ drop u part) in
    let g : u ≡ suc (length s.ext) + 1 = s.used ∙ length-append (a ∷ s.ext) (0x80 ∷ []) in
    let l : length_of (drop (suc (length s.ext)) part) (constructor_of a) ≡ unsized = rw (f, s.constructor) (length_endless (drop u part)) in
    rw g (unended a (suc (length s.ext)) t s.plain l)
