-- A walk of the same octets at another place finds the same, its fault moved along.
-- Assumes nothing.
use Prim.Native.Nat.{ℕ, zero, suc, ◌+◌, ◌≤◌}
use mathlib.Core.Path.{◌≡◌, refl}
use mathlib.Core.Bool.{Bool, true, false}
use mathlib.Core.List.{List}
use mathlib.Core.Option.{none}
use native.Mathlib.Omega.{arith}
use native.Mathlib.Nat.{add_assoc}
use native.Mathlib.Numerals.{sub-one}
use lib.ListN.{length, take, drop, length-drop}
use borrow.Author.Tests.{lt-ltb}
use Rattle.element.specs.Element.{constructor_of}
use Rattle.element.specs.Head.{end_of, tag_of}
use Rattle.element.specs.Ask.{Size, definite, indefinite, Head, head}
use Rattle.element.specs.Walk.{walk_contents}
use Rattle.element.specs.Answers.{wanted_item, walk_of, element_walk, series_walk}
use Rattle.element.specs.declared.EndRead.{EndRead}
use Rattle.element.specs.declared.EndRead.TheVariants.{Ended, Unfinished, More}
use Rattle.element.specs.declared.Walk.{Walk}
use Rattle.element.specs.declared.Walk.TheVariants.{Fault, Whole}
use Rattle.element.proofs.WalkedWhole.{wanted_is, element_size}
use Rattle.element.proofs.Walking.{then_walk, grown, tag_by_lem, not_more, series_ended, series_unfinished, series_more, contents_walk, contents_walk_lem}

unfoldable pub moved : ℕ → Walk → Walk
moved d (Fault k p) = Fault k (d + p)
moved d (Whole n) = Whole n

module _ (d : ℕ) where
  then_moved : (w : Walk) (f g : ℕ → Walk) → ((n : ℕ) → w ≡ Whole n → f n ≡ moved d (g n)) → then_walk (moved d w) f ≡ moved d (then_walk w g)
  unfolding then_walk moved
  then_moved (Fault k p) f g h = refl
  then_moved (Whole n) f g h = h n refl

  grown_moved : (n : ℕ) (w : Walk) → grown n (moved d w) ≡ moved d (grown n w)
  unfolding grown moved
  grown_moved n (Fault k p) = refl
  grown_moved n (Whole m) = refl

  inside_moved : (inner : Bool → ℕ → List ℕ → Walk) → ((e : Bool) (p : ℕ) (part : List ℕ) → inner e (d + p) part ≡ moved d (inner e p part))
      → (c : Bool) (u : ℕ) (z : Size) (p : ℕ) (part : List ℕ) → contents_walk c inner u z (d + p) part ≡ moved d (contents_walk c inner u z p part)
  unfolding contents_walk moved
  inside_moved inner h true u (definite n) p part = rw (add_assoc d p u, h) (then_moved (inner true (p + u) (take n (drop u part))) _ _ λ k e. refl)
  inside_moved inner h true u indefinite p part = rw (add_assoc d p u, h) (then_moved (inner false (p + u) (drop u part)) _ _ λ k e. refl)
  inside_moved inner h false u (definite n) p part = refl
  inside_moved inner h false u indefinite p part = refl

  -- from the contents of an element at a level to elements and series there
  module _ (l : ℕ) (contents : (h : Head) (p : ℕ) (part : List ℕ) → walk_of (walk_contents l h (d + p) part) ≡ moved d (walk_of (walk_contents l h p part))) where
    element_from : (t p : ℕ) (part : List ℕ) → element_walk t l (d + p) part ≡ moved d (element_walk t l p part)
    unfolding element_walk moved
    element_from t p part = tag_by_lem (moved d) l (wanted_item t l).mine none none _ _ true true (d + p) p part (λ k. refl) (λ h. rw (wanted_is t l) (contents h p part)) (tag_of part)

    by_end : (t : ℕ) (e : Bool) (p : ℕ) (part : List ℕ) → (end_of e part ≡ More → series_walk t l e (d + p) part ≡ moved d (series_walk t l e p part))
        → (r : EndRead) → end_of e part ≡ r → series_walk t l e (d + p) part ≡ moved d (series_walk t l e p part)
    unfolding moved
    by_end t e p part h Ended r = rw (series_ended t l e (d + p) part r, series_ended t l e p part r)
    by_end t e p part h Unfinished r = rw (series_unfinished t l e (d + p) part r, series_unfinished t l e p part r)
    by_end t e p part h More r = h r

    series_from : (k t : ℕ) (e : Bool) (p : ℕ) (part : List ℕ) → length part ≤ k → series_walk t l e (d + p) part ≡ moved d (series_walk t l e p part)
    series_from zero t e p part h = by_end t e p part (λ r. absurd (not_more e part h r)) (end_of e part) refl
    series_from (suc k) t e p part h =
        by_end t e p part (λ r.
        rw (series_more t l e (d + p) part r, series_more t l e p part r, element_from t p part)
        (then_moved (element_walk t l p part) _ _ λ n w.
        let z = element_size t l p part n w in
        rw (add_assoc d p n, series_from k t e (p + n) (drop n part) (omega (arith, z, length-drop n part))) (grown_moved n (series_walk t l e (p + n) (drop n part)))))
        (end_of e part) refl

  contents_moved : (l : ℕ) (h : Head) (p : ℕ) (part : List ℕ) → walk_of (walk_contents l h (d + p) part) ≡ moved d (walk_of (walk_contents l h p part))
  unfolding walk_contents walk_of moved
  contents_moved zero h p part = refl
  contents_moved (suc l) (head a u z) p part =
      let deep = lt-ltb 0 (suc l) (omega arith) in
      rw (contents_walk_lem (suc l) deep a u z (d + p) part, contents_walk_lem (suc l) deep a u z p part, sub-one (suc l))
      (inside_moved (series_walk 0 l) (λ e p part. series_from l (contents_moved l) (length part) 0 e p part (omega arith)) (constructor_of a) u z p part)

  pub element_moved : (t l p : ℕ) (part : List ℕ) → element_walk t l (d + p) part ≡ moved d (element_walk t l p part)
  element_moved t l p part = element_from l (contents_moved l) t p part

  pub series_moved : (t l : ℕ) (e : Bool) (p : ℕ) (part : List ℕ) → series_walk t l e (d + p) part ≡ moved d (series_walk t l e p part)
  series_moved t l e p part = series_from l (contents_moved l) (length part) t e p part (omega arith)
