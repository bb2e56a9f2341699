-- The ID of octets that are no message depends on nothing behind it; that there is none, on nothing behind what shows it. Assumes nothing.
use Prim.Native.Nat.{ℕ, ◌+◌, ◌≤◌}
use mathlib.Core.Path.{◌≡◌, refl, sym, ap, ◌∙◌}
use mathlib.Core.Bool.{Bool, true, false, not, ◌&&◌, false≢true}
use mathlib.Core.List.{List, ◌∷◌}
use mathlib.Core.Option.{none}
use native.Mathlib.Omega.{arith}
use lib.ListN.{length, take, drop, length-drop}
use lib.Seq.{take-take, drop-drop, length-take-le}
use lib.Dec.{ltb}
use Rattle.element.specs.Element.{code_zero}
use Rattle.element.specs.declared.FaultKind.{FaultKind}
use Rattle.element.specs.declared.EndRead.TheVariants.{More as more}
use Rattle.element.specs.Fault.{Text}
use Rattle.element.specs.Head.{end_of}
use Rattle.element.specs.Ask.{Got, got, bad, next, definite, indefinite, Head, head, ask}
use Rattle.element.specs.Parts.{first_of}
use Rattle.element.proofs.Asking.{Then, fact, next_of, HeadOf, finite, unended, ask_head, ask_sound}
use Rattle.element.proofs.StringPlaces.{nothing_ends}
use Rattle.element.proofs.LocalHeads.{Alike, alike_less, take_behind, alike_drop, pair}
use Rattle.element.proofs.LocalClauses.{Looked, up_to_id, other, Local, sure, wrong, Level, Reaches, size_of, next_bad, local_level, head_alike, head_room, head_least, head_some, level_reaches, ask_local, ask_more_local}
use Rattle.element.proofs.Local.{take_inner}
use Rattle.tcap.specs.Meaning.{Originating}
use Rattle.tcap.specs.WellFormed.{Rules, left_at}
use Rattle.tcap.specs.Reading.{foremost, id_first, unknown_tag, unknown_body, text_of, unknown_orig}
use Rattle.tcap.specs.Due.{orig_id}
use Rattle.tcap.specs.Refused.{Right, primitive, definite as filled, indefinite as endlessly, Opens, opens, opens_endless}
use Rattle.tcap.proofs.Fronts.{first_octet}
use Rattle.tcap.proofs.OneFront.{definite_head, endless_head}
use Rattle.tcap.proofs.LocalParts.{plainly, origs}

module _ (rules : Rules) where
  -- 48 first in some contents
  first_local : (d : Bool) (p : ℕ) (part : List ℕ) → Local (Level part) 0 0 (ask (id_first rules) d p) p part (ask (id_first rules) d p part)
  first_local d p part =
      ask_local (id_first rules) d p part 0 (λ v e. nothing_ends e) (λ _. plainly) (λ a s h o. other)
      (λ h i f v o. local_level (λ t r. level_reaches part t h i r) ((origs (left_at rules 2)).contents h p part i v o))

  module _ (m : List ℕ) where
    module _ (u n : ℕ) (room : u + n ≤ length m) where
      abbrev contained : List ℕ → List ℕ
      contained t = take n (drop u t)

      in_definite : {x : Got (Originating Text)} → Local (Level (contained m)) 0 0 (ask (id_first rules) true (0 + u)) (0 + u) (contained m) x
          → Local (λ t. u + n ≤ length t) 0 u (λ t. next (ask (id_first rules) true (0 + u) (contained t)) (λ v k. got v (u + k))) 0 m (next x (λ v k. got v (u + k)))
      unfolding next
      in_definite (sure {a = v} {n = k} c l f) =
          let len : length (contained m) ≡ n = length-take-le n (drop u m) (omega (arith, length-drop u m)) in
          sure {a = v} {n = u + k} (omega arith) (omega arith) (λ t r e.
          let i : length (contained t) ≡ n = length-take-le n (drop u t) (omega (arith, length-drop u t)) in
          let g : Alike (k + 0) (contained m) (contained t) = take-take (k + 0) n (drop u t) (omega arith) ∙ alike_drop u (k + 0) m t (alike_less (u + (k + 0)) (u + k + 0) m t (omega arith) e) ∙ sym (take-take (k + 0) n (drop u m) (omega arith)) in
          next_of _ (f (contained t) (omega arith) g))
      in_definite (wrong {f = w} j q pl lk c l f) =
          let len : length (contained m) ≡ n = length-take-le n (drop u m) (omega (arith, length-drop u m)) in
          let y : take q (drop j (contained m)) ≡ take q (drop (u + j) m) = take_inner j q n (drop u m) (omega arith) ∙ ap (take q) (drop-drop j u m) in
          wrong {f = w} (u + j) q (omega arith) (rw y at lk) (omega arith) (omega arith) (λ t r e.
          let i : length (contained t) ≡ n = length-take-le n (drop u t) (omega (arith, length-drop u t)) in
          let g : Alike (j + q) (contained m) (contained t) = take-take (j + q) n (drop u t) (omega arith) ∙ alike_drop u (j + q) m t (alike_less (u + (j + q)) (u + j + q) m t (omega arith) e) ∙ sym (take-take (j + q) n (drop u m) (omega arith)) in
          next_bad _ (f (contained t) (omega arith) g))

    module _ (u : ℕ) (room : u ≤ length m) where
      in_endless : {x : Got (Originating Text)} → Local (Level (drop u m)) 0 0 (ask (id_first rules) false (0 + u)) (0 + u) (drop u m) x
          → Local (λ t. length t ≡ length m) 0 u (λ t. next (ask (id_first rules) false (0 + u) (drop u t)) (λ v k. got v (u + k))) 0 m (next x (λ v k. got v (u + k)))
      unfolding next
      in_endless (sure {a = v} {n = k} c l f) =
          sure {a = v} {n = u + k} (omega arith) (omega (arith, length-drop u m)) (λ t r e.
          next_of _ (f (drop u t) (omega (arith, length-drop u t, length-drop u m)) (alike_drop u (k + 0) m t (alike_less (u + (k + 0)) (u + k + 0) m t (omega arith) e))))
      in_endless (wrong {f = w} j q pl lk c l f) =
          wrong {f = w} (u + j) q (omega arith) (rw (drop-drop j u m) at lk) (omega arith) (omega (arith, length-drop u m)) (λ t r e.
          next_bad _ (f (drop u t) (omega (arith, length-drop u t, length-drop u m)) (alike_drop u (j + q) m t (alike_less (u + (j + q)) (u + j + q) m t (omega arith) e))))

    foremost_local : (h : Head) → HeadOf m h → Local (Reaches h m) 0 (size_of h) (foremost (id_first rules) h 0) 0 m (foremost (id_first rules) h 0 m)
    unfolding foremost size_of Reaches
    foremost_local (head a u (definite n)) i = in_definite u n (head_room m a u n i) (first_local true (0 + u) (take n (drop u m)))
    foremost_local (head a u indefinite) i = in_endless u (head_least m a u i).0 (first_local false (0 + u) (drop u m))

    abbrev pub Sought : (List ℕ → Type 0) → Type 0
    Sought R = Local R 0 1 (ask (unknown_body rules) true 0) 0 m (ask (unknown_body rules) true 0 m)

    pub sought : end_of true m ≡ more → Sought (Level m)
    unfolding pair
    sought e = ask_more_local (unknown_body rules) true 0 m 0 (λ v f. refl) (λ _. plainly) (λ a s h o. other) (λ h i f v o. local_level (λ t r. level_reaches m t h i r) (foremost_local h i)) e refl

    -- where the length is known, no end is looked at
    pub sought_inside : (h : Head) → HeadOf m h → ltb 0 rules.limit ≡ true → unknown_tag (first_of h) ≡ true → Sought (Reaches h m)
    sought_inside h i v o = rw (asked m i) (from (foremost_local h i))
      where
        asked : (t : List ℕ) → HeadOf t h → ask (unknown_body rules) true 0 t ≡ foremost (id_first rules) h 0 t
        asked t j = ask_head (unknown_body rules) true 0 t h j refl v o

        from : {x : Got (Originating Text)} → Local (Reaches h m) 0 (size_of h) (foremost (id_first rules) h 0) 0 m x → Local (Reaches h m) 0 1 (ask (unknown_body rules) true 0) 0 m x
        from (sure {a = a} {n = n} c l g) = sure {a = a} {n = n} (omega (arith, head_some m h i)) l (λ t r e. asked t (head_alike m t h i (alike_less (size_of h) (n + 0) m t (omega arith) e) r) ∙ g t r e)
        from (wrong {f = w} j q pl lk c l g) = wrong {f = w} j q pl lk (omega (arith, head_some m h i)) l (λ t r e. asked t (head_alike m t h i (alike_less (size_of h) (j + q) m t c e) r) ∙ g t r e)

  -- the octets up to the end of the ID
  module _ (m : List ℕ) where
    window : (j : ℕ) (part : List ℕ) {n : ℕ} {s : Text} → length part + j ≤ length m → ((q : ℕ) → q ≤ length part → Alike q part (drop j m)) → Right rules 2 0x48 orig_id j part n s → Looked FaultKind.NoMessage (take (j + n) m)
    unfolding size_of Reaches
    window j part l same (primitive {u = u} {n = n} deep y c f) =
        let i : HeadOf part (head 0x48 u (definite n)) = definite_head y in
        let room : u + n ≤ length part = head_room part 0x48 u n i in
        let z : take (u + n) (drop j m) ≡ drop j (take (j + (u + n)) m) = take_behind j (u + n) m in
        let len : length (take (u + n) (drop j m)) ≡ u + n = length-take-le (u + n) (drop j m) (omega (arith, length-drop j m)) in
        let g : Alike u part (take (u + n) (drop j m)) = take-take u (u + n) (drop j m) (omega arith) ∙ same u (omega arith) in
        up_to_id j u n (rw z at (head_alike part (take (u + n) (drop j m)) (head 0x48 u (definite n)) i g (omega arith))) (sym (length-take-le (j + (u + n)) m (omega arith)))
    window j part l same (filled deep y c f) = nothing_ends c
    window j part l same (endlessly deep y c f) = nothing_ends c

    pub id_window : (x : Text) {n : ℕ} {s : Text} → Opens m x → Right rules 2 0x48 orig_id x.0 x.1 n s → Looked FaultKind.NoMessage (take (x.0 + n) m)
    id_window x (opens {a = a} {u = u} {n = c} k e y) r =
        let len : length (take c (drop u m)) ≡ c = length-take-le c (drop u m) y.room in
        window u (take c (drop u m)) (omega (arith, head_room m a u c (definite_head y))) (λ q l. sym (take-take q c (drop u m) (omega arith))) r
    id_window x (opens_endless {a = a} {u = u} e y) r = window u (drop u m) (omega (arith, length-drop u m, (head_least m a u (endless_head y)).0)) (λ q l. refl) r

  -- no constructor with a tag of one octet
  head_plain : (part : List ℕ) (h : Head) → HeadOf part h → code_zero (first_of h) ≡ false
  head_plain part h (finite a s k n t z l) = z
  head_plain part h (unended a s t z l) = z

  pub unsought : (a : ℕ) (r : List ℕ) → unknown_tag a && not (code_zero a) ≡ false → unknown_orig rules (a ∷ r) ≡ none
  unfolding unknown_orig text_of
  unsought a r o = by_ask (ask (unknown_body rules) true 0 (a ∷ r)) (ask_sound (λ v n. ⊥) (unknown_body rules) true 0 (a ∷ r) (λ v e f. nothing_ends e) (λ h i m. absurd (not_here h i m)))
    where
      not_here : (h : Head) → HeadOf (a ∷ r) h → unknown_tag (first_of h) ≡ true → ⊥
      not_here h i m = let (q, e) = first_octet (a ∷ r) h i in let z : a ≡ first_of h = cc in false≢true (sym o ∙ rw (z, m, head_plain (a ∷ r) h i))

      by_ask : (x : Got (Originating Text)) → Then (λ v n. ⊥) x → text_of x ≡ none
      by_ask (got v n) (fact e) = absurd e
      by_ask (bad f) e = refl
