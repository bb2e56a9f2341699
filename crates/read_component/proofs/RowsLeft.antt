-- The loop over components: what it answers, and what it leaves in the record's octets, its rows or what is told of the fault. Assumes nothing.
use Prim.Native.Nat.{ℕ, zero, suc, ◌+◌, ◌-◌, ◌*◌, ◌/◌, ◌%◌, ◌≤◌}
use mathlib.Core.Path.{◌≡◌, refl, sym, ap, ◌∙◌}
use mathlib.Core.Bool.{Bool, true, false}
use mathlib.Core.List.{List, [], ◌∷◌, append_assoc}
use mathlib.Core.Option.{Option, none}
use native.Mathlib.Omega.{arith}
use lib.ListN.{length, take, drop, set, length-drop}
use lib.Seq.{drop-drop, length-take-le}
use lib.IntN.{ℤ}
use borrow.Rule.Slice.PartMut.{put_mid}
use Rattle.element.specs.declared.{FaultKind.FaultKind, EndRead.EndRead}
use Rattle.element.specs.Fault.{portion, component, fault, Text, in_component}
use Rattle.element.specs.Head.{end_of}
use Rattle.element.specs.Ask.{Got, got, bad, blamed, ask}
use Rattle.element.specs.Parts.{onward, series_body}
use Rattle.element.proofs.Asking.{Then, fact, void, the_fact, then_next, then_blamed, ask_sound}
use Rattle.element.proofs.Views.{span_drop}
use Rattle.tcap.specs.declared.Ground.{Ground}
use Rattle.tcap.specs.Meaning.{Component}
use Rattle.tcap.specs.Reading.{by_owner, answer_for}
use Rattle.read_place.specs.Places.{Far, Near, until, finite, part, front, base, fault_place, Placed, Closing, ended_of, unfinished_of, behind_of, missing, cut_off, seventeenth}
use Rattle.read_place.specs.Leaves.{Left, untold}
use Rattle.read_place.specs.Laying.{lay_component, lay_row, lay_rows, lay_components}
use Rattle.read_place.specs.Blames.{owner_in, id_in, Blames}
use Rattle.read_place.proofs.Answers.{far_fault, close_far, close_near, closing_rest}
use Rattle.read_place.proofs.Fronts.{ended_is, shut_here}
use Rattle.read_place.proofs.Walks.{unfinished_is}
use Rattle.read_place.proofs.Leaves.{left_where, left_next, left_far, left_near}
use Rattle.read_row.specs.Component.{ReadsComponent, LeavesComponent}
use Rattle.read_row.proofs.Pairs.{DoesAll}
use Rattle.read_component.specs.Components.{ends_at, rows_body, Carries, CarriesHere, id_in_octet}
use Rattle.std.specs.Prelude.{Some, None}
use Rattle.read_component.proofs.Rows.{series_missing, series_whole, series_cut, series_full, kinds, wheres, more, owned_here, here, one_more}

-- What `blame_component` stores

module _ (k : ℕ) (m : List ℕ) (at stop : ℕ) where
  pub blame_unknown : (l : List ℕ) → 4 ≤ length l → CarriesHere (id_in_octet None) m at stop → (owner_in (set (set (set (set l 0 2) 1 k) 2 0) 3 0) ≡ component k) × CarriesHere (id_in (set (set (set (set l 0 2) 1 k) 2 0) 3 0)) m at stop
  unfolding owner_in id_in id_in_octet
  blame_unknown [] h e = absurd (omega (arith, h))
  blame_unknown (a ∷ []) h e = absurd (omega (arith, h))
  blame_unknown (a ∷ b ∷ []) h e = absurd (omega (arith, h))
  blame_unknown (a ∷ b ∷ c ∷ []) h e = absurd (omega (arith, h))
  blame_unknown (a ∷ b ∷ c ∷ d ∷ l) h e = (refl, e)

  pub blame_known : (id : ℕ) (l : List ℕ) → 4 ≤ length l → CarriesHere (id_in_octet (Some id)) m at stop → (owner_in (set (set (set (set l 0 2) 1 k) 2 1) 3 id) ≡ component k) × CarriesHere (id_in (set (set (set (set l 0 2) 1 k) 2 1) 3 id)) m at stop
  unfolding owner_in id_in id_in_octet
  blame_known id [] h e = absurd (omega (arith, h))
  blame_known id (a ∷ []) h e = absurd (omega (arith, h))
  blame_known id (a ∷ b ∷ []) h e = absurd (omega (arith, h))
  blame_known id (a ∷ b ∷ c ∷ []) h e = absurd (omega (arith, h))
  blame_known id (a ∷ b ∷ c ∷ d ∷ l) h e = (refl, e)

-- A fault of a component, told with its number and its invoke ID
own_fault : {A : Type 0} (lay : A → List ℕ → List ℕ) (k : ℕ) (old new : List ℕ) → owner_in new ≡ component k → (x : Got A) (p end r : ℕ) → Placed p end x r → Near end → Far r → Carries (id_in new) x → Left lay Blames (blamed (in_component k) x) old new
unfolding Placed Left blamed in_component Carries Blames
own_fault lay k old new owner (got a n) p end r e b f c = absurd (omega (arith, e, b, f))
own_fault lay k old new owner (bad (fault j q o i t)) p end r e b f c = λ g. rw (c, owner)

-- nothing is asked of the invoke ID where the transaction portion is to blame
portion_answer : (g : Ground) (i j : Option ℤ) → answer_for g portion i ≡ answer_for g portion j
unfolding answer_for by_owner
portion_answer Ground.UnknownMessage i j = refl
portion_answer Ground.TooManyComponents i j = refl
portion_answer Ground.UnknownComponent i j = refl
portion_answer Ground.WrongPart i j = refl
portion_answer Ground.BadForm i j = refl

portion_told : (l : List ℕ) → 1 ≤ length l → (g : Ground) → answer_for g portion none ≡ answer_for g (owner_in (set l 0 0)) (id_in (set l 0 0))
unfolding owner_in
portion_told [] h g = absurd (omega (arith, h))
portion_told (a ∷ l) h g = portion_answer g none (id_in (0 ∷ l))

-- There is a first component, or a fault

any_then : {A : Type 0} (x : Got A) → Then (λ a n. Unit {0}) x
any_then (got a n) = fact tt
any_then (bad f) = void

rows_some : (d : Bool) (p : ℕ) (part : List ℕ) → Then (λ cs n. 1 ≤ length cs) (ask (rows_body 16 0) d p part)
unfolding series_body ends_at onward
rows_some d p part =
    ask_sound (λ cs n. 1 ≤ length cs) (rows_body 16 0) d p part (λ v e f. let z : ◌≡◌ {A = ℕ} 0 1 = cc in absurd (omega arith))
    (λ h i m. then_next {P = λ a n. Unit {0}} (any_then _) (λ a n u. then_blamed _ (then_next {P = λ b j. Unit {0}} (any_then _) (λ b j u. fact (omega arith)))))

-- The loop stands at `at`, k components are read, and their rows are laid out in `cur`

abbrev lay_from : ℕ → List (Component Text) → List ℕ → List ℕ
lay_from k cs l = set (lay_rows k cs l) 7 (k + length cs)

unfoldable pub Filling : List ℕ → ℕ → ℕ → ℕ → ℕ → List ℕ → List ℕ → Type 0
Filling m from stop k at old cur = (r : ℕ) (new : List ℕ) → DoesAll Blames (lay_from k) (rows_body (16 - k) k) m at stop r cur new → DoesAll Blames lay_components (rows_body 16 0) m from stop r old new

pub filling_start : (m : List ℕ) (from stop : ℕ) (old : List ℕ) → Filling m from stop 0 from old old
unfolding Filling Left lay_components
filling_start m from stop old = λ r new e. (e.0, go new _ (rows_some (finite stop) from (part m from stop)) e.1)
  where
    go : (new : List ℕ) (x : Got (List (Component Text))) → Then (λ cs n. 1 ≤ length cs) x → Left (lay_from 0) Blames x old new → Left lay_components Blames x old new
    go new (got [] n) t e = absurd (omega (arith, the_fact t))
    go new (got (c ∷ cs) n) t e = let z : 0 + suc (length cs) ≡ suc (length cs) = omega arith in e ∙ ap (set (lay_rows 0 (c ∷ cs) old) 7) z
    go new (bad f) t e = e

module _ (m : List ℕ) (from stop k at : ℕ) (old cur : List ℕ) (filling : Filling m from stop k at old cur) where
  abbrev Filled : ℕ → List ℕ → Type 0
  Filled r new = DoesAll Blames lay_components (rows_body 16 0) m from stop r old new

  portion_fault : (j : FaultKind) → ask (rows_body (16 - k) k) (finite stop) at (part m at stop) ≡ bad (fault j at portion none none) → 1 ≤ length cur → Filled (base j + at) (set cur 0 0)
  unfolding Filling Closing fault_place Left Blames
  portion_fault j is h = filling (base j + at) (set cur 0 0) (rw is (refl, portion_told cur h))

  pub none_filled : 1 ≤ length cur → (b : Bool) → b ≡ ended_of (end_of (finite stop) (part m at stop)) → b ≡ true → k ≡ 0 → Filled (missing + at) (set cur 0 0)
  unfolding ends_at base
  none_filled h b is t z =
      portion_fault FaultKind.Missing (rw z (series_missing wheres FaultKind.UnknownComponent kinds 0 (finite stop) at (part m at stop) 16 (ended_is (end_of (finite stop) (part m at stop)) b is t))) h

  pub cut_filled : 1 ≤ length cur → (c : Bool) → c ≡ unfinished_of (end_of (finite stop) (part m at stop)) → c ≡ true → Filled (cut_off + at) (set cur 0 0)
  unfolding base
  cut_filled h c is t =
      portion_fault FaultKind.CutOff (series_cut wheres FaultKind.UnknownComponent kinds k (finite stop) at (part m at stop) (ends_at k) (16 - k) (unfinished_is (end_of (finite stop) (part m at stop)) c is t)) h

  pub ended_filled : at ≤ until stop → until stop ≤ length m → (b : Bool) → b ≡ ended_of (end_of (finite stop) (part m at stop)) → b ≡ true → (k ≡ 0 → ⊥) → (r : ℕ) → r ≡ behind_of at stop → Filled r (set cur 7 k)
  unfolding Filling Closing ends_at Left lay_rows
  ended_filled g h b is t z r e = go k filling z
    where
      over : end_of (finite stop) (part m at stop) ≡ EndRead.Ended
      over = ended_is (end_of (finite stop) (part m at stop)) b is t

      go : (k : ℕ) → Filling m from stop k at old cur → (k ≡ 0 → ⊥) → Filled r (set cur 7 k)
      go zero on z = absurd (z refl)
      go (suc k) on z =
          let all : suc k + 0 ≡ suc k = omega arith in
          on r (set cur 7 (suc k)) (rw (e, series_whole wheres FaultKind.UnknownComponent kinds (suc k) (finite stop) at (part m at stop) (16 - suc k) over) (shut_here m at stop (finite stop) refl g h over, ap (set cur 7) (sym all)))

  module _ (b c : Bool) (is : b ≡ ended_of (end_of (finite stop) (part m at stop))) (also : c ≡ unfinished_of (end_of (finite stop) (part m at stop))) (no : b ≡ false) (nor : c ≡ false) where
    pub full_filled : 1 ≤ length cur → k ≡ 16 → Filled (seventeenth + at) (set cur 0 0)
    unfolding base
    full_filled h z =
        let none_left : 16 - k ≡ 0 = omega (arith, z) in
        portion_fault FaultKind.Seventeenth (rw none_left (series_full wheres FaultKind.UnknownComponent kinds k (finite stop) at (part m at stop) (ends_at k) (more m stop k at b c is also no nor))) h

    pub far_filled : k ≤ 16 → (k ≡ 16 → ⊥) → (r : ℕ) → ReadsComponent m at stop r → Far r → (new : List ℕ) → owner_in new ≡ component k → CarriesHere (id_in new) m at stop → Filled r new
    unfolding Filling
    far_filled most unfull r e f new owner carries =
        let placed = here m stop k at b c is also no nor most unfull r e in
        let told : Left (lay_row k) Blames (ask (front (wheres k) FaultKind.UnknownComponent kinds) (finite stop) at (part m at stop)) cur new =
        rw (owned_here m stop k at b c is also no nor) (own_fault (lay_row k) k cur new owner _ at (until stop) r e (omega arith) f carries) in
        filling r new (rw (one_more m stop k at b c is also no nor most unfull r e)
        (close_far _ _ at (until stop) r placed (finite stop) at (until stop) (omega arith) f, left_far Blames (lay_row k) (lay_from k) _ _ at (until stop) r placed cur cur new (omega arith) f told))

-- one more row, where the slice was lent
near_told : {A : Type 0} (lay : A → List ℕ → List ℕ) (x : Got A) (p end r : ℕ) (old new : List ℕ) → Placed p end x r → Near r → Left lay untold x old new → Left lay Blames x old new
unfolding Placed Left
near_told lay (got a n) p end r old new e f h = h
near_told lay (bad b) p end r old new e f h = absurd (omega (arith, e, f, far_fault b))

module _ (k : ℕ) (cur sub : List ℕ) where
  abbrev pub row_from : ℕ
  row_from = 44 + 24 * k

  abbrev pub row_size_lem : ℕ
  row_size_lem = 44 + 24 * k + 24 - (44 + 24 * k)

  row_left : (x : Got (Component Text)) → Left lay_component untold x (take row_size_lem (drop row_from cur)) sub → Left (lay_row k) untold x cur (put_mid row_from row_size_lem cur sub)
  unfolding Left lay_row
  row_left (got c n) e =
      let z : row_size_lem ≡ 24 = omega arith in
      let s : 44 + 24 * k + 24 ≡ 68 + 24 * k = omega arith in
      rw (e, z, drop-drop 24 row_from cur, s) (sym (append_assoc (take row_from cur) (lay_component c (take 24 (drop row_from cur))) (drop (68 + 24 * k) cur)))
  row_left (bad f) e = tt

module _ (m : List ℕ) (from stop k at : ℕ) (old cur : List ℕ) (filling : Filling m from stop k at old cur) (b c : Bool) (is : b ≡ ended_of (end_of (finite stop) (part m at stop))) (also : c ≡ unfinished_of (end_of (finite stop) (part m at stop))) (no : b ≡ false) (nor : c ≡ false)
    (most : k ≤ 16) (unfull : k ≡ 16 → ⊥) (r : ℕ) (e : ReadsComponent m at stop r) (f : Near r) (sub : List ℕ) (left : LeavesComponent m at stop (take (row_size_lem k cur sub) (drop (row_from k cur sub) cur)) sub) where
  abbrev laid : List ℕ
  laid = put_mid (row_from k cur sub) (row_size_lem k cur sub) cur sub

  pub filling_on : Filling m from stop (k + 1) r old laid
  unfolding Filling lay_rows
  filling_on =
      let next_one : k + 1 ≡ suc k = omega arith in
      let placed = here m stop k at b c is also no nor most unfull r e in
      let row = near_told (lay_row k) _ at (until stop) r cur laid placed f (left_where untold (lay_row k) kinds FaultKind.UnknownComponent (wheres k) (λ f l u. u) (finite stop) at (part m at stop) cur laid refl (row_left k cur sub _ left)) in
      rw next_one (λ q new y. filling q new (rw (one_more m stop k at b c is also no nor most unfull r e) (
        close_near _ _ at (until stop) r placed (finite stop) at (until stop) q f (λ a n i z.
            rw (span_drop m at (until stop) n) (closing_rest (λ ws. a ∷ ws) (finite stop) (ask (rows_body (16 - suc k) (suc k)) (finite stop) (at + n) (part m (at + n) stop)) at n (until stop) q (rw z at y.0))),
        left_near Blames (lay_row k) (lay_from k) _ _ at (until stop) r placed cur laid new f row (λ a n z q.
            rw (span_drop m at (until stop) n) (left_next Blames (lay_from (suc k)) (lay_from k) (λ ws. a ∷ ws) (λ j. n + j) (ask (rows_body (16 - suc k) (suc k)) (finite stop) (at + n) (part m (at + n) stop)) cur laid new
            (λ ws. let all : suc k + length ws ≡ k + suc (length ws) = omega arith in rw (q, all)) (rw z at y.1))),
      )))

pub row_long : (k : ℕ) (l : List ℕ) → length l ≡ 428 → k ≤ 16 → (k ≡ 16 → ⊥) → length (take (44 + 24 * k + 24 - (44 + 24 * k)) (drop (44 + 24 * k) l)) ≡ 24
row_long k l h most unfull =
    let z : 44 + 24 * k + 24 - (44 + 24 * k) ≡ 24 = omega arith in
    rw z (length-take-le 24 (drop (44 + 24 * k) l) (omega (arith, length-drop (44 + 24 * k) l, h, most, unfull)))
