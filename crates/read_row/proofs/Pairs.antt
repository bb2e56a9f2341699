-- What a reader answers and what it leaves, both in one law for each way to put contents together. Assumes nothing.
use Prim.Native.Nat.{ℕ, ◌+◌, ◌≤◌}
use mathlib.Core.Path.{◌≡◌, refl, sym, ◌∙◌}
use mathlib.Core.Bool.{Bool, true, false, cond, ◌||◌}
use mathlib.Core.List.{List}
use mathlib.Core.Option.{Option, none, some}
use lib.ListN.{length, get_or, drop}
use lib.Dec.{eqb, ltb}
use borrow.Author.Tests.{eqb-true, eq-eqb, ne_eqb}
use Rattle.element.specs.declared.{FaultKind.FaultKind, EndRead.EndRead, TagRead.TagRead, LengthRead.LengthRead}
use Rattle.element.specs.Element.{constructor_of}
use Rattle.element.specs.Fault.{Fault}
use Rattle.element.specs.Head.{end_of, length_of}
use Rattle.element.specs.inner.Fronts.{front_of}
use Rattle.element.specs.Ask.{check, Size, definite, indefinite, Head, head, Body, ask_length, at_end, ask}
use Rattle.element.specs.Parts.{Item, level, done, around_item, bind_body, only_body, last_body, map_body}
use Rattle.element.proofs.Views.{span_drop}
use Rattle.read_place.specs.Places.{Far, Near, until, finite, part, front, nothing, Placed, Reads, Finishes, ended_of, behind_of}
use Rattle.read_place.specs.Leaves.{Left, Leaves, LeavesAll, unlaid}
use Rattle.read_place.proofs.Answers.{Keeps}
use Rattle.read_place.proofs.Fronts.{by_front, ask_front, ended_is, not_ended}
use Rattle.read_place.proofs.Items.{front_octet}
use Rattle.read_place.proofs.Asked.{rest, ask_only, ask_last}
use Rattle.read_place.proofs.Bodies.{placed_where, bind_far, bind_near, only_far, only_near, last_far, last_near, last_none, map_closed}
use Rattle.read_place.proofs.Leaves.{Stays, left_where, left_next, left_near, bind_left_far, bind_left, only_left_far, last_left_far, last_left_none, map_left}
use Rattle.read_row.specs.Component.{lay_both}

module _ (tell : Fault → List ℕ → Type 0) where
  -- of an element, and of contents
  abbrev pub Does : {A : Type 0} → (A → List ℕ → List ℕ) → Item A → List ℕ → ℕ → ℕ → ℕ → List ℕ → List ℕ → Type 0
  Does lay x m at stop r old new = Reads x m at stop r × Leaves lay tell x m at stop old new

  abbrev pub DoesAll : {A : Type 0} → (A → List ℕ → List ℕ) → Body A → List ℕ → ℕ → ℕ → ℕ → List ℕ → List ℕ → Type 0
  DoesAll lay b m at stop r old new = Finishes b m at stop r × LeavesAll lay tell b m at stop old new

  -- under another name
  pub named : {A B : Type 0} (f : A → B) (b : Body A) (lay : A → List ℕ → List ℕ) (out : B → List ℕ → List ℕ) (m : List ℕ) (at stop r : ℕ) (old new : List ℕ) → ((a : A) (l : List ℕ) → lay a l ≡ out (f a) l) → DoesAll lay b m at stop r old new
      → DoesAll out (map_body f b) m at stop r old new
  named f b lay out m at stop r old new same e = (map_closed f b m at stop r e.0, map_left tell f b lay out m at stop old new same e.1)

  -- nothing more may come, whatever was read before: a value is kept
  done_front : {C : Type 0} (l : ℕ) (v : C) (d : Bool) (p : ℕ) (s old new : List ℕ) (e : EndRead) (t : TagRead) → Left (unlaid {A = ℕ}) tell (by_front nothing d p s e t) old new → Left (unlaid {A = C}) tell (by_front (done (level l) v) d p s e t) old new
  unfolding by_front at_end Left check
  done_front l v d p s old new EndRead.Ended t e = e
  done_front l v d p s old new EndRead.Unfinished t e = e
  done_front l v d p s old new EndRead.More (TagRead.Fault k) e = e
  done_front l v d p s old new EndRead.More (TagRead.Tag a n) e = e

  -- The first element stands at level l
  module _ {A : Type 0} (l : ℕ) (deep : ltb 0 l ≡ true) (x : Item A) (lay : A → List ℕ → List ℕ) (m : List ℕ) (at stop r : ℕ) (old mid : List ℕ) (e : Does lay x m at stop r old mid) where
    placed : Placed at (until stop) (ask (front (level l) FaultKind.Another x) (finite stop) at (part m at stop)) r
    placed = placed_where x FaultKind.Another (level l) (λ f. refl) (finite stop) at (part m at stop) (until stop) r deep e.0

    laid : Left lay tell (ask (front (level l) FaultKind.Another x) (finite stop) at (part m at stop)) old mid
    laid = left_where tell lay x FaultKind.Another (level l) (λ f o t. t) (finite stop) at (part m at stop) old mid deep e.1

    -- and then the rest; `note` tells of it to later faults
    module _ {B : Type 0} (note : A → Fault → Fault) (keeps : (a : A) → Keeps (note a)) (stays : (a : A) → Stays tell (note a)) (y : Body B) (put : B → List ℕ → List ℕ) where
      pub bind_fault : Far r → DoesAll (lay_both lay put) (bind_body (level l) note x (λ a. y)) m at stop r old mid
      bind_fault f = (bind_far (level l) x m at stop r placed note keeps (λ a. y) f, bind_left_far tell (level l) x m at stop r placed lay old note stays (λ a. y) (λ a. put) mid f laid)

      pub bind_rest : Near r → (s : ℕ) (new : List ℕ) → DoesAll put y m r stop s mid new → DoesAll (lay_both lay put) (bind_body (level l) note x (λ a. y)) m at stop s old new
      bind_rest f s new q =
          (bind_near (level l) x m at stop r placed note keeps (λ a. y) s f (λ a. q.0), bind_left tell (level l) x m at stop r placed lay old note stays (λ a. y) (λ a. put) mid new f laid (λ a. q.1))

    -- and nothing more; it must come, or may be left out
    pub only_fault : Far r → DoesAll lay (only_body (level l) x) m at stop r old mid
    only_fault f = (only_far (level l) x m at stop r placed f, only_left_far tell (level l) x m at stop r placed lay old mid f laid)

    module _ (near : Near r) (s : ℕ) (new : List ℕ) (q : DoesAll unlaid nothing m r stop s mid new) where
      by_value : {C : Type 0} (out : C → List ℕ → List ℕ) (f : A → C) → ((a : A) (o : List ℕ) → lay a o ≡ out (f a) o) → (a : A) (n : ℕ) → r ≡ at + n → mid ≡ lay a old
          → Left out tell (rest (λ a. done (level l) a) (λ a b. f a) (finite stop) at (part m at stop) a n) old new
      by_value out f same a n z i =
          let k = done_front l a (finite stop) r (part m r stop) mid new (end_of (finite stop) (part m r stop)) (front_of 1 (part m r stop)) (rw (ask_front nothing (finite stop) r (part m r stop) refl refl) at q.1) in
          let h : LeavesAll unlaid tell (done (level l) a) m r stop mid new = rw (ask_front (done (level l) a) (finite stop) r (part m r stop) refl deep) k in
          rw (span_drop m at (until stop) n) (left_next tell unlaid out (λ b. f a) (λ k. n + k) _ old mid new (λ b. i ∙ same a old) (rw z at h))

      pub only_end : DoesAll lay (only_body (level l) x) m at stop s old new
      only_end =
          (only_near (level l) x m at stop r placed (λ f. refl) deep s near q.0, rw (ask_only (level l) x (finite stop) at (part m at stop)) (left_near tell lay lay _ _ at (until stop) r placed old mid new near laid (by_value lay (λ a. a) (λ a o. refl))))

      module _ (b : Bool) (is : b ≡ ended_of (end_of (finite stop) (part m at stop))) (no : b ≡ false) (out : Option A → List ℕ → List ℕ) (same : (a : A) (o : List ℕ) → lay a o ≡ out (some a) o) where
        pub last_end : DoesAll out (last_body (level l) x) m at stop s old new
        last_end =
            let more = not_ended (end_of (finite stop) (part m at stop)) b is no in
            (last_near (level l) x m at stop r placed more (λ f. refl) deep s near q.0, rw (ask_last (level l) x (finite stop) at (part m at stop) more) (left_near tell lay out _ _ at (until stop) r placed old mid new near laid (by_value out (λ a. some a) same)))

    pub last_fault : (b : Bool) → b ≡ ended_of (end_of (finite stop) (part m at stop)) → b ≡ false → (out : Option A → List ℕ → List ℕ) → Far r → DoesAll out (last_body (level l) x) m at stop r old mid
    last_fault b is un out f =
        let more = not_ended (end_of (finite stop) (part m at stop)) b is un in
        (last_far (level l) x m at stop r placed more f, last_left_far tell (level l) x m at stop r placed lay old more out mid f laid)

  pub last_out : {A : Type 0} (l : ℕ) (x : Item A) (out : Option A → List ℕ → List ℕ) (m : List ℕ) (at stop : ℕ) → at ≤ until stop → until stop ≤ length m → (b : Bool) → b ≡ ended_of (end_of (finite stop) (part m at stop)) → b ≡ true
      → (r : ℕ) → r ≡ behind_of at stop → (old : List ℕ) → ((o : List ℕ) → out none o ≡ o) → DoesAll out (last_body (level l) x) m at stop r old old
  last_out l x out m at stop g h b is t r e old same =
      let end = ended_is (end_of (finite stop) (part m at stop)) b is t in
      (rw e (last_none (level l) x m at stop g h end), last_left_none tell (level l) x out m at stop old same end)

-- Of several kinds that one is asked whose tag stands here, whatever the fault of another tag

module _ {A : Type 0} (o u : FaultKind) (x y : Item A) (d : Bool) (p : ℕ) (s : List ℕ) where
  abbrev Alike : ℕ → Type 0
  Alike a = (x.mine a ≡ true) × (y.mine a ≡ true) × ((n : ℕ) (z : Size) → x.contents (head a n z) p s ≡ y.contents (head a n z) p s)

  alike_length : (a n : ℕ) → Alike a → (k : LengthRead) → ask_length (front (level 1) o x) d p s a n k ≡ ask_length (front (level 1) u y) d p s a n k
  unfolding ask_length
  alike_length a n h (LengthRead.Fault k) = refl
  alike_length a n h (LengthRead.Definite k j) = rw (h.2 (n + k) (definite j))
  alike_length a n h LengthRead.Indefinite = rw (h.2 (n + 1) indefinite)

  alike_front : (e : EndRead) (t : TagRead) → ((a n : ℕ) → t ≡ TagRead.Tag a n → Alike a) → by_front (front (level 1) o x) d p s e t ≡ by_front (front (level 1) u y) d p s e t
  unfolding by_front at_end check
  alike_front EndRead.Ended t h = refl
  alike_front EndRead.Unfinished t h = refl
  alike_front EndRead.More (TagRead.Fault k) h = refl
  alike_front EndRead.More (TagRead.Tag a n) h = let i = h a n refl in rw (i.0, i.1) (alike_length a n i (length_of (drop n s) (constructor_of a)))

  alike_ask : ((a n : ℕ) → front_of 1 s ≡ TagRead.Tag a n → Alike a) → ask (front (level 1) o x) d p s ≡ ask (front (level 1) u y) d p s
  alike_ask h = ask_front (front (level 1) o x) d p s refl refl ∙ alike_front (end_of d s) (front_of 1 s) h ∙ sym (ask_front (front (level 1) u y) d p s refl refl)

module _ {A : Type 0} (m : List ℕ) (at stop : ℕ) (h : until stop ≤ length m) (o : FaultKind) (x : Item A) (body : ℕ → Body A) where
  -- the contents of each kind do not depend on its tag
  abbrev pub Bodied : ℕ → Type 0
  Bodied a = (n : ℕ) (z : Size) → x.contents (head a n z) at (part m at stop) ≡ (around_item a (body a)).contents (head a n z) at (part m at stop)

  pub kind_asked : x.mine (get_or m at 0) ≡ true → Bodied (get_or m at 0)
      → ask (front (level 1) o x) (finite stop) at (part m at stop) ≡ ask (front (level 1) FaultKind.Another (around_item (get_or m at 0) (body (get_or m at 0)))) (finite stop) at (part m at stop)
  kind_asked mine bodied = alike_ask o FaultKind.Another x (around_item (get_or m at 0) (body (get_or m at 0))) (finite stop) at (part m at stop) (λ a n z. rw (← (front_octet m at (until stop) a n h z).1) (mine, eq-eqb (get_or m at 0) (get_or m at 0) refl, bodied))

pub of_five : {A : Type 0} (i j k l n : Body A) (h : Head) (p : ℕ) (s : List ℕ) (a b c d : Bool)
    → cond a ((around_item 0 i).contents h p s) (cond b ((around_item 0 j).contents h p s) (cond c ((around_item 0 k).contents h p s) (cond d ((around_item 0 l).contents h p s) ((around_item 0 n).contents h p s))))
    ≡ (around_item 0 (cond a i (cond b j (cond c k (cond d l n))))).contents h p s
of_five i j k l n h p s true b c d = refl
of_five i j k l n h p s false true c d = refl
of_five i j k l n h p s false false true d = refl
of_five i j k l n h p s false false false true = refl
of_five i j k l n h p s false false false false = refl

-- What holds of every tag of a kind, holds of one of them; and how a tag is asked for
pub or_tag : (P : ℕ → Type 0) (a t : ℕ) (r : Bool) → P t → (r ≡ true → P a) → (eqb a t || r) ≡ true → P a
or_tag P a t r p q = go (eqb a t) refl
  where
    go : (b : Bool) → eqb a t ≡ b → (b || r) ≡ true → P a
    go true i e = rw (eqb-true a t i) p
    go false i e = q e

pub is_tag_lem : (a t : ℕ) (r : Bool) → a ≡ t → true ≡ (eqb a t || r)
is_tag_lem a t r e = rw (eq-eqb a t e)

pub not_tag : (a t : ℕ) (b r : Bool) → (a ≡ t → ⊥) → b ≡ r → b ≡ (eqb a t || r)
not_tag a t b r n e = rw (ne_eqb a t n) e
