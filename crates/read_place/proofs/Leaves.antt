-- What readers that are put together leave in the octets lent to them: one law for each way, as in Bodies. Assumes nothing.
use Prim.Native.Nat.{ℕ, ◌+◌, ◌≤◌}
use mathlib.Core.Path.{◌≡◌, refl, sym, ap, ◌∙◌}
use mathlib.Core.Bool.{Bool, true, false}
use mathlib.Core.List.{List}
use mathlib.Core.Option.{Option, none, some}
use native.Mathlib.Omega.{arith}
use lib.ListN.{length, get_or, drop}
use lib.Dec.{eqb, ltb}
use Rattle.element.specs.declared.FaultKind.{FaultKind}
use Rattle.element.specs.declared.EndRead.{EndRead}
use Rattle.element.specs.declared.TagRead.{TagRead}
use Rattle.element.specs.declared.LengthRead.{LengthRead}
use Rattle.element.specs.Element.{constructor_of}
use Rattle.element.specs.Fault.{Fault, at}
use Rattle.element.specs.Head.{end_of, length_of}
use Rattle.element.specs.inner.Fronts.{front_of, length_size}
use Rattle.element.specs.Ask.{Got, got, bad, next, check, blamed, definite, indefinite, head, Body, ask_length, at_end, ask}
use Rattle.element.specs.Parts.{Item, Where, level, done, around_item, bind_body, then_body, only_body, last_body, opt_body, map_body}
use Rattle.element.proofs.Views.{span_drop}
use Rattle.read_place.specs.Places.{Far, Near, until, finite, part, front, nothing, Placed, Closing, Shut, Reads, Finishes, Leads, stands_of, entry_place}
use Rattle.read_place.specs.Leaves.{Left, Leaves, LeavesAll, untold}
use Rattle.read_place.proofs.Answers.{Keeps, far_fault}
use Rattle.read_place.proofs.Fronts.{by_front, ask_front}
use Rattle.read_place.proofs.Asked.{rest, ask_bind, ask_then, ask_only, ask_last, ask_last_ended, ask_map, blamed_same}
use Rattle.read_place.proofs.Items.{stands_other}
use Rattle.read_place.proofs.Optional.{opt_absent, opened, lifted}
use Rattle.read_place.proofs.Around.{around_ask}

-- Where nothing is told of a fault, a fault leaves anything

pub far_left : {A : Type 0} (lay : A → List ℕ → List ℕ) (x : Got A) (p end r : ℕ) (old new : List ℕ) → Placed p end x r → Near end → Far r → Left lay untold x old new
unfolding Placed Left
far_left lay (got a n) p end r old new e b f = absurd (omega (arith, e, b, f))
far_left lay (bad g) p end r old new e b f = tt

pub far_closed : {A : Type 0} (lay : A → List ℕ → List ℕ) (d : Bool) (x : Got A) (p end r : ℕ) (old new : List ℕ) → Closing d p end x r → Near end → Far r → Left lay untold x old new
unfolding Closing Shut Left
far_closed lay true (got a n) p end r old new e b f = absurd (omega (arith, e, b, f))
far_closed lay false (got a n) p end r old new e b f = absurd (omega (arith, e, b, f))
far_closed lay d (bad g) p end r old new e b f = tt

-- an element, and contents, that a reader answered a fault of
pub leaves_far : {A : Type 0} (lay : A → List ℕ → List ℕ) (x : Item A) (m : List ℕ) (at stop r : ℕ) (old new : List ℕ) → Reads x m at stop r → Far r → Leaves lay untold x m at stop old new
leaves_far lay x m at stop r old new e f = far_left lay _ at (until stop) r old new e (omega arith) f

pub leaves_all_far : {A : Type 0} (lay : A → List ℕ → List ℕ) (b : Body A) (m : List ℕ) (at stop r : ℕ) (old new : List ℕ) → Finishes b m at stop r → Far r → LeavesAll lay untold b m at stop old new
leaves_all_far lay b m at stop r old new e f = far_closed lay (finite stop) _ at (until stop) r old new e (omega arith) f

-- Whatever is told, if it stays told of what others add to a fault

module _ (tell : Fault → List ℕ → Type 0) where
  abbrev pub Stays : (Fault → Fault) → Type 0
  Stays w = (f : Fault) (l : List ℕ) → tell f l → tell (w f) l

  pub left_blamed : {A : Type 0} (lay : A → List ℕ → List ℕ) (w : Fault → Fault) (stays : Stays w) (x : Got A) (old new : List ℕ) → Left lay tell x old new → Left lay tell (blamed w x) old new
  unfolding Left blamed
  left_blamed lay w stays (got a n) old new e = e
  left_blamed lay w stays (bad f) old new e = stays f new e

  -- under another name, however many octets it took
  pub left_next : {A B : Type 0} (lay : A → List ℕ → List ℕ) (out : B → List ℕ → List ℕ) (g : A → B) (size : ℕ → ℕ) (x : Got A) (old mid new : List ℕ) → ((a : A) → lay a mid ≡ out (g a) old) → Left lay tell x mid new
      → Left out tell (next x (λ a n. got (g a) (size n))) old new
  unfolding Left next
  left_next lay out g size (got a n) old mid new h e = e ∙ h a
  left_next lay out g size (bad f) old mid new h e = e

  -- a fault is passed on as it is; behind a place the rest is asked there
  module _ {A B : Type 0} (lay : A → List ℕ → List ℕ) (out : B → List ℕ → List ℕ) (x : Got A) (k : A → ℕ → Got B) (p end r : ℕ) (e : Placed p end x r) where
    pub left_far : (old mid new : List ℕ) → Near end → Far r → Left lay tell x mid new → Left out tell (next x k) old new
    unfolding Placed Left next
    left_far old mid new b f h = go x e h
      where
        go : (x : Got A) → Placed p end x r → Left lay tell x mid new → Left out tell (next x k) old new
        go (got a n) e h = absurd (omega (arith, b, e, f))
        go (bad g) e h = h

    pub left_near : (old mid new : List ℕ) → Near r → Left lay tell x old mid → ((a : A) (n : ℕ) → r ≡ p + n → mid ≡ lay a old → Left out tell (k a n) old new) → Left out tell (next x k) old new
    unfolding Placed Left next
    left_near old mid new f h g = go x e h
      where
        go : (x : Got A) → Placed p end x r → Left lay tell x old mid → Left out tell (next x k) old new
        go (got a n) e h = g a n e.0 h
        go (bad b) e h = absurd (omega (arith, e, f, far_fault b))

  -- Whom an element belongs to, and how many levels are left, if any

  module _ {A : Type 0} (lay : A → List ℕ → List ℕ) (x : Item A) (o : FaultKind) (w : Where) (stays : Stays w.owner) (d : Bool) (p : ℕ) (part : List ℕ) (old new : List ℕ) where
    where_length : (a s : ℕ) (l : LengthRead) → Left lay tell (ask_length (front (level 1) o x) d p part a s l) old new → Left lay tell (ask_length (front w o x) d p part a s l) old new
    unfolding ask_length Left
    where_length a s (LengthRead.Fault k) e = stays _ new e
    where_length a s (LengthRead.Definite k n) e = left_blamed lay w.owner stays _ old new (rw (blamed_same (x.contents (head a (s + k) (definite n)) p part)) at e)
    where_length a s LengthRead.Indefinite e = left_blamed lay w.owner stays _ old new (rw (blamed_same (x.contents (head a (s + 1) indefinite) p part)) at e)

    where_check : (b : Bool) (f : Fault) (u v : Got A) → (Left lay tell u old new → Left lay tell v old new) → Left lay tell (check b f u) old new → Left lay tell (check b (w.owner f) v) old new
    unfolding check Left
    where_check true f u v h e = h e
    where_check false f u v h e = stays f new e

    where_front : (e : EndRead) (t : TagRead) → Left lay tell (by_front (front (level 1) o x) d p part e t) old new → Left lay tell (by_front (front w o x) d p part e t) old new
    unfolding by_front at_end
    where_front EndRead.Ended t e = e
    where_front EndRead.Unfinished t e = e
    where_front EndRead.More (TagRead.Fault k) e = unfold Left in stays _ new e
    where_front EndRead.More (TagRead.Tag a s) e = where_check (x.mine a) _ _ _ (where_length a s (length_of (drop s part) (constructor_of a))) e

    pub left_where : ltb 0 w.left ≡ true → Left lay tell (ask (front (level 1) o x) d p part) old new → Left lay tell (ask (front w o x) d p part) old new
    left_where deep e = rw (ask_front (front w o x) d p part refl deep) (where_front (end_of d part) (front_of 1 part) (rw (ask_front (front (level 1) o x) d p part refl refl) at e))

  -- Contents put together: the first element changes `old` into `mid`, the rest that into `new`

  module _ {A : Type 0} (w : Where) (x : Item A) (m : List ℕ) (at stop r : ℕ) (e : Placed at (until stop) (ask (front w FaultKind.Another x) (finite stop) at (part m at stop)) r) (lay : A → List ℕ → List ℕ) (old : List ℕ) where
    abbrev First : List ℕ → Type 0
    First mid = Left lay tell (ask (front w FaultKind.Another x) (finite stop) at (part m at stop)) old mid

    left_rest : {B C : Type 0} (y : Body B) (put : B → List ℕ → List ℕ) (out : C → List ℕ → List ℕ) (f : B → C) (n : ℕ) (mid new : List ℕ) → r ≡ at + n → ((b : B) → put b mid ≡ out (f b) old)
        → LeavesAll put tell y m r stop mid new → Left out tell (next (ask y (finite stop) (at + n) (drop n (part m at stop))) (λ b k. got (f b) (n + k))) old new
    left_rest y put out f n mid new z h q = rw (span_drop m at (until stop) n) (left_next put out f (λ k. n + k) (ask y (finite stop) (at + n) (part m (at + n) stop)) old mid new h (rw z at q))

    module _ {B : Type 0} (note : A → Fault → Fault) (stays : (a : A) → Stays (note a)) (y : A → Body B) (put : A → B → List ℕ → List ℕ) where
      pub bind_left_far : (new : List ℕ) → Far r → First new → LeavesAll (λ v l. put v.0 v.1 (lay v.0 l)) tell (bind_body w note x y) m at stop old new
      bind_left_far new f h = rw (ask_bind w x (finite stop) at (part m at stop) note y) (left_far lay _ _ _ at (until stop) r e old old new (omega arith) f h)

      pub bind_left : (mid new : List ℕ) → Near r → First mid → ((a : A) → LeavesAll (put a) tell (y a) m r stop mid new) → LeavesAll (λ v l. put v.0 v.1 (lay v.0 l)) tell (bind_body w note x y) m at stop old new
      bind_left mid new f h g =
          rw (ask_bind w x (finite stop) at (part m at stop) note y) (left_near lay _ _ _ at (until stop) r e old mid new f h (λ a n z q.
          left_blamed _ (note a) (stays a) _ old new (left_rest (y a) (put a) _ (λ b. (a, b)) n mid new z (λ b. ap (put a b) q) (g a))))

    module _ {B : Type 0} (y : Body B) (put : B → List ℕ → List ℕ) where
      pub then_left_far : (new : List ℕ) → Far r → First new → LeavesAll (λ v l. put v.1 (lay v.0 l)) tell (then_body w x y) m at stop old new
      then_left_far new f h = rw (ask_then w x (finite stop) at (part m at stop) y) (left_far lay _ _ _ at (until stop) r e old old new (omega arith) f h)

      pub then_left : (mid new : List ℕ) → Near r → First mid → LeavesAll put tell y m r stop mid new → LeavesAll (λ v l. put v.1 (lay v.0 l)) tell (then_body w x y) m at stop old new
      then_left mid new f h g =
          rw (ask_then w x (finite stop) at (part m at stop) y) (left_near lay _ _ _ at (until stop) r e old mid new f h (λ a n z q. left_rest y put _ (λ b. (a, b)) n mid new z (λ b. ap (put b) q) g))

    -- nothing more may come, which lays nothing out
    module _ (own : Stays w.owner) (deep : ltb 0 w.left ≡ true) where
      done_front : {C : Type 0} (v : C) (d : Bool) (p : ℕ) (l : List ℕ) (new : List ℕ) (e : EndRead) (t : TagRead) → Left (λ (c : ℕ) (l : List ℕ). l) tell (by_front nothing d p l e t) new new → Left (λ (c : C) (l : List ℕ). l) tell (by_front (done w v) d p l e t) new new
      unfolding by_front at_end Left check
      done_front v d p l new EndRead.Ended t e = e
      done_front v d p l new EndRead.Unfinished t e = e
      done_front v d p l new EndRead.More (TagRead.Fault k) e = own _ new e
      done_front v d p l new EndRead.More (TagRead.Tag a s) e = own _ new e

      left_done : {C : Type 0} (v : C) (d : Bool) (p : ℕ) (l : List ℕ) (new : List ℕ) → Left (λ (c : ℕ) (l : List ℕ). l) tell (ask nothing d p l) new new → Left (λ (c : C) (l : List ℕ). l) tell (ask (done w v) d p l) new new
      left_done v d p l new e = rw (ask_front (done w v) d p l refl deep) (done_front v d p l new (end_of d l) (front_of 1 l) (rw (ask_front nothing d p l refl refl) at e))

      -- after it the contents end, or what is told of the fault there
      abbrev Ends : List ℕ → Type 0
      Ends new = LeavesAll (λ (c : ℕ) (l : List ℕ). l) tell nothing m r stop new new

      by_value : {C : Type 0} (out : C → List ℕ → List ℕ) (f : A → C) (a : A) (n : ℕ) (new : List ℕ) → r ≡ at + n → new ≡ lay a old → ((a : A) (l : List ℕ) → lay a l ≡ out (f a) l) → Ends new
          → Left out tell (rest (λ a. done w a) (λ a b. f a) (finite stop) at (part m at stop) a n) old new
      by_value out f a n new z q same h =
          left_rest (done w a) (λ c l. l) out (λ b. f a) n new new z (λ b. q ∙ same a old) (left_done a (finite stop) r (part m r stop) new h)

      pub only_left : (new : List ℕ) → Near r → First new → Ends new → LeavesAll lay tell (only_body w x) m at stop old new
      only_left new f h g = rw (ask_only w x (finite stop) at (part m at stop)) (left_near lay lay _ _ at (until stop) r e old new new f h (λ a n z q. by_value lay (λ a. a) a n new z q (λ a l. refl) g))

      pub last_left : (end_of (finite stop) (part m at stop) ≡ EndRead.Ended → ⊥) → (out : Option A → List ℕ → List ℕ) → ((a : A) (l : List ℕ) → lay a l ≡ out (some a) l) → (new : List ℕ) → Near r → First new → Ends new → LeavesAll out tell (last_body w x) m at stop old new
      last_left some_here out same new f h g =
          rw (ask_last w x (finite stop) at (part m at stop) some_here) (left_near lay out _ _ at (until stop) r e old new new f h (λ a n z q. by_value out (λ a. some a) a n new z q same g))

    pub only_left_far : (new : List ℕ) → Far r → First new → LeavesAll lay tell (only_body w x) m at stop old new
    only_left_far new f h = rw (ask_only w x (finite stop) at (part m at stop)) (left_far lay lay _ _ at (until stop) r e old old new (omega arith) f h)

    pub last_left_far : (end_of (finite stop) (part m at stop) ≡ EndRead.Ended → ⊥) → (out : Option A → List ℕ → List ℕ) → (new : List ℕ) → Far r → First new → LeavesAll out tell (last_body w x) m at stop old new
    last_left_far some_here out new f h = rw (ask_last w x (finite stop) at (part m at stop) some_here) (left_far lay out _ _ at (until stop) r e old old new (omega arith) f h)

  -- left out
  pub last_left_none : {A : Type 0} (w : Where) (x : Item A) (out : Option A → List ℕ → List ℕ) (m : List ℕ) (at stop : ℕ) (old : List ℕ) → ((l : List ℕ) → out none l ≡ l) → end_of (finite stop) (part m at stop) ≡ EndRead.Ended → LeavesAll out tell (last_body w x) m at stop old old
  last_left_none w x out m at stop old same e = rw (ask_last_ended w x (finite stop) at (part m at stop) e) (unfold Left in sym (same old))

  -- under another name
  pub map_left : {A B : Type 0} (f : A → B) (b : Body A) (lay : A → List ℕ → List ℕ) (out : B → List ℕ → List ℕ) (m : List ℕ) (at stop : ℕ) (old new : List ℕ) → ((a : A) (l : List ℕ) → lay a l ≡ out (f a) l) → LeavesAll lay tell b m at stop old new → LeavesAll out tell (map_body f b) m at stop old new
  map_left f b lay out m at stop old new same e = rw (ask_map f b (finite stop) at (part m at stop)) (left_next lay out f (λ n. n) _ old old new (λ a. same a old) e)

  -- a constructor leaves what its contents do
  module _ {A : Type 0} (b : Body A) (m : List ℕ) (at stop tag inner st : ℕ) (g : at ≤ until stop) (h : until stop ≤ length m) (top : length m ≤ 65535) (leads : Leads tag) (kind : constructor_of tag ≡ true)
      (entry : inner ≡ entry_place true m at stop tag) (near : Near inner) (start : st ≡ at + 1 + length_size (get_or m (at + 1) 0)) (lay : A → List ℕ → List ℕ) (old new : List ℕ) where
    pub around_left : LeavesAll lay tell b m st inner old new → Leaves lay tell (around_item tag b) m at stop old new
    around_left e = let (size, is) = around_ask b m at stop tag inner st g h top leads kind entry near start in rw is (left_next lay lay (λ a. a) size (ask b (finite inner) st (part m st inner)) old old new (λ a. refl) e)

  -- one that may be left out, and then the rest
  module _ {A B : Type 0} (tag : ℕ) (x : Item A) (only : (a : ℕ) → x.mine a ≡ eqb a tag) (y : Body B) (full : y.full ≡ false) (deep : ltb 0 y.left ≡ true) (another : y.other ≡ FaultKind.Another) (keeps : Keeps y.owner) (leads : Leads tag)
      (m : List ℕ) (at stop : ℕ) (g : at ≤ until stop) (h : until stop ≤ length m) (b : Bool) (is : b ≡ stands_of m at stop tag) (lay : A → List ℕ → List ℕ) (put : B → List ℕ → List ℕ) (out : Option A × B → List ℕ → List ℕ) (old : List ℕ) where
    pub opt_left_none : b ≡ false → ((v : B) (l : List ℕ) → put v l ≡ out (none, v) l) → (new : List ℕ) → LeavesAll put tell y m at stop old new → LeavesAll out tell (opt_body x y) m at stop old new
    opt_left_none t same new e = rw (opt_absent x y full deep (finite stop) at (part m at stop) (λ a s z. only a ∙ stands_other m at stop tag h (sym is ∙ t) a s z)) (left_next put out (λ v. (none, v)) (λ n. n) _ old old new (λ v. same v old) e)

    module _ (t : b ≡ true) (r : ℕ) (e : Reads x m at stop r) (stays : Stays y.owner) where
      abbrev its : Where
      its = record { left = y.left; owner = y.owner }

      pub opt_left_far : (new : List ℕ) → Far r → Leaves lay tell x m at stop old new → LeavesAll out tell (opt_body x y) m at stop old new
      opt_left_far new f q =
          rw (opened tag x only y full deep another keeps leads m at stop g h b is t r e) (left_far lay out _ _ at (until stop) r (lifted tag x only y full deep another keeps leads m at stop g h b is t r e) old old new (omega arith) f
          (left_where lay x FaultKind.Another its stays (finite stop) at (part m at stop) old new deep q))

      pub opt_left : ((a : A) (v : B) (l : List ℕ) → put v (lay a l) ≡ out (some a, v) l) → (mid new : List ℕ) → Near r → Leaves lay tell x m at stop old mid → LeavesAll put tell y m r stop mid new → LeavesAll out tell (opt_body x y) m at stop old new
      opt_left same mid new f q w =
          rw (opened tag x only y full deep another keeps leads m at stop g h b is t r e) (left_near lay out _ _ at (until stop) r (lifted tag x only y full deep another keeps leads m at stop g h b is t r e) old mid new f
          (left_where lay x FaultKind.Another its stays (finite stop) at (part m at stop) old mid deep q)
          (λ a n z i. left_rest its x m at stop r (lifted tag x only y full deep another keeps leads m at stop g h b is t r e) lay old y put out (λ v. (some a, v)) n mid new z (λ v. ap (put v) i ∙ same a v old) w))
