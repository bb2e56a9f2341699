-- Items and bodies put together are read right if their parts are. Assumes nothing.
use Prim.Native.Nat.{ℕ, zero, suc, ◌+◌, ◌≤◌}
use mathlib.Core.Path.{◌≡◌, refl, sym, ap, ap₂, ◌∙◌}
use mathlib.Core.Logic.{◌⊎◌, inl, inr}
use mathlib.Core.Bool.{Bool, true, false, cond, ◌||◌, false≢true}
use mathlib.Core.List.{List, [], ◌∷◌, ◌++◌, append_assoc, map}
use mathlib.Core.Option
use mathlib.Core.Option.{Option, none, some}
use native.Mathlib.Omega.{arith}
use native.Mathlib.Nat.{add-zero}
use lib.ListN.{length, take, drop, length-append, length-drop}
use lib.Seq.{drop-append_seam, take-add, drop-drop}
use lib.Dec.{ltb, eqb}
use borrow.Author.Tests.{ne_eqb}
use Rattle.element.specs.Form.{Form, exactly, then, Matches, maybe, series_form, document01}
use Rattle.base.specs.Value.{Every, Maybe}
use Rattle.element.specs.declared.FaultKind.{FaultKind}
use Rattle.element.specs.Fault.{Fault}
use Rattle.element.specs.declared.EndRead.TheVariants.{Ended as ended}
use Rattle.element.specs.Head.{end_of}
use Rattle.element.specs.Ask.{Got, got, Head, Body, ask}
use Rattle.element.specs.Parts.{Item, Where, first_of, map_item, or_item, done, onward, silently, bind_body, only_body, last_body, opt_pick, opt_body, map_body, series_body}
use Rattle.element.proofs.Asking.{Then, fact, then_next, then_blamed, then_weaken, next_of, blamed_of, HeadOf, ask_ends, ask_sound}
use Rattle.element.proofs.ItemLaws.{Took, Reads, ItemLaws, BodyReads, nothing, begun, BodyLaws, Asked, asked_complete, asked_sound}

-- Values under other names: each way with what is of the form

module _ {L M A B : Type 0} (f : L → M) (g : A → B) (mx : L → A) (my : M → B) (same : (v : L) → my (f v) ≡ g (mx v))
    (fx : A → Form) (okx : A → Type 0) (fy : B → Form) (oky : B → Type 0)
    (there : (b : B) (m : List ℕ) → oky b → Matches document01 (fy b) m → (a : A) × (g a ≡ b) × okx a × Matches document01 (fx a) m)
    (back : (a : A) (m : List ℕ) → okx a → Matches document01 (fx a) m → oky (g a) × Matches document01 (fy (g a)) m) where
  took_back : (part : List ℕ) (n : ℕ) (v : L) → Took (fx (mx v)) (okx (mx v)) part n → Took (fy (my (f v))) (oky (my (f v))) part n
  took_back part n v t = let w = back (mx v) (take n part) t.fine t.matches in rw (same v) (record { within = t.within; matches = w.1; fine = w.0 })

  pub map_laws : (x : Item L) → ItemLaws x mx fx okx → ItemLaws (map_item f x) my fy oky
  map_laws x xs =
      record {
        complete = λ b m rest p o e. let (a, q, i, j) = there b m o e in let r = xs.complete a m rest p i j in
            record { lead = r.lead; heads = r.heads; mine = r.mine; value = f r.value; reads = next_of _ r.reads; means = same r.value ∙ ap g r.means ∙ q };
        sound = λ p part h i m. then_next (xs.sound p part h i m) λ v n t. fact {a = f v} {n = n} (took_back part n v t);
      }

  module _ (room : ℕ) (x : Body L) (xs : BodyLaws room x mx fx okx) where
    map_reads : (b : B) (a : A) (d : Bool) (p : ℕ) (m rest : List ℕ) → g a ≡ b → BodyReads x mx a d p m rest → BodyReads (map_body f x) my b d p m rest
    map_reads b a d p m rest q (nothing v z e i) = nothing (f v) z (rw e) (same v ∙ ap g i ∙ q)
    map_reads b a d p m rest q (begun h i j k l v e n) = begun h i j k l (f v) (next_of _ e) (same v ∙ ap g n ∙ q)

    map_ends : (o : Option L) → x.ends ≡ o → (v : M) → Option.map f o ≡ some v → Took (fy (my v)) (oky (my v)) [] 0
    map_ends none i v e = let z : ◌≡◌ {A = ℕ} 0 1 = cc in absurd (omega arith)
    map_ends (some w) i v e = let z : f w ≡ v = cc in rw (← z) (took_back [] 0 w (xs.empty w i))

    pub map_body_laws : BodyLaws room (map_body f x) my fy oky
    map_body_laws =
        record {
          complete = λ b m rest d p k o e h. let (a, q, i, j) = there b m o e in map_reads b a d p m rest q (xs.complete a m rest d p k i j h);
          empty = map_ends x.ends refl;
          sound = λ d p part h i m. then_next (xs.sound d p part h i m) λ v n t. fact {a = f v} {n = n} (took_back part n v t.0, t.1);
        }

-- One item or another: the tag tells

or_right : (a : Bool) {b : Bool} → b ≡ true → (a || b) ≡ true
or_right true e = refl
or_right false e = e

-- a first octet that passes f is not t
pub apart : (t : ℕ) (f : ℕ → Bool) → f t ≡ false → (a : ℕ) → f a ≡ true → eqb a t ≡ false
apart t f n a e = ne_eqb a t λ q. false≢true (sym n ∙ ap f (sym q) ∙ e)

module _ {L A : Type 0} (t : ℕ) (x y : Item L) {meaning : L → A} {form : A → Form} {okx oky : A → Type 0}
    (xs : ItemLaws x meaning form okx) (ys : ItemLaws y meaning form oky) (only : (a : ℕ) → x.mine a ≡ eqb a t) (other : y.mine t ≡ false) where
  or_complete : (a : A) (m rest : List ℕ) (p : ℕ) → okx a ⊎ oky a → Matches document01 (form a) m → Reads (or_item x y) meaning a p (m ++ rest) (length m)
  or_complete a m rest p (inl o) e =
      let r = xs.complete a m rest p o e in
      record { lead = r.lead; heads = r.heads; mine = rw r.mine; value = r.value; reads = rw r.mine r.reads; means = r.means }
  or_complete a m rest p (inr o) e =
      let r = ys.complete a m rest p o e in
      let z : x.mine (first_of r.lead) ≡ false = only _ ∙ apart t y.mine other (first_of r.lead) r.mine in
      record { lead = r.lead; heads = r.heads; mine = or_right (x.mine (first_of r.lead)) r.mine; value = r.value; reads = rw z r.reads; means = r.means }

  or_sound : (p : ℕ) (part : List ℕ) (h : Head) → HeadOf part h → (q : Bool) → x.mine (first_of h) ≡ q → (q || y.mine (first_of h)) ≡ true
      → Then (λ v n. Took (form (meaning v)) (okx (meaning v) ⊎ oky (meaning v)) part n) (cond q (x.contents h p part) (y.contents h p part))
  or_sound p part h i true e m = then_weaken (xs.sound p part h i e) λ v n w. record { within = w.within; matches = w.matches; fine = inl w.fine }
  or_sound p part h i false e m = then_weaken (ys.sound p part h i m) λ v n w. record { within = w.within; matches = w.matches; fine = inr w.fine }

  pub or_laws : ItemLaws (or_item x y) meaning form (λ a. okx a ⊎ oky a)
  or_laws = record { complete = or_complete; sound = λ p part h i m. or_sound p part h i (x.mine (first_of h)) refl m }

-- The same range in other words
pub item_range : {L A : Type 0} {x : Item L} {meaning : L → A} {form : A → Form} {okx oky : A → Type 0} → ((a : A) → oky a → okx a) → ((a : A) → okx a → oky a) → ItemLaws x meaning form okx → ItemLaws x meaning form oky
item_range to back xs =
    record {
      complete = λ a m rest p o e. xs.complete a m rest p (to a o) e;
      sound = λ p part h i m. then_weaken (xs.sound p part h i m) λ v n t. record { within = t.within; matches = t.matches; fine = back _ t.fine };
    }

-- The same form in other words, for values in range
pub item_form : {L A : Type 0} {x : Item L} {meaning : L → A} {fx fy : A → Form} {ok : A → Type 0} → ((a : A) → ok a → fx a ≡ fy a) → ItemLaws x meaning fx ok → ItemLaws x meaning fy ok
item_form {fx = fx} {fy = fy} same xs =
    record {
      complete = λ a m rest p o e. xs.complete a m rest p o (rw (same a o) e);
      sound = λ p part h i m. then_weaken (xs.sound p part h i m) λ v n t. record { within = t.within; matches = rw (same _ t.fine) at t.matches; fine = t.fine };
    }

-- A value of a kind: what a constructor g makes of a fine value
abbrev pub Image : {A B : Type 0} → (A → B) → (A → Type 0) → B → Type 0
Image {A} g ok b = (a : A) × (g a ≡ b) × ok a

pub image_out : {A B : Type 0} {g : A → B} {ok : A → Type 0} (P : B → Type 0) → ((a : A) → ok a → P (g a)) → (b : B) → Image g ok b → P b
image_out P h b (a, e, o) = rw (← e) (h a o)

module _ {L M A B : Type 0} (f : L → M) (g : A → B) (mx : L → A) (my : M → B) (same : (v : L) → my (f v) ≡ g (mx v))
    (fx : A → Form) (fy : B → Form) (okx : A → Type 0) (forms : (a : A) → okx a → fy (g a) ≡ fx a) where
  image_there : (b : B) (m : List ℕ) → Image g okx b → Matches document01 (fy b) m → (a : A) × (g a ≡ b) × okx a × Matches document01 (fx a) m
  image_there b m (a, e, o) h = (a, e, o, rw (forms a o) at (rw (← e) at h))

  image_back : (a : A) (m : List ℕ) → okx a → Matches document01 (fx a) m → Image g okx (g a) × Matches document01 (fy (g a)) m
  image_back a m o h = ((a, refl, o), rw (forms a o) h)

  pub image_laws : (x : Item L) → ItemLaws x mx fx okx → ItemLaws (map_item f x) my fy (Image g okx)
  image_laws = map_laws f g mx my same fx okx fy (Image g okx) image_there image_back

  pub image_body_laws : (room : ℕ) (x : Body L) → BodyLaws room x mx fx okx → BodyLaws room (map_body f x) my fy (Image g okx)
  image_body_laws = map_body_laws f g mx my same fx okx fy (Image g okx) image_there image_back

-- One after another

abbrev pub pairs : {L M A B : Type 0} → (L → A) → (M → B) → L × M → A × B
pairs f g v = (f v.0, g v.1)

abbrev pub then_forms : {A B : Type 0} → (A → Form) → (A → B → Form) → A × B → Form
then_forms f g v = then (f v.0) (g v.0 v.1)

abbrev pub then_oks : {A B : Type 0} → (A → Type 0) → (A → B → Type 0) → A × B → Type 0
then_oks f g v = f v.0 × g v.0 v.1

took_both : (f g : Form) (ok ok' ok'' : Type 0) (part : List ℕ) (n j : ℕ) → Took f ok part n → Took g ok' (drop n part) j → ok'' → Took (then f g) ok'' part (n + j)
unfolding Matches
took_both f g ok ok' ok'' part n j a b o =
    record {
      within = omega (arith, a.within, b.within, length-drop n part);
      matches = (take n part, take j (drop n part), take-add n j part, a.matches, b.matches);
      fine = o;
    }

onward_of : {L M C : Type 0} (owner : Fault → Fault) (x : Got L) (note : L → Fault → Fault) (y : L → Body M) (f : L → M → C) (d : Bool) (p : ℕ) (s q : List ℕ) (v : L) (b : M) (k : ℕ)
    → x ≡ got v (length s) → ask (y v) d (p + length s) q ≡ got b k → onward owner x note y f d p (s ++ q) ≡ got (f v b) (length s + k)
unfolding onward
onward_of owner x note y f d p s q v b k e g = next_of _ (blamed_of owner e) ∙ blamed_of (note v) (rw (drop-append_seam s q) (next_of _ g))

module _ {L M A B : Type 0} (w : Where) (note : L → Fault → Fault) (x : Item L) (y : L → Body M) (mx : L → A) (my : M → B) (fx : A → Form) (fy : A → B → Form) (okx : A → Type 0) (oky : A → B → Type 0)
    (room : ℕ) (xs : ItemLaws x mx fx okx) (ys : (v : L) → BodyLaws room (y v) my (fy (mx v)) (oky (mx v))) (deep : ltb 0 w.left ≡ true) where
  bind_complete : (v : A × B) (m rest : List ℕ) (d : Bool) (p : ℕ) → length m ≤ room → okx v.0 × oky v.0 v.1 → Matches document01 (then (fx v.0) (fy v.0 v.1)) m → end_of d rest ≡ ended
      → BodyReads (bind_body w note x y) (pairs mx my) v d p m rest
  unfolding Matches Asked
  bind_complete (a, b) m rest d p k o (s, r, e, f, g) h =
      let l : length m ≡ length s + length r = ap length e ∙ length-append s r in
      let c = xs.complete a s (r ++ rest) p o.0 f in
      let q : Asked (y c.value) my b d (p + length s) (r ++ rest) (length r) =
      asked_complete room (y c.value) my (fy (mx c.value)) (oky (mx c.value)) (ys c.value) b r rest d (p + length s) (omega arith) (rw c.means o.1) (rw c.means g) h in
      let j : m ++ rest ≡ s ++ (r ++ rest) = ap (λ (z : List ℕ). z ++ rest) e ∙ append_assoc s r rest in
      begun c.lead (rw j c.heads) c.mine refl deep (c.value, q.0)
      (rw j (onward_of w.owner _ note y (λ a b. (a, b)) d p s (r ++ rest) c.value q.0 (length r) c.reads q.1) ∙ ap (λ (n : ℕ). got (c.value, q.0) n) (sym l))
      (ap₂ (λ (i : A) (j : B). (i, j)) c.means q.2)

  pub bind_laws : BodyLaws room (bind_body w note x y) (pairs mx my) (then_forms fx fy) (then_oks okx oky)
  unfolding onward
  bind_laws =
      record {
        complete = bind_complete;
        empty = λ v e. let z : ◌≡◌ {A = ℕ} 0 1 = cc in absurd (omega arith);
        sound = λ d p part h i m.
            then_next (then_blamed w.owner (xs.sound p part h i m)) λ v n t. then_blamed (note v) (
            then_next (asked_sound room (y v) my (fy (mx v)) (oky (mx v)) (ys v) d (p + n) (drop n part)) λ b j g.
            fact {a = (v, b)} {n = n + j} (took_both (fx (mx v)) (fy (mx v) (my b)) _ _ _ part n j t g.0 (t.fine, g.0.fine), rw drop-drop at g.1));
      }

-- One last element, and one that may be left out

done_sound : {L : Type 0} (w : Where) (v : L) (d : Bool) (p : ℕ) (part : List ℕ) → Then (λ u k. (u ≡ v) × (k ≡ 0) × (end_of d part ≡ ended)) (ask (done w v) d p part)
done_sound w v d p part = ask_sound _ (done w v) d p part (λ u e f. (cc, refl, f)) (λ h i m. absurd (false≢true m))

took_same : (f : Form) (ok : Type 0) (part : List ℕ) (n k : ℕ) → k ≡ 0 → Took f ok part n → Took f ok part (n + k)
took_same f ok part n k e t = rw (e, add-zero) t

ended_after : (d : Bool) (part : List ℕ) (n k : ℕ) → k ≡ 0 → end_of d (drop n part) ≡ ended → end_of d (drop (n + k) part) ≡ ended
ended_after d part n k e h = rw (e, add-zero) h

module _ {L A : Type 0} (w : Where) (x : Item L) (mx : L → A) (fx : A → Form) (okx : A → Type 0) (room : ℕ) (xs : ItemLaws x mx fx okx) (deep : ltb 0 w.left ≡ true) where
  only_sound : {M : Type 0} (f : L → M) (d : Bool) (p : ℕ) (part : List ℕ) (h : Head) → HeadOf part h → x.mine (first_of h) ≡ true
      → Then (λ u n. (v : L) × (u ≡ f v) × Took (fx (mx v)) (okx (mx v)) part n × (end_of d (drop n part) ≡ ended)) (onward w.owner (x.contents h p part) silently (λ a. done w a) (λ a b. f a) d p part)
  unfolding onward
  only_sound f d p part h i m =
      then_next (then_blamed w.owner (xs.sound p part h i m)) λ v n t. then_blamed (silently v) (
      then_next (done_sound w v d (p + n) (drop n part)) λ b k g.
      fact {a = f v} {n = n + k} (v, refl, took_same (fx (mx v)) (okx (mx v)) part n k g.1 t, ended_after d part n k g.1 g.2))

  only_of : {M : Type 0} (f : L → M) (a : A) (m rest : List ℕ) (d : Bool) (p : ℕ) → end_of d rest ≡ ended → (c : Reads x mx a p (m ++ rest) (length m))
      → onward w.owner (x.contents c.lead p (m ++ rest)) silently (λ a. done w a) (λ a b. f a) d p (m ++ rest) ≡ got (f c.value) (length m)
  only_of f a m rest d p e c =
      onward_of w.owner _ silently (λ a. done w a) (λ a b. f a) d p m rest c.value c.value 0 c.reads (ask_ends (done w c.value) d (p + length m) rest c.value e refl)
      ∙ ap (λ (n : ℕ). got (f c.value) n) (add-zero (length m))

  pub only_laws : BodyLaws room (only_body w x) mx fx okx
  only_laws =
      record {
        complete = λ a m rest d p k o e h. let c = xs.complete a m rest p o e in begun c.lead c.heads c.mine refl deep c.value (only_of (λ v. v) a m rest d p h c) c.means;
        empty = λ v e. let z : ◌≡◌ {A = ℕ} 0 1 = cc in absurd (omega arith);
        sound = λ d p part h i m. then_weaken (only_sound (λ v. v) d p part h i m) λ u n t. rw t.1 (t.2, t.3);
      }

  last_complete : (o : Option A) (m rest : List ℕ) (d : Bool) (p : ℕ) → Maybe okx o → Matches document01 (maybe fx o) m → end_of d rest ≡ ended → BodyReads (last_body w x) (Option.map mx) o d p m rest
  unfolding Matches
  last_complete none m rest d p o e h = nothing none e refl refl
  last_complete (some a) m rest d p o e h = let c = xs.complete a m rest p o e in begun c.lead c.heads c.mine refl deep (some c.value) (only_of (λ v. some v) a m rest d p h c) (ap (λ (z : A). some z) c.means)

  last_empty : (v : Option L) → some none ≡ some v → Took (maybe fx (Option.map mx v)) (Maybe okx (Option.map mx v)) [] 0
  unfolding Matches
  last_empty v e = let z : none ≡ v = cc in rw (← z) (record { within = omega arith; matches = refl; fine = tt })

  pub last_laws : BodyLaws room (last_body w x) (Option.map mx) (maybe fx) (Maybe okx)
  last_laws =
      record {
        complete = λ o m rest d p k. last_complete o m rest d p;
        empty = last_empty;
        sound = λ d p part h i m. then_weaken (only_sound (λ v. some v) d p part h i m) λ u n t. rw t.1 (t.2, t.3);
      }

-- An element that may be left out, and then the rest: the tag tells

abbrev pub opt_pairs : {L M A B : Type 0} → (L → A) → (M → B) → Option L × M → Option A × B
opt_pairs f g v = (Option.map f v.0, g v.1)

abbrev pub opt_forms : {A B : Type 0} → (A → Form) → (B → Form) → Option A × B → Form
opt_forms f g v = then (maybe f v.0) (g v.1)

abbrev pub opt_oks : {A B : Type 0} → (A → Type 0) → (B → Type 0) → Option A × B → Type 0
opt_oks f g v = Maybe f v.0 × g v.1

module _ {L M A B : Type 0} (t : ℕ) (x : Item L) (y : Body M) (mx : L → A) (my : M → B) (fx : A → Form) (fy : B → Form) (okx : A → Type 0) (oky : B → Type 0)
    (room : ℕ) (xs : ItemLaws x mx fx okx) (ys : BodyLaws room y my fy oky) (only : (a : ℕ) → x.mine a ≡ eqb a t) (other : y.mine t ≡ false) (deep : ltb 0 y.left ≡ true) (more : y.full ≡ false) where
  opt_reads : (b : B) (d : Bool) (p : ℕ) (m rest : List ℕ) → BodyReads y my b d p m rest → BodyReads (opt_body x y) (opt_pairs mx my) (none, b) d p m rest
  unfolding opt_pick
  opt_reads b d p m rest (nothing v z e q) = nothing (none, v) z (rw e) (ap (λ (i : B). (none, i)) q)
  opt_reads b d p m rest (begun h i j k l v e q) =
      let z : x.mine (first_of h) ≡ false = only _ ∙ apart t y.mine other (first_of h) j in
      begun h i (or_right (x.mine (first_of h)) j) k l (none, v) (rw z (next_of _ e)) (ap (λ (i : B). (none, i)) q)

  opt_complete : (v : Option A × B) (m rest : List ℕ) (d : Bool) (p : ℕ) → length m ≤ room → opt_oks okx oky v → Matches document01 (opt_forms fx fy v) m → end_of d rest ≡ ended
      → BodyReads (opt_body x y) (opt_pairs mx my) v d p m rest
  unfolding Matches Asked opt_pick
  opt_complete (none, b) m rest d p k o (s, r, e, f, g) h =
      let l : m ≡ r = e ∙ ap (λ (z : List ℕ). z ++ r) f in
      rw l (opt_reads b d p r rest (ys.complete b r rest d p (omega (arith, ap length l)) o.1 g h))
  opt_complete (some a, b) m rest d p k o (s, r, e, f, g) h =
      let l : length m ≡ length s + length r = ap length e ∙ length-append s r in
      let c = xs.complete a s (r ++ rest) p o.0 f in
      let q : Asked y my b d (p + length s) (r ++ rest) (length r) = asked_complete room y my fy oky ys b r rest d (p + length s) (omega arith) o.1 g h in
      let j : m ++ rest ≡ s ++ (r ++ rest) = ap (λ (z : List ℕ). z ++ rest) e ∙ append_assoc s r rest in
      begun c.lead (rw j c.heads) (rw c.mine) more deep (some c.value, q.0)
      (rw (j, c.mine) (onward_of y.owner _ silently (λ a. y) (λ a b. (some a, b)) d p s (r ++ rest) c.value q.0 (length r) c.reads q.1) ∙ ap (λ (n : ℕ). got (some c.value, q.0) n) (sym l))
      (ap₂ (λ (i : A) (j : B). (some i, j)) c.means q.2)

  nil_first : (f : Form) (ok : Type 0) (g : Type 0) (part : List ℕ) (n : ℕ) → Took f ok part n → g → Took (then (exactly []) f) g part n
  unfolding Matches
  nil_first f ok g part n t o = record { within = t.within; matches = ([], take n part, refl, refl, t.matches); fine = o }

  opt_empty : (e : Option M) → y.ends ≡ e → (v : Option L × M) → Option.map (λ b. (none, b)) e ≡ some v → Took (opt_forms fx fy (opt_pairs mx my v)) (opt_oks okx oky (opt_pairs mx my v)) [] 0
  opt_empty none i v e = let z : ◌≡◌ {A = ℕ} 0 1 = cc in absurd (omega arith)
  opt_empty (some b) i v e = let z : (none, b) ≡ v = cc in rw (← z) (nil_first (fy (my b)) _ _ [] 0 (ys.empty b i) (tt, (ys.empty b i).fine))

  opt_sound : (d : Bool) (p : ℕ) (part : List ℕ) (h : Head) → HeadOf part h → (q : Bool) → x.mine (first_of h) ≡ q → (q || y.mine (first_of h)) ≡ true
      → Then (λ v n. Took (opt_forms fx fy (opt_pairs mx my v)) (opt_oks okx oky (opt_pairs mx my v)) part n × (end_of d (drop n part) ≡ ended)) (opt_pick q (x.contents h p part) y d h p part)
  unfolding opt_pick onward
  opt_sound d p part h i true e m =
      then_next (then_blamed y.owner (xs.sound p part h i e)) λ v n t. then_blamed (silently v) (
      then_next (asked_sound room y my fy oky ys d (p + n) (drop n part)) λ b j g.
      fact {a = (some v, b)} {n = n + j} (took_both (fx (mx v)) (fy (my b)) _ _ _ part n j t g.0 (t.fine, g.0.fine), rw drop-drop at g.1))
  opt_sound d p part h i false e m =
      then_next (ys.sound d p part h i m) λ b n g. fact {a = (none, b)} {n = n} (nil_first (fy (my b)) _ _ part n g.0 (tt, g.0.fine), g.1)

  pub opt_laws : BodyLaws room (opt_body x y) (opt_pairs mx my) (opt_forms fx fy) (opt_oks okx oky)
  opt_laws = record { complete = opt_complete; empty = opt_empty y.ends refl; sound = λ d p part h i m. opt_sound d p part h i (x.mine (first_of h)) refl m }

-- A series of at most so many

-- none are allowed only where the contents may end
abbrev pub EndsAs : {L A : Type 0} → Option (List L) → List A → Type 0
EndsAs none [] = ⊥
EndsAs none (a ∷ ws) = Unit {0}
EndsAs (some l) ws = Unit {0}

abbrev pub SeriesOk : {L A : Type 0} → (A → Type 0) → Option (List L) → ℕ → List A → Type 0
SeriesOk ok e room ws = (length ws ≤ room) × Every ok ws × EndsAs e ws

some_ends : {L A : Type 0} (e : Option (List L)) (v : List L) (ws : List A) → e ≡ some v → EndsAs e ws
some_ends none v ws i = let z : ◌≡◌ {A = ℕ} 0 1 = cc in absurd (omega arith)
some_ends (some l) v ws i = tt

more_ends : {L A : Type 0} (e : Option (List L)) (a : A) (ws : List A) → EndsAs e (a ∷ ws)
more_ends none a ws = tt
more_ends (some l) a ws = tt

module _ {L A : Type 0} (w : ℕ → Where) (other : FaultKind) (x : Item L) (mx : L → A) (fx : A → Form) (okx : A → Type 0) (octets : ℕ) (xs : ItemLaws x mx fx okx) (deep : (k : ℕ) (a : A) → okx a → ltb 0 (w k).left ≡ true) where
  ends_of : (e : Option (List L)) (room k : ℕ) → (series_body w other x e room k).ends ≡ e
  unfolding series_body
  ends_of e zero k = refl
  ends_of e (suc room) k = refl

  series_nil : (e : Option (List L)) → ((v : List L) → e ≡ some v → v ≡ []) → (room k : ℕ) (d : Bool) (p : ℕ) (m rest : List ℕ) → EndsAs {A = A} e [] → m ≡ [] → BodyReads (series_body w other x e room k) (map mx) [] d p m rest
  series_nil none nil room k d p m rest o z = absurd o
  series_nil (some v) nil room k d p m rest o z = nothing v z (ends_of (some v) room k) (ap (map mx) (nil v refl))

  series_empty : (e : Option (List L)) → ((v : List L) → e ≡ some v → v ≡ []) → (room : ℕ) (v : List L) → e ≡ some v → Took (series_form fx (map mx v)) (SeriesOk okx e room (map mx v)) [] 0
  unfolding series_form Matches Every
  series_empty e nil room v i = rw (nil v i) (record { within = omega arith; matches = refl; fine = (omega arith, tt, some_ends e v [] i) })

  module _ (e : Option (List L)) (nil : (v : List L) → e ≡ some v → v ≡ []) where
    full_laws : (k : ℕ) → BodyLaws octets (series_body w other x e zero k) (map mx) (series_form fx) (SeriesOk okx e zero)
    unfolding series_body series_form Matches Every
    full_laws k = record { complete = complete; empty = λ v i. series_empty e nil zero v i; sound = λ d p part h i m. absurd (false≢true m) }
      where
        complete : (ws : List A) (m rest : List ℕ) (d : Bool) (p : ℕ) → length m ≤ octets → SeriesOk okx e zero ws → Matches document01 (series_form fx ws) m → end_of d rest ≡ ended → BodyReads (series_body w other x e zero k) (map mx) ws d p m rest
        complete [] m rest d p l o f h = series_nil e nil zero k d p m rest o.2 f
        complete (a ∷ ws) m rest d p l o f h = absurd (omega (arith, o.0))

    one_more : (room k : ℕ) → BodyLaws octets (series_body w other x (some []) room (suc k)) (map mx) (series_form fx) (SeriesOk {L = L} okx (some []) room)
        → BodyLaws octets (series_body w other x e (suc room) k) (map mx) (series_form fx) (SeriesOk okx e (suc room))
    unfolding series_body onward series_form Matches Every Asked
    one_more room k rest-laws =
        record {
          complete = complete;
          empty = λ v i. series_empty e nil (suc room) v i;
          sound = λ d p part h i m.
              then_next (then_blamed (w k).owner (xs.sound p part h i m)) λ v n t. then_blamed (silently v) (
              then_next (asked_sound octets tail (map mx) (series_form fx) (SeriesOk {L = L} okx (some []) room) rest-laws d (p + n) (drop n part)) λ vs j g.
              fact {a = v ∷ vs} {n = n + j} (
                took_both (fx (mx v)) (series_form fx (map mx vs)) _ _ _ part n j t g.0 (omega (arith, g.0.fine.0), (t.fine, g.0.fine.1), more_ends e (mx v) (map mx vs)),
                rw drop-drop at g.1,
              ));
        }
      where
        tail : Body (List L)
        tail = series_body w other x (some []) room (suc k)

        complete : (ws : List A) (m rest : List ℕ) (d : Bool) (p : ℕ) → length m ≤ octets → SeriesOk okx e (suc room) ws → Matches document01 (series_form fx ws) m → end_of d rest ≡ ended → BodyReads (series_body w other x e (suc room) k) (map mx) ws d p m rest
        complete [] m rest d p l o f h = series_nil e nil (suc room) k d p m rest o.2 f
        complete (a ∷ ws) m rest d p l o (s, r, z, f, g) h =
            let i : length m ≡ length s + length r = ap length z ∙ length-append s r in
            let c = xs.complete a s (r ++ rest) p o.1.0 f in
            let q : Asked tail (map mx) ws d (p + length s) (r ++ rest) (length r) =
            asked_complete octets tail (map mx) (series_form fx) (SeriesOk {L = L} okx (some []) room) rest-laws ws r rest d (p + length s) (omega arith) (omega (arith, o.0), o.1.1, tt) g h in
            let j : m ++ rest ≡ s ++ (r ++ rest) = ap (λ (y : List ℕ). y ++ rest) z ∙ append_assoc s r rest in
            begun c.lead (rw j c.heads) c.mine refl (deep k a o.1.0) (c.value ∷ q.0)
            (rw j (onward_of (w k).owner _ silently (λ a. tail) (λ a vs. a ∷ vs) d p s (r ++ rest) c.value q.0 (length r) c.reads q.1) ∙ ap (λ (n : ℕ). got (c.value ∷ q.0) n) (sym i))
            (ap₂ ◌∷◌ c.means q.2)

  pub series_laws : (e : Option (List L)) → ((v : List L) → e ≡ some v → v ≡ []) → (room k : ℕ) → BodyLaws octets (series_body w other x e room k) (map mx) (series_form fx) (SeriesOk okx e room)
  series_laws e nil zero k = full_laws e nil k
  series_laws e nil (suc room) k = one_more e nil room k (series_laws (some []) (λ v i. cc) room (suc k))
