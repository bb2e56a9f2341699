-- What reading and writing a unitdata promise: document 02, §6. Assumes nothing.
use Rattle.std.specs.Prelude.{Result, Ok, Err}
use Prim.Native.Nat.{ℕ, ◌≤◌, ◌<◌}
use native.Mathlib.Omega.{arith}
use mathlib.Core.Path.{◌≡◌, refl, sym, ap, ◌∙◌}
use mathlib.Core.Logic.{◌↔◌}
use mathlib.Core.Bool.{Bool, true, false, ◌&&◌, cond, false≢true}
use mathlib.Core.List.{List}
use lib.ListN.{length, get_or, drop}
use lib.Dec.{leb, eqb}
use borrow.Author.Tests.{eqb-true, eq-eqb, leb-true, leb-false, le-leb, lt-leb}
use Rattle.sccp.specs.declared.{Unitdata.Unitdata, UnitdataFault.UnitdataFault, UnitdataWriteFault.UnitdataWriteFault}
use Rattle.sccp.specs.Unitdata.{part_at, inside, separate, addressed, unless, judged, read_unitdata, unitdata_number, unitdata_status}
use Rattle.sccp.specs.Standing.{Inside, Separate, Addressed, unitdata_at, Stands, Ranged, laid_out, octets_of}
use Rattle.sccp.specs.Writing.{unitdata_octets, in_range, writing_unitdata, behind, leaves_unitdata, unitdata_write_number, unitdata_write_status}
use Rattle.sccp.proofs.Ranges.{ranged, in_range_lem}
use Rattle.sccp.proofs.Written.{reads_back, parts_stand}
use Rattle.sccp.proofs.Standing.{named_is, inside_exactly, separate_exactly, addressed_exactly}

-- Reading

-- what is not refused has passed the test
passed : {u : Unitdata} (b : Bool) (f : UnitdataFault) (r : Result Unitdata UnitdataFault) → unless b (Err f) r ≡ Ok u → (b ≡ true) × (r ≡ Ok u)
passed true f r e = (refl, e)
passed false f r e = absurd cc

-- the numbers by the four tests, and which of them fails first
abbrev ladder : Bool → Bool → Bool → Bool → ℕ
ladder t l s a = cond t (cond l (cond s (cond a 0 34) 33) 32) 31

first_fails : (t l s a : Bool)
    → (ladder t l s a ≡ 31 → t ≡ false) × (ladder t l s a ≡ 32 → (t ≡ true) × (l ≡ false)) × (ladder t l s a ≡ 33 → (t ≡ true) × (l ≡ true) × (s ≡ false)) × (ladder t l s a ≡ 34 → (t ≡ true) × (l ≡ true) × (s ≡ true) × (a ≡ false))
first_fails false l s a = grind arith
first_fails true false s a = grind arith
first_fails true true false a = grind arith
first_fails true true true false = grind arith
first_fails true true true true = grind arith

-- a test that fails, and what it tests
fails : {b : Bool} {P : Type 0} → ((b ≡ true) ↔ P) → b ≡ false → P → ⊥
fails h e p = false≢true (sym e ∙ h.1 p)

failing : {b : Bool} {P : Type 0} → ((b ≡ true) ↔ P) → (P → ⊥) → b ≡ false
failing {b} {P} h n = by b refl
  where
    by : (c : Bool) → b ≡ c → c ≡ false
    by true e = absurd (n (h.0 e))
    by false e = refl

module _ (m : List ℕ) where
  abbrev typed : Bool
  typed = eqb (get_or m 0 0) 9

  abbrev lies : Bool
  lies = inside m (part_at m 2) && (inside m (part_at m 3) && inside m (part_at m 4))

  abbrev disjoint : Bool
  disjoint = separate (part_at m 2) (part_at m 3) (part_at m 4)

  abbrev sent : Bool
  sent = addressed (part_at m 2) (part_at m 3)

  -- a message is read exactly if it is a unitdata of the page, and as that
  stands : (u : Unitdata) → read_unitdata m ≡ Ok u → Stands m u
  unfolding read_unitdata judged
  stands u e =
      let a = passed typed UnitdataFault.OtherType _ e in
      let b = passed lies UnitdataFault.PastEnd _ a.1 in
      let c = passed disjoint UnitdataFault.Overlap _ b.1 in
      let d = passed sent UnitdataFault.EmptyAddress _ c.1 in
      let q : Ok (unitdata_at m) ≡ Ok u = d.1 in
      let s : unitdata_at m ≡ u = cc in
      let w : Stands m (unitdata_at m) = record {
        typed = eqb-true (get_or m 0 0) 9 a.0;
        classed = refl;
        lies = (inside_exactly m).0 b.0;
        separate = (separate_exactly m).0 c.0;
        addressed = (addressed_exactly m).0 d.0;
      } in
      rw s at w

  -- the pointers name its parts
  is_named : (u : Unitdata) → Stands m u → u ≡ unitdata_at m
  is_named u s = rw (← s.classed, ← named_is m 2 s.lies.called_lies, ← named_is m 3 s.lies.calling_lies, ← named_is m 4 s.lies.data_lies)

  all_pass : Stands m (unitdata_at m) → read_unitdata m ≡ Ok (unitdata_at m)
  unfolding read_unitdata judged
  all_pass s = rw (eq-eqb (get_or m 0 0) 9 s.typed, (inside_exactly m).1 s.lies, (separate_exactly m).1 s.separate, (addressed_exactly m).1 s.addressed)

  reads : (u : Unitdata) → Stands m u → read_unitdata m ≡ Ok u
  reads u s = let e = is_named u s in let w : Stands m (unitdata_at m) = rw e at s in all_pass w ∙ ap Ok (sym e)

  pub read_exactly : (u : Unitdata) → (read_unitdata m ≡ Ok u) ↔ Stands m u
  read_exactly u = (stands u, reads u)

  -- no octets are two unitdata
  pub one_unitdata : (u v : Unitdata) → Stands m u → Stands m v → u ≡ v
  one_unitdata u v s t = is_named u s ∙ sym (is_named v t)

  -- what each number means, in the page's order
  status_is : unitdata_status (read_unitdata m) ≡ ladder typed lies disjoint sent
  unfolding read_unitdata judged unitdata_status unitdata_number
  status_is = by typed lies disjoint sent
    where
      by : (t l s a : Bool) → unitdata_status (unless t (Err UnitdataFault.OtherType) (unless l (Err UnitdataFault.PastEnd) (unless s (Err UnitdataFault.Overlap) (unless a (Err UnitdataFault.EmptyAddress) (Ok (unitdata_at m)))))) ≡ ladder t l s a
      by false l s a = refl
      by true false s a = refl
      by true true false a = refl
      by true true true false = refl
      by true true true true = refl

  typed_exactly : (typed ≡ true) ↔ (get_or m 0 0 ≡ 9)
  typed_exactly = (eqb-true (get_or m 0 0) 9, eq-eqb (get_or m 0 0) 9)

  abbrev status : ℕ
  status = unitdata_status (read_unitdata m)

  -- 31: not type 09
  pub other_type : (status ≡ 31) ↔ (get_or m 0 0 ≡ 9 → ⊥)
  other_type = (λ e. fails typed_exactly ((first_fails typed lies disjoint sent).0 (sym status_is ∙ e)), λ n. status_is ∙ rw (failing typed_exactly n))

  -- 32: type 09, and a pointer or a part past the end
  pub past_end : (status ≡ 32) ↔ ((get_or m 0 0 ≡ 9) × (Inside m (unitdata_at m) → ⊥))
  past_end = (
    λ e. let (t, l) = (first_fails typed lies disjoint sent).1 (sym status_is ∙ e) in (typed_exactly.0 t, fails (inside_exactly m) l),
    λ h. status_is ∙ rw (typed_exactly.1 h.0, failing (inside_exactly m) h.1),
  )

  -- 33: all lies in the message, and overlaps
  pub overlap : (status ≡ 33) ↔ ((get_or m 0 0 ≡ 9) × Inside m (unitdata_at m) × (Separate (unitdata_at m) → ⊥))
  overlap = (
    λ e. let (t, l, s) = (first_fails typed lies disjoint sent).2 (sym status_is ∙ e) in (typed_exactly.0 t, (inside_exactly m).0 l, fails (separate_exactly m) s),
    λ h. status_is ∙ rw (typed_exactly.1 h.0, (inside_exactly m).1 h.1, failing (separate_exactly m) h.2),
  )

  -- 34: all in its place, and an address is empty
  pub empty_address : (status ≡ 34) ↔ ((get_or m 0 0 ≡ 9) × Inside m (unitdata_at m) × Separate (unitdata_at m) × (Addressed (unitdata_at m) → ⊥))
  empty_address = (
    λ e. let (t, l, s, a) = (first_fails typed lies disjoint sent).3 (sym status_is ∙ e) in (typed_exactly.0 t, (inside_exactly m).0 l, (separate_exactly m).0 s, fails (addressed_exactly m) a),
    λ h. status_is ∙ rw (typed_exactly.1 h.0, (inside_exactly m).1 h.1, (separate_exactly m).1 h.2, failing (addressed_exactly m) h.3),
  )

-- Writing

abbrev rungs : Bool → Bool → ℕ
rungs t r = cond t (cond r 0 25) 35

writes_first : (t r : Bool) → (rungs t r ≡ 35 → t ≡ false) × (rungs t r ≡ 25 → (t ≡ true) × (r ≡ false))
writes_first false r = grind arith
writes_first true false = grind arith
writes_first true true = grind arith

module _ (c : ℕ) (a b d out : List ℕ) where
  abbrev ok : Bool
  ok = in_range (length a) (length b) (length d)

  abbrev n : ℕ
  n = length (unitdata_octets c a b d)

  abbrev answer : Result ℕ UnitdataWriteFault
  answer = writing_unitdata c a b d (length out)

  range_exactly : (ok ≡ true) ↔ Ranged (length a) (length b) (length d)
  range_exactly = (ranged (length a) (length b) (length d), in_range_lem (length a) (length b) (length d))

  room_exactly : (leb n (length out) ≡ true) ↔ (n ≤ length out)
  room_exactly = (leb-true n (length out), le-leb n (length out))

  status_by : unitdata_write_status answer ≡ rungs ok (leb n (length out))
  unfolding writing_unitdata unitdata_write_status unitdata_write_number
  status_by = by ok (leb n (length out))
    where
      by : (t r : Bool) → unitdata_write_status (unless t (Err UnitdataWriteFault.OutOfRange) (unless r (Err UnitdataWriteFault.NoRoom) (Ok n))) ≡ rungs t r
      by false r = refl
      by true false = refl
      by true true = refl

  -- 35: a part's length or the sum of the addresses out of range
  pub out_of_range : (unitdata_write_status answer ≡ 35) ↔ (Ranged (length a) (length b) (length d) → ⊥)
  out_of_range = (λ e. fails range_exactly ((writes_first ok (leb n (length out))).0 (sym status_by ∙ e)), λ h. status_by ∙ rw (failing range_exactly h))

  -- 25: all in range, and too little room
  pub no_room : (unitdata_write_status answer ≡ 25) ↔ (Ranged (length a) (length b) (length d) × (length out < n))
  no_room = (
    λ e. let (t, r) = (writes_first ok (leb n (length out))).1 (sym status_by ∙ e) in (range_exactly.0 t, leb-false n (length out) r),
    λ h. status_by ∙ rw (range_exactly.1 h.0, lt-leb n (length out) h.1),
  )

  -- written exactly otherwise: 8 octets and those of the parts, from the front of the buffer
  pub written_exactly : (k : ℕ) → (answer ≡ Ok k) ↔ (Ranged (length a) (length b) (length d) × (k ≡ n) × (n ≤ length out))
  unfolding writing_unitdata
  written_exactly k = (by ok refl (leb n (length out)) refl, λ h. rw (range_exactly.1 h.0, le-leb n (length out) h.2, h.1))
    where
      by : (t : Bool) → ok ≡ t → (r : Bool) → leb n (length out) ≡ r → unless t (Err UnitdataWriteFault.OutOfRange) (unless r (Err UnitdataWriteFault.NoRoom) (Ok n)) ≡ Ok k → Ranged (length a) (length b) (length d) × (k ≡ n) × (n ≤ length out)
      by false f r g e = absurd cc
      by true f false g e = absurd cc
      by true f true g e = (range_exactly.0 f, cc, leb-true n (length out) g)

  pub refused_leaves : (f : UnitdataWriteFault) → answer ≡ Err f → leaves_unitdata c a b d out ≡ out
  unfolding leaves_unitdata behind
  refused_leaves f e = rw e

  -- what the buffer then holds is read back, and its three parts are those written
  pub written_reads : (k : ℕ) → answer ≡ Ok k → (read_unitdata (leaves_unitdata c a b d out) ≡ Ok (laid_out c a b d)) × (octets_of (leaves_unitdata c a b d out) (laid_out c a b d).called ≡ a) × (octets_of (leaves_unitdata c a b d out) (laid_out c a b d).calling ≡ b) × (octets_of (leaves_unitdata c a b d out) (laid_out c a b d).userdata ≡ d)
  unfolding leaves_unitdata behind
  written_reads k e =
      let s = parts_stand c a b d (drop k out) in
      rw e (reads_back c a b d (drop k out) (range_exactly.1 ((written_exactly k).0 e).0), s.0, s.1, s.2)
