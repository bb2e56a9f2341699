-- An answer is a place, any other a fault that is passed on: for whatever was asked, and for contents put together. Assumes nothing.
use Prim.Native.Nat.{ℕ, ◌+◌, ◌≤◌}
use mathlib.Core.Path.{◌≡◌, refl, sym, ◌∙◌}
use mathlib.Core.Bool.{Bool, true, false}
use native.Mathlib.Omega.{arith}
use Rattle.element.specs.declared.FaultKind.{FaultKind}
use Rattle.element.specs.Fault.{Fault, fault}
use Rattle.element.specs.Ask.{Got, got, bad, next, blamed}
use Rattle.read_place.specs.Places.{base, fault_place, Shut, Placed, Closing, Far, Near}

-- every fault is told apart from a place
pub far : (k : FaultKind) → Far (base k)
unfolding base
far FaultKind.CutOff = omega arith
far FaultKind.BadTag = omega arith
far FaultKind.BadLength = omega arith
far FaultKind.PassesEnd = omega arith
far FaultKind.TooDeep = omega arith
far FaultKind.CodeZero = omega arith
far FaultKind.Overlong = omega arith
far FaultKind.NoMessage = omega arith
far FaultKind.OctetsAfter = omega arith
far FaultKind.Missing = omega arith
far FaultKind.Another = omega arith
far FaultKind.TooMany = omega arith
far FaultKind.BadContents = omega arith
far FaultKind.Seventeenth = omega arith
far FaultKind.UnknownComponent = omega arith

pub far_fault : (f : Fault) → Far (fault_place f)
unfolding fault_place
far_fault (fault k q o i t) = omega (arith, far k)

-- what follows in general
pub placed_near : {A : Type 0} (x : Got A) (p end r : ℕ) → Placed p end x r → Near r → (p ≤ r) × (r ≤ end)
unfolding Placed
placed_near (got a n) p end r e h = omega (arith, e)
placed_near (bad f) p end r e h = absurd (omega (arith, e, h, far_fault f))

-- a fault is passed on as it is; behind a place the rest is asked there
module _ {A B : Type 0} (x : Got A) (k : A → ℕ → Got B) (p end r : ℕ) (e : Placed p end x r) where
  pub next_far : (q top : ℕ) → Near end → Far r → Placed q top (next x k) r
  unfolding Placed next
  next_far q top b h = go x e
    where
      go : (x : Got A) → Placed p end x r → Placed q top (next x k) r
      go (got a n) e = absurd (omega (arith, b, e, h))
      go (bad f) e = e

  pub next_near : (q top s : ℕ) → Near r → ((a : A) (n : ℕ) → x ≡ got a n → r ≡ p + n → Placed q top (k a n) s) → Placed q top (next x k) s
  unfolding Placed next
  next_near q top s h g = go x e g
    where
      go : (x : Got A) → Placed p end x r → ((a : A) (n : ℕ) → x ≡ got a n → r ≡ p + n → Placed q top (k a n) s) → Placed q top (next x k) s
      go (got a n) e g = g a n refl e.0
      go (bad f) e g = absurd (omega (arith, e, h, far_fault f))

  pub close_far : (d : Bool) (q top : ℕ) → Near end → Far r → Closing d q top (next x k) r
  unfolding Placed Closing next
  close_far d q top b h = go x e
    where
      go : (x : Got A) → Placed p end x r → Closing d q top (next x k) r
      go (got a n) e = absurd (omega (arith, b, e, h))
      go (bad f) e = e

  pub close_near : (d : Bool) (q top s : ℕ) → Near r → ((a : A) (n : ℕ) → x ≡ got a n → r ≡ p + n → Closing d q top (k a n) s) → Closing d q top (next x k) s
  unfolding Placed Closing next
  close_near d q top s h g = go x e g
    where
      go : (x : Got A) → Placed p end x r → ((a : A) (n : ℕ) → x ≡ got a n → r ≡ p + n → Closing d q top (k a n) s) → Closing d q top (next x k) s
      go (got a n) e g = g a n refl e.0
      go (bad f) e g = absurd (omega (arith, e, h, far_fault f))

-- a value of another name; whom a fault belongs to does not change its number
pub placed_map : {A B : Type 0} (f : A → B) (x : Got A) (p end r : ℕ) → Placed p end x r → Placed p end (next x (λ a n. got (f a) n)) r
unfolding Placed next
placed_map f (got a n) p end r e = e
placed_map f (bad g) p end r e = e

pub closing_map : {A B : Type 0} (f : A → B) (d : Bool) (x : Got A) (p end r : ℕ) → Closing d p end x r → Closing d p end (next x (λ a n. got (f a) n)) r
unfolding Closing next
closing_map f d (got a n) p end r e = e
closing_map f d (bad g) p end r e = e

abbrev pub Keeps : (Fault → Fault) → Type 0
Keeps w = (f : Fault) → fault_place (w f) ≡ fault_place f

pub placed_blamed : {A : Type 0} (w : Fault → Fault) → Keeps w → (x : Got A) (p end r : ℕ) → Placed p end x r → Placed p end (blamed w x) r
unfolding Placed blamed
placed_blamed w h (got a n) p end r e = e
placed_blamed w h (bad g) p end r e = e ∙ sym (h g)

pub closing_blamed : {A : Type 0} (w : Fault → Fault) → Keeps w → (d : Bool) (x : Got A) (p end r : ℕ) → Closing d p end x r → Closing d p end (blamed w x) r
unfolding Closing blamed
closing_blamed w h d (got a n) p end r e = e
closing_blamed w h d (bad g) p end r e = e ∙ sym (h g)

-- what is read behind n octets
pub closing_rest : {A B : Type 0} (f : A → B) (d : Bool) (x : Got A) (p n end r : ℕ) → Closing d (p + n) end x r → Closing d p end (next x (λ b k. got (f b) (n + k))) r
unfolding Closing Shut next
closing_rest f true (got b k) p n end r e = e
closing_rest f false (got b k) p n end r e = omega (arith, e)
closing_rest f d (bad g) p n end r e = e
