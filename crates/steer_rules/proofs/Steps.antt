-- Steps for a walk by hand of a loop, beside those of `types.Run`; they are of no function. Assumes nothing.
--     tests        `while test { .. }`: the turn goes on where the test holds, and the loop is left where it fails
--     unless_ends  `if test { .. }` whose body ends in a `return`, and then the rest
--     says_one     a number x of which φ holds is put under `some` and `given`, as an invariant has it
use Prim.Native.Nat.{ℕ}
use mathlib.Core.Path.{◌≡◌, refl}
use mathlib.Core.Bool.{Bool, true, false, not}
use mathlib.Core.List.{List, ◌∷◌}
use seplogic.Ra.Ura.{Ura}
use lib.Dec.{T}
use mir.Syntax.{Body, Opd as Operand, skip, seq, cond, exit}
use mir.Val.{vbool}
use base.Logic.{guard, via, guard_i, ex_i}
use prog.Wp.{Env, Calls, Loops, Wp, after_seq, exits}
use types.Logic.{Logic}
use types.Kit.{Item, some, given, mean, Post, any_q, post, Goal, prop, runs, Seq, Step, ◌$◌, use1}
use types.Run.{Opd, first, branches, skips, jumps}

pub holds : (t : Bool) → T t → t ≡ true
holds true _ = refl
holds false a = absurd a

pub fails : (t : Bool) → T (not t) → t ≡ false
fails true a = absurd a
fails false _ = refl

module _ {M : Type 1} {𝓤 : Ura M} {𝓛 : Logic 𝓤} {K : Type 0} {Γ : List (Item 𝓤)} {E : Env 𝓤 𝓛.H} {C : Calls 𝓤 𝓛.H} {Λ : Loops 𝓤 𝓛.H} {q : Post 𝓤 𝓛.H} where
  open 𝓛 use {H}

  pub tests : K → {c : Operand} {n : ℕ} {b : Body} {y : Bool} → Opd K 𝓛 Γ E c (vbool y)
      → (T y → Seq K 𝓛 Γ (runs C Λ E b q)) → (T (not y) → Seq K 𝓛 Γ (prop (post 𝓤 H q (exits n)))) → Seq K 𝓛 Γ (runs C Λ E (seq (cond c skip (exit n)) b) q)
  tests t o held failed = first t $ branches t o (λ h. skips t $ record { prf = (held h).prf }) (λ h. jumps t $ record { prf = (failed h).prf })

  pub unless_ends : K → {c : Operand} {a b : Body} {y : Bool} → Opd K 𝓛 Γ E c (vbool y)
      → (T y → Seq K 𝓛 Γ (runs C Λ E a (any_q (after_seq 𝓤 H (Wp 𝓤 H C Λ E b (post 𝓤 H q)) (post 𝓤 H q))))) → (T (not y) → Seq K 𝓛 Γ (runs C Λ E b q)) → Seq K 𝓛 Γ (runs C Λ E (seq (cond c a skip) b) q)
  unless_ends t o held failed = first t $ branches t o held (λ h. skips t $ record { prf = (failed h).prf })

module _ {M : Type 1} {𝓤 : Ura M} {𝓛 : Logic 𝓤} {K : Type 0} {Γ : List (Item 𝓤)} {G : Goal 𝓤 𝓛.H} where
  pub says_one : K → {X : Type 0} (φ : X → Type 0) (F : X → Item 𝓤) (x : X) → φ x → Step K 𝓛 (some (λ (y : X). given (φ y) (F y)) ∷ Γ) G (F x ∷ Γ) G
  says_one t {X} φ F x h = use1 𝓛 (some (λ (y : X). given (φ y) (F y))) (via 𝓤 (guard 𝓤 (φ x) (mean 𝓛 (F x))) (guard_i 𝓤 (φ x) (mean 𝓛 (F x)) h) (ex_i 𝓤 (λ (y : X). guard 𝓤 (φ y) (mean 𝓛 (F y))) x))
