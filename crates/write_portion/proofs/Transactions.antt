-- The two IDs as transaction IDs under their tags. Assumes nothing.
use Rattle.tcap.specs.declared.DestTransactionId.{DestTransactionId}
use Rattle.tcap.specs.declared.OrigTransactionId.{OrigTransactionId}
use Rattle.std.specs.Prelude.{Option as Optional, Some, None, IfSome, option_map}
use Prim.Native.Nat.{ℕ}
use mathlib.Core.Path.{◌≡◌, refl}
use mathlib.Core.Bool.{true}
use mathlib.Core.List.{List}
use Rattle.tcap.specs.Verdict.{lies, orig_lies, dest_lies}
use Rattle.write_check_row.specs.Forms.{orig_form, dest_form}
use Rattle.write_portion.specs.Transaction.{transaction_form}

pub orig_same : (m : List ℕ) (o : Optional OrigTransactionId) → orig_form m o ≡ transaction_form m 0x48 (option_map (λ i. i.0) o)
unfolding orig_form
orig_same m None = refl
orig_same m (Some o) = refl

pub dest_same : (m : List ℕ) (e : Optional DestTransactionId) → dest_form m e ≡ transaction_form m 0x49 (option_map (λ i. i.0) e)
unfolding dest_form
dest_same m None = refl
dest_same m (Some e) = refl

pub orig_within : (n : ℕ) (o : Optional OrigTransactionId) → orig_lies n o ≡ true → IfSome (option_map (λ i. i.0) o) (λ i. lies n i.octets ≡ true)
unfolding orig_lies
orig_within n None h = tt
orig_within n (Some o) h = h

pub dest_within : (n : ℕ) (e : Optional DestTransactionId) → dest_lies n e ≡ true → IfSome (option_map (λ i. i.0) e) (λ i. lies n i.octets ≡ true)
unfolding dest_lies
dest_within n None h = tt
dest_within n (Some e) h = h
