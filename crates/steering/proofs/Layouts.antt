-- Rules that the layout has room for are read back from their octets: so steering by these octets is steering by the rules.
-- Assumes nothing.
use Rattle.std.specs.Prelude.{Option as Optional, Some, None}
use Prim.Native.Nat.{ℕ, ◌*◌, ◌/◌, ◌≤◌}
use native.Mathlib.Omega.{arith}
use mathlib.Core.Path.{◌≡◌, refl}
use mathlib.Core.Bool.{true}
use mathlib.Core.List.{List, [], ◌∷◌, ◌++◌, append_assoc}
use lib.ListN.{length, take, drop, length-append}
use lib.Seq.{take_at, drop_at}
use lib.IntN.{ℤ}
use Rattle.base.specs.Number.{number_from, octets_in, top_of, bits_at, holds}
use Rattle.base.specs.Value.{Every}
use Rattle.base.proofs.Numbers.{signed_bits, bits_within, top_odd, holds_small, number_octets, length_octets_lem}
use Rattle.primitive.specs.Primitive.{signed_of}
use Rattle.steering.specs.declared.{Rule.Rule}
use Rattle.steering.specs.Layout.{rule_size, kind_in, code_in, rule_of, rules_from, rules_in, code_octets, rule_octets, rules_octets, CodeRoom, RuleRoom}

-- a code from its four octets
pub signed_back : (z : ℤ) → holds 4 z ≡ true → signed_of (octets_in 4 (bits_at (top_of 4) z)) ≡ z
unfolding signed_of
signed_back z h =
    let small = holds_small 4 z h in
    rw (length_octets_lem 4 (bits_at (top_of 4) z), number_octets 4 (bits_at (top_of 4) z) (bits_within (top_of 4) z small)) (signed_bits (top_of 4) z small (top_odd 4 (omega arith)))

code_size : (c : Optional ℤ) → length (code_octets c) ≡ 7
unfolding code_octets
code_size None = omega (arith, length_octets_lem 4 0)
code_size (Some z) = omega (arith, length_octets_lem 4 (bits_at (top_of 4) z))

rule_size_lem : (r : Rule) → length (rule_octets r) ≡ rule_size
unfolding rule_octets
rule_size_lem r = omega (arith, length-append (code_octets r.code) (octets_in 4 r.link), code_size r.code, length_octets_lem 4 r.link)

link_back : (n : ℕ) (bits rest : List ℕ) → length bits ≡ 4 → n ≤ top_of 4 → number_from 0 (take 4 (drop 4 ((bits ++ octets_in 4 n) ++ rest))) ≡ n
link_back n bits rest h l = rw (append_assoc bits (octets_in 4 n) rest, drop_at bits (octets_in 4 n ++ rest) 4 h, take_at (octets_in 4 n) rest 4 (length_octets_lem 4 n)) (number_octets 4 n l)

bits_back : (n : ℕ) (bits rest : List ℕ) → length bits ≡ 4 → take 4 ((bits ++ octets_in 4 n) ++ rest) ≡ bits
bits_back n bits rest h = rw (append_assoc bits (octets_in 4 n) rest) (take_at bits (octets_in 4 n ++ rest) 4 h)

rule_from : (k n : ℕ) (c : Optional ℤ) (rest : List ℕ) → CodeRoom c → n ≤ top_of 4 → rule_of ((k ∷ code_octets c ++ octets_in 4 n) ++ rest) ≡ record { kind = k; code = c; link = n }
unfolding rule_of kind_in code_in code_octets
rule_from k n None rest o l = rw (link_back n (octets_in 4 0) rest (length_octets_lem 4 0) l)
rule_from k n (Some z) rest o l =
    let bits = octets_in 4 (bits_at (top_of 4) z) in
    let size = length_octets_lem 4 (bits_at (top_of 4) z) in
    rw (link_back n bits rest size l, bits_back n bits rest size, signed_back z o)

rule_back : (r : Rule) (rest : List ℕ) → RuleRoom r → rule_of (rule_octets r ++ rest) ≡ r
unfolding rule_octets
rule_back r rest o = rule_from r.kind r.link r.code rest o.0 o.1

rules_back : (rules : List Rule) → Every RuleRoom rules → rules_from (length rules) (rules_octets rules) ≡ rules
unfolding rules_from rules_octets Every
rules_back [] o = refl
rules_back (r ∷ rs) o = rw (rule_back r (rules_octets rs) o.0, drop_at (rule_octets r) (rules_octets rs) rule_size (rule_size_lem r), rules_back rs o.1)

rules_size : (rules : List Rule) → length (rules_octets rules) ≡ length rules * rule_size
unfolding rules_octets
rules_size [] = refl
rules_size (r ∷ rs) = omega (arith, length-append (rule_octets r) (rules_octets rs), rule_size_lem r, rules_size rs)

pub rules_read : (rules : List Rule) → Every RuleRoom rules → rules_in (rules_octets rules) ≡ rules
unfolding rules_in
rules_read rules o =
    let all : length (rules_octets rules) / rule_size ≡ length rules = omega (arith, rules_size rules) in
    rw all (rules_back rules o)
