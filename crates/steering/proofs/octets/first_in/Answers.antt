-- The first rule of the octets that fits. Assumes nothing.
use Rattle.std.proofs.Common.{rules, ◌≡◌, List, ℕ, ◌/◌, length}
use Rattle.std.proofs.lemmas.Iterator.{YieldsList-from_slice}
use Rattle.std.proofs.lemmas.Iterator.Search.{find_from_yields_List}
use Rattle.std.specs.Option.{option_map}
use Rattle.std.specs.Prelude.{map}
use denote.Ref.{Bor}
use mathlib.Core.Path.{ap, ◌∙◌}
use Rattle.steering.specs.declared.{Rule.Rule}
use Rattle.steering.specs.Steering.{rule_fits, first_fit}
use Rattle.steering.specs.Layout.{rule_size, rule_of, rules_in}
use Rattle.steering.proofs.Rules.{fit_lent, rules_twelves}
use Rattle.steering.proofs.octets.first_in.Goals as goal

pub returns : goal.returns
unfolding rules_in
returns c =
    let k : c.map.result ≡ option_map (λ (y : Bor (List ℕ)). (rule_of y.now).link) c.find.result = search rules in
    fit_lent c.args.tag c.args.first rule_of c.find.result c.as_chunks.result.0.now k
    (find_from_yields_List (λ (x : List ℕ). rule_fits (rule_of x) c.args.tag c.args.first) _ _ c.find.result c.find.ensures.ran (YieldsList-from_slice c.as_chunks.result.0.now c.iter.ensures.rest) (λ x b q h. search rules))
    ∙ ap (λ (rs : List Rule). first_fit rs c.args.tag c.args.first) (ap (map rule_of) c.as_chunks.ensures.front ∙ rules_twelves (length c.args.octets.now / rule_size) c.args.octets.now)
