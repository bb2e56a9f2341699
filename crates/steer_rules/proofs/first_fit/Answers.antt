-- The first rule of the slice that fits. Assumes nothing.
use Rattle.std.proofs.Common.{rules, ◌≡◌}
use Rattle.std.proofs.lemmas.Iterator.{YieldsList-from_slice}
use Rattle.std.proofs.lemmas.Iterator.Search.{find_from_yields_List}
use Rattle.std.proofs.lemmas.List.{map-id}
use Rattle.std.specs.Option.{option_map}
use denote.Ref.{Bor}
use mathlib.Core.List.{List}
use mathlib.Core.Path.{ap, ◌∙◌}
use Rattle.steering.specs.declared.{Rule.Rule}
use Rattle.steering.specs.Steering.{rule_fits, first_fit}
use Rattle.steering.proofs.Rules.{fit_lent}
use Rattle.steer_rules.proofs.first_fit.Goals as goal

pub returns : goal.returns
returns c =
    let k : c.map.result ≡ option_map (λ (y : Bor Rule). y.now.link) c.find.result = search rules in
    fit_lent c.args.tag c.args.first (λ (r : Rule). r) c.find.result c.args.rules.now k
    (find_from_yields_List (λ (r : Rule). rule_fits r c.args.tag c.args.first) _ _ c.find.result c.find.ensures.ran (YieldsList-from_slice c.args.rules.now c.iter.ensures.rest) (λ x b q h. search rules))
    ∙ ap (λ (rs : List Rule). first_fit rs c.args.tag c.args.first) (map-id c.args.rules.now)
