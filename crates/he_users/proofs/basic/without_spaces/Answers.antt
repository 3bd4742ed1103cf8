use Rattle.std.proofs.Common.{[], ap, drop, ◌∙◌}
use Rattle.std.specs.Option.{option_map_or}
use Rattle.std.proofs.lemmas.List.{take_rest}
use Rattle.he_users.proofs.basic.without_spaces.Goals as goal

pub returns-in-Some : goal.returns-in-Some
returns-in-Some c = take_rest c.args.text.now c.in-Some.at ∙ ap (λ found. option_map_or (λ at. drop at c.args.text.now) found []) c.in-Some.ensures

pub returns-in-None : goal.returns-in-None
returns-in-None c = ap (λ found. option_map_or (λ at. drop at c.args.text.now) found []) c.in-None.ensures
