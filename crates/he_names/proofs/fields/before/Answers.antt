use Rattle.std.proofs.Common.{ap, take}
use Rattle.std.specs.Option.{option_map_or}
use Rattle.he_names.proofs.fields.before.Goals as goal

pub returns-in-Some : goal.returns-in-Some
returns-in-Some c = ap (λ found. option_map_or (λ at. take at c.args.text.now) found c.args.text.now) c.in-Some.ensures

pub returns-in-None : goal.returns-in-None
returns-in-None c = ap (λ found. option_map_or (λ at. take at c.args.text.now) found c.args.text.now) c.in-None.ensures
