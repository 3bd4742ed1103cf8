use Rattle.std.proofs.Common.{◌∙◌, ℕ, ap}
use Rattle.std.specs.Prelude.{Bool, None}
use Rattle.he_addr.specs.Ip.{mapped_of}
use Rattle.he_select.specs.Attributes.{serves_number}
use Rattle.he_select.specs.Selection.{is_longer_route}
use Rattle.he_select.specs.Walking.{walk_fitting}
use Rattle.he_select.proofs.LookUps.{route_walked}
use Rattle.he_select.proofs.lookup.find_route.Goals as goal

pub returns : goal.returns
returns c =
    c.longest_serving.ensures
    ∙ ap (λ (n : ℕ). walk_fitting (serves_number n c.is_v4.result) is_longer_route None c.args.routes.now) c.mapped.ensures
    ∙ ap (λ (v : Bool). walk_fitting (serves_number (mapped_of c.args.ip) v) is_longer_route None c.args.routes.now) c.is_v4.ensures
    ∙ route_walked c.args.routes.now c.args.ip
