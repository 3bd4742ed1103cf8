use Rattle.std.proofs.Common.{ℕ, ◌≡◌, ◌==◌, ◌&&◌, ◌∙◌, Bool, List, ap}
use Rattle.std.specs.List.{list_any}
use Rattle.he_addr.specs.declared.ip.Ip.{Ip}
use Rattle.he_totals.specs.Hosts.{with_pair}
use Rattle.he_totals.proofs.Hosted.{pair_more}
use Rattle.he_totals.proofs.tried.Tried.add_pair.Goals as goal

pub returns : goal.returns
returns g c =
    c.in_ok-insert.ensures.keys ∙ pair_more c.self.inside.pairs.keys (c.args.ip, c.args.host)
    ∙ ap (λ (pairs : List (Ip × ℕ)). with_pair pairs (c.args.ip, c.args.host)) c.self.view_is
