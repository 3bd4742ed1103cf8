use Rattle.std.proofs.Common.{◌++◌, codes}
use Rattle.std.proofs.lemmas.Result.{on_ok_weaker}
use Rattle.he_summary.specs.Json.{spread_json}
use Rattle.he_summary.proofs.Joined.{joined}
use Rattle.he_summary.proofs.json.write_spreads.Goals as goal

pub returns : goal.returns
returns g c =
    on_ok_weaker c.write_spread-4.result
    (λ done. joined (spread_json (codes "},\"connect_ms\":") c.args.totals.times) (spread_json (codes ",\"names_ms\":") c.args.totals.names ++ (spread_json (codes ",\"lost_ms\":") c.args.totals.lost ++ spread_json (codes ",\"given_up_ms\":") c.args.totals.given_up)) c.args.text.now.items c.write_spread.new.text.items c.write_spread-4.new.text.items c.in_ok-write_spread.ensures
    (joined (spread_json (codes ",\"names_ms\":") c.args.totals.names) (spread_json (codes ",\"lost_ms\":") c.args.totals.lost ++ spread_json (codes ",\"given_up_ms\":") c.args.totals.given_up) c.write_spread.new.text.items c.write_spread-2.new.text.items c.write_spread-4.new.text.items c.in_ok-write_spread-2.ensures
    (joined (spread_json (codes ",\"lost_ms\":") c.args.totals.lost) (spread_json (codes ",\"given_up_ms\":") c.args.totals.given_up) c.write_spread-2.new.text.items c.write_spread-3.new.text.items c.write_spread-4.new.text.items c.in_ok-write_spread-3.ensures done)))
    c.write_spread-4.ensures
