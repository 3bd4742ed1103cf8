use Rattle.std.proofs.Common.{ℕ, ◌++◌, List, codes}
use Rattle.std.proofs.lemmas.Result.{on_ok_weaker}
use Rattle.he_summary.specs.declared.json.Rows.TheVariants as rows
use Rattle.he_totals.specs.Hosts.{hosts_in}
use Rattle.he_summary.specs.Json.{record_json, tallies_json, totals_json}
use Rattle.he_summary.proofs.Joined.{joined}
use Rattle.he_summary.proofs.json.write_summary.Goals as goal

pub returns : goal.returns
returns g c =
    let hosts = hosts_in c.args.hosts.now in
    let servers : List ℕ = codes ",\"servers\":" ++ tallies_json rows.Servers hosts c.args.tables.1.now in
    let record_on : List ℕ = record_json c.args.totals c.args.kept.now ++ servers in
    let addresses : List ℕ = tallies_json rows.Addresses hosts c.args.tables.0.now ++ record_on in
    on_ok_weaker c.write_servers.result
    (λ done. joined (totals_json c.args.totals) (codes ",\"addresses\":" ++ addresses) c.args.text.now.items c.write_totals.new.text.items c.write_servers.new.text.items c.in_ok-write_totals.ensures
    (joined (codes ",\"addresses\":") addresses c.write_totals.new.text.items c.extend_from_slice.new.self.items c.write_servers.new.text.items c.in_ok-extend_from_slice.ensures.items
    (joined (tallies_json rows.Addresses hosts c.args.tables.0.now) record_on c.extend_from_slice.new.self.items c.write_tallies.new.text.items c.write_servers.new.text.items c.in_ok-write_tallies.ensures
    (joined (record_json c.args.totals c.args.kept.now) servers c.write_tallies.new.text.items c.write_record.new.text.items c.write_servers.new.text.items c.in_ok-write_record.ensures done))))
    c.write_servers.ensures
