use Rattle.std.proofs.Common.{List, ◌≡◌, ◌++◌, OnOk, subst, sym}
use Rattle.he_totals.specs.Hosts.{Named, hosts_in}
use Rattle.he_summary.specs.Json.{summary_json}
use Rattle.he_summary.specs.Written.{IsReport}
use Rattle.he_summary.specs.declared.figures.Form.{Form}
use Rattle.he_totals.specs.declared.kept.Kept.{Kept}
use Rattle.he_summary.proofs.writing.write_report.Goals as goal

pub returns-in-Json : goal.returns-in-Json
returns-in-Json g c =
    subst (λ (form : Form). OnOk c.write_summary.result (IsReport form c.args.totals c.args.races.now.kept (c.args.tables.0.now, c.args.tables.1.now) (hosts_in c.args.races.now.hosts) c.args.text.now.items c.write_summary.new.text.items)) (sym c.in-Json.is)
    (subst (λ (kept : List Kept). OnOk c.write_summary.result (c.write_summary.new.text.items ≡ c.args.text.now.items ++ summary_json c.args.totals kept (hosts_in c.args.races.now.hosts) c.args.tables.0.now c.args.tables.1.now)) c.kept-in-Json.ensures
    (subst (λ (hosts : Named). OnOk c.write_summary.result (c.write_summary.new.text.items ≡ c.args.text.now.items ++ summary_json c.args.totals c.kept-in-Json.result.now (hosts_in hosts) c.args.tables.0.now c.args.tables.1.now)) c.tried_hosts-in-Json.ensures c.write_summary.ensures))
