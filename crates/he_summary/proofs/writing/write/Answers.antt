use Rattle.std.proofs.Common.{List, ◌≡◌, ◌∙◌, ℕ, map, subst}
use Rattle.std.proofs.lemmas.Result.{on_ok_weaker}
use Rattle.he_addr.specs.declared.ip.Ip.{Ip}
use Rattle.he_totals.specs.Hosts.{hosts_in}
use Rattle.he_totals.specs.Kept.{kept_of}
use Rattle.he_totals.specs.Totals.{AreTotals}
use Rattle.he_summary.specs.Written.{IsReport, TellsSlowest}
use Rattle.he_summary.specs.declared.figures.Form.{Form}
use Rattle.he_totals.specs.declared.kept.Kept.{Kept}
use Rattle.he_totals.specs.declared.tallies.Tally.{Tally}
use Rattle.he_totals.specs.declared.totals.Totals.{Totals}
use Rattle.he_summary.proofs.writing.write.Goals as goal

-- a report on equal races, with equal tables
moved : (form : Form) (totals : Totals) (told kept : List Kept) (first failing second servers : List (Ip × Tally)) (hosts : Ip → List (List ℕ)) (old new : List ℕ) → told ≡ kept → first ≡ failing → second ≡ servers
    → IsReport form totals told (first, second) hosts old new → IsReport form totals kept (failing, servers) hosts old new
moved form totals told kept first failing second servers hosts old new same one two is =
    subst (λ (k : List Kept). IsReport form totals k (failing, servers) hosts old new) same
    (subst (λ (f : List (Ip × Tally)). IsReport form totals told (f, servers) hosts old new) one
    (subst (λ (s : List (Ip × Tally)). IsReport form totals told (first, s) hosts old new) two is))

pub returns : goal.returns
returns g c = λ runs has.
    on_ok_weaker c.write_rest.result
    (λ rest. (
      c.in_ok-totals.totals,
      c.in_ok-failing.failing.items,
      c.in_ok-servers.servers.items,
      c.args.races.now.hosts,
      c.write_report.new.text.items,
      subst (λ (kept : List Kept). AreTotals kept c.in_ok-totals.totals) (c.kept.ensures ∙ has.kept) c.in_ok-totals.ensures,
      (c.args.races.now.tallies, has.tallies, c.in_ok-failing.ensures),
      (c.args.races.now.servers, has.servers, c.in_ok-servers.ensures),
      has.hosts,
      has.pairs,
      moved c.args.form c.in_ok-totals.totals c.args.races.now.kept (map kept_of runs) c.as_slice.result.now c.in_ok-failing.failing.items c.as_slice-2.result.now c.in_ok-servers.servers.items (hosts_in c.args.races.now.hosts) c.args.text.now.items
          c.write_report.new.text.items has.kept c.as_slice.ensures.value c.as_slice-2.ensures.value c.in_ok-write_report.ensures,
      subst (λ (kept : List Kept). TellsSlowest c.args.form c.args.slowest kept c.write_report.new.text.items c.write_rest.new.text.items) has.kept rest,
    ))
    c.write_rest.ensures
