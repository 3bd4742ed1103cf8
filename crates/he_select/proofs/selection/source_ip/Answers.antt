use Rattle.std.proofs.Common.{◌≡◌, [], option_map, None, Some, rules, sym, ◌∙◌, ap}
use Rattle.he_select.specs.declared.host.Source.{Source}
use Rattle.he_select.specs.declared.selection.LabelledSource.{LabelledSource}
use Rattle.he_select.specs.Selection.{SelectionInput, longest_route}
use Rattle.he_select.specs.LookUps.{rows_of}
use Rattle.he_select.proofs.Sources.{no_source, walked_ip}
use Rattle.he_select.proofs.selection.source_ip.Goals as goal

pub returns-in_err-route : goal.returns-in_err-route
returns-in_err-route c =
    let input : SelectionInput = record { rows = rows_of c.args.table; sources = c.args.sources.now; routes = c.args.routes.now; known = [] } in
    let none : longest_route c.args.routes.now c.args.ip ≡ None = sym c.find_route.ensures ∙ c.in_err-route.was in
    let left : c.from_residual.result ≡ None = search rules in
    left ∙ sym (ap (option_map (λ (s : Source). s.ip)) (no_source input c.args.ip none))

pub returns : goal.returns
returns c =
    let input : SelectionInput = record { rows = rows_of c.args.table; sources = c.args.sources.now; routes = c.args.routes.now; known = [] } in
    let some : longest_route c.args.routes.now c.args.ip ≡ Some c.in_ok-route.route = sym c.find_route.ensures ∙ c.in_ok-route.was in
    let given : c.map.result ≡ option_map (λ (b : LabelledSource). b.source.ip) c.best_source.result = search rules in
    given ∙ walked_ip input c.args.ip c.in_ok-route.route some c.best_source.result (rw (c.new-destination.ensures, c.label.ensures) at c.best_source.ensures)
