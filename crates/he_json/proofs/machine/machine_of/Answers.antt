use Rattle.std.proofs.Common.{map}
use Rattle.he_json.proofs.RowLaws.{facts_are, written_first}
use Rattle.he_json.proofs.machine.machine_of.Goals as goal

pub returns : goal.returns
returns g c = record {
  sources = map (λ row. row.items) c.deref.result.now;
  routes = map (λ row. row.items) c.deref-2.result.now;
  source_facts = facts_are c.deref.result.now c.in_ok-sources.sources.items (λ row. row.items) _ c.deref.ensures.value c.in_ok-sources.ensures;
  route_facts = facts_are c.deref-2.result.now c.in_ok-routes.routes.items (λ row. row.items) _ c.deref-2.ensures.value c.in_ok-routes.ensures;
  is_text = written_first c.new-text.result.items _ _ c.new-text.ensures.items c.in_ok-write_machine.ensures;
}
