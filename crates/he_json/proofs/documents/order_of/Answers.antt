use Rattle.std.proofs.Common.{map}
use Rattle.he_json.proofs.RowLaws.{facts_are, written_first}
use Rattle.he_json.proofs.documents.order_of.Goals as goal

pub returns : goal.returns
returns g c = record {
  addresses = map (λ row. row.items) c.deref.result.now;
  address_facts = facts_are c.deref.result.now c.in_ok-addresses.addresses.items (λ row. row.items) _ c.deref.ensures.value c.in_ok-addresses.ensures;
  is_text = written_first c.new-text.result.items _ _ c.new-text.ensures.items c.in_ok-write_order.ensures;
}
