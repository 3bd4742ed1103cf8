use Rattle.std.proofs.Common.{◌≡◌, ◌++◌, ◌∙◌, ap, map, subst}
use Rattle.std.specs.Prelude.{None}
use Rattle.he_json.specs.Documents.{heading_text, lists_text, spot_of}
use Rattle.he_json.specs.Facts.{event_facts, preferred_facts}
use Rattle.he_json.specs.Json.{facts_of}
use Rattle.he_json.proofs.RowLaws.{facts_are, written_first}
use Rattle.he_json.proofs.documents.explanation_of.Goals as goal

pub returns : goal.returns
returns g c = record {
  addresses = map (λ row. row.items) c.deref-3.result.now;
  events = map (λ row. row.items) c.deref-4.result.now;
  address_facts = facts_are c.deref-3.result.now c.in_ok-addresses.addresses.items (λ row. row.items) _
      c.deref-3.ensures.value
      (subst (λ xs. map (λ row. facts_of row.items) c.in_ok-addresses.addresses.items ≡ preferred_facts 0 None xs)
      c.deref.ensures.value c.in_ok-addresses.ensures);
  event_facts = facts_are c.deref-4.result.now c.in_ok-events.events.items (λ row. row.items) _ c.deref-4.ensures.value
      (subst (λ xs. map (λ row. facts_of row.items) c.in_ok-events.events.items ≡ map event_facts xs)
      c.deref-2.ensures.value c.in_ok-events.ensures);
  is_text =
      c.in_ok-write_lists.ensures
      ∙ ap
      (λ text. text ++ lists_text (map (λ row. row.items) c.deref-3.result.now) (map (λ row. row.items) c.deref-4.result.now))
      (subst (λ times. c.write_heading.new.text.items ≡ heading_text (spot_of c.args.place) c.args.recorded.now times)
      c.times.ensures
      (written_first c.new-text.result.items _ _ c.new-text.ensures.items c.in_ok-write_heading.ensures));
}
