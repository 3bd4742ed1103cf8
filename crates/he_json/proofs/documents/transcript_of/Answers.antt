use Rattle.std.proofs.Common.{map, ap, ◌∙◌}
use Rattle.he_json.specs.Json.{facts_of}
use Rattle.he_json.proofs.RowLaws.{facts_are, written_first}
use Rattle.he_json.proofs.documents.transcript_of.Goals as goal

pub returns : goal.returns
returns g c = record {
  attempts = map (λ row. row.items) c.deref.result.now;
  end = c.deref-2.result.now;
  attempt_facts = facts_are c.deref.result.now c.in_ok-attempts.attempts.items (λ row. row.items) _ c.deref.ensures.value c.in_ok-attempts.ensures;
  end_facts = ap facts_of c.deref-2.ensures.value ∙ c.in_ok-end.ensures;
  is_text = written_first c.new-text.result.items _ _ c.new-text.ensures.items c.in_ok-write_transcript.ensures;
}
