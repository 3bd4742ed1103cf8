use Rattle.std.proofs.Common.{◌++◌, List, ◌∙◌, ap, subst}
use Rattle.he_plan.specs.declared.transcript.Line.{Line}
use Rattle.he_plan.specs.declared.transcript.Outcome3.{Outcome3}
use Rattle.he_words.specs.Appending.{AppendsText}
use Rattle.he_write.specs.Written.{attempts_text, result_text}
use Rattle.he_words.proofs.Appending.{writes_then}
use Rattle.he_write.proofs.transcripts.write_whole.Goals as goal

pub returns : goal.returns
returns g c =
    let P : Outcome3 → Type 0 = λ ending. AppendsText c.write_result.result c.write_attempts.new.out.items c.write_result.new.out.items (result_text ending) in
    writes_then c.args.out.now.items c.write_attempts.new.out.items c.write_result.new.out.items
    (attempts_text c.args.transcript.now.lines)
    (result_text c.args.transcript.now.result)
    c.write_result.result
    (c.in_ok-write_attempts.ensures ∙ ap (λ (lines : List Line). c.args.out.now.items ++ attempts_text lines) c.attempts.ensures)
    (subst P c.result.ensures c.write_result.ensures)
