use Rattle.std.proofs.Common.{◌∙◌, inl}
use Rattle.he_tasks.proofs.whole.write_texts.Goals as goal

pub returns-in-Ok-begin : goal.returns-in-Ok-begin
returns-in-Ok-begin g c =
    inl (
      c.new.result,
      c.begin.new.output,
      c.run_all-own.new.session.output,
      c.run_all-own.new.sums,
      c.run_all-own.result,
      c.end_texts-end.result,
      c.new.ensures.none,
      c.new.ensures.settings ∙ c.in-Ok.ensures.ok,
      c.in-Ok-begin.ensures.ok,
      c.run_all-own.ensures,
      c.end_texts-end.ensures,
      c.first_fault.ensures,
    )
