use Rattle.std.proofs.Common.{OnOk, subst, sym}
use Rattle.he_options.specs.declared.texts.Task.{Task}
use Rattle.he_summary.specs.declared.figures.Form.{Form}
use Rattle.he_tasks.specs.Summaries.{IsSummary, IsTold}
use Rattle.he_tasks.proofs.sums.tell.Goals as goal

pub returns-in-Summarize : goal.returns-in-Summarize
returns-in-Summarize c = λ runs summed.
    subst (λ (task : Task). OnOk c.tell_summary.result (IsTold task c.args.texts.now runs c.args.text.now.items c.tell_summary.new.text.items)) (sym c.in-Summarize.is)
    (subst (λ (form : Form). OnOk c.tell_summary.result (IsSummary form c.args.texts.now runs c.in-Summarize.slowest c.args.text.now.items c.tell_summary.new.text.items)) c.form_of-form.ensures (c.tell_summary.ensures runs summed))
