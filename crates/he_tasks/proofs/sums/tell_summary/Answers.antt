use Rattle.std.proofs.lemmas.Result.{on_ok_weaker}
use Rattle.he_tasks.proofs.sums.tell_summary.Goals as goal

pub returns : goal.returns
returns c = λ runs summed.
    on_ok_weaker c.tell_worst.result (λ worst. (c.write.new.text.items, c.in_ok-write.ensures runs summed, worst)) (c.tell_worst.ensures runs summed)
