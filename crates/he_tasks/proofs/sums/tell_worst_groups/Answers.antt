use Rattle.std.proofs.lemmas.Result.{on_ok_weaker}
use Rattle.he_tasks.proofs.sums.tell_worst_groups.Goals as goal

pub returns : goal.returns
returns c = λ runs summed.
    on_ok_weaker c.tell_worst_host.result (λ host. (c.tell_worst_hour.new.text.items, c.in_ok-tell_worst_hour.ensures runs summed, host)) (c.tell_worst_host.ensures runs summed)
