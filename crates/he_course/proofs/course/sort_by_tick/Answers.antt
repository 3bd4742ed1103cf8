use Rattle.std.proofs.Common.{rules}
use Rattle.std.proofs.lemmas.List.Sorted.{answers_always, IsNonDecreasingBy-from_sort}
use Rattle.std.proofs.lemmas.Result.{on_ok_weaker}
use Rattle.he_course.proofs.CourseLaws.{tick_of_event}
use Rattle.he_course.proofs.SortLaws.{puts-from_sort}
use Rattle.he_course.proofs.course.sort_by_tick.Goals as goal

pub returns : goal.returns
returns g c =
    let keys = answers_always _ _ _ (λ f a r next called. search rules) in
    on_ok_weaker c.sort_by_key.result
    (λ sorted. puts-from_sort _ _ (IsNonDecreasingBy-from_sort tick_of_event _ (sorted tick_of_event keys)) (c.sort_by_key.ensures.stable tick_of_event keys))
    c.sort_by_key.ensures.sorted
