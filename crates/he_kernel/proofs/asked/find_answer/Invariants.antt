use Rattle.std.proofs.Common.{◌≡◌, drop}
use Rattle.std.specs.Prelude.{find}
use Rattle.he_kernel.specs.Asked.{is_for}
use Rattle.he_kernel.proofs.asked.find_answer.Given as goal

abbrev pub invariant-loop-answer : goal.invariant-loop-answer
invariant-loop-answer l =
    find (is_for l.to l.scope) (drop l.answer-index l.answers) ≡ find (is_for l.to l.scope) l.answers
