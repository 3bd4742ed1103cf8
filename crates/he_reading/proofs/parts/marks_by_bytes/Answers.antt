use Rattle.std.proofs.Common.{ℕ, ◌==◌, ◌∙◌, length, ap}
use Rattle.memchr.proofs.lemmas.CallerLemmas.{length-places}
use Rattle.he_reading.proofs.parts.marks_by_bytes.Goals as goal

pub returns : goal.returns
returns c =
    let mark : ℕ = c.args.mark in
    c.count.ensures ∙ ap length c.memchr_iter.ensures.value ∙ length-places (λ b. b == mark) c.args.text.now
