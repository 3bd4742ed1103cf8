use Rattle.std.proofs.Common.{ℕ, ◌++◌, ◌∙◌, List, ap}
use Rattle.std.proofs.lemmas.Result.{on_ok_weaker}
use Rattle.he_summary.specs.Written.{hosts_text}
use Rattle.he_summary.proofs.addresses.write_address.Goals as goal

pub returns : goal.returns
returns g c =
    on_ok_weaker c.write_names.result
    (λ (gap, is). (
      c.write_tally.new.text.items,
      gap,
      c.in_ok-write_tally.ensures,
      is ∙ ap (λ (names : List (List ℕ)). c.write_tally.new.text.items ++ (gap ++ hosts_text names)) c.in_ok-names.ensures,
    ))
    (rw c.as_slice.ensures.value at c.write_names.ensures)
