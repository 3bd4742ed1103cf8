use Rattle.std.proofs.Common.{◌≡◌, ◌⊎◌, true, inl, inr, arith, rules}
use Rattle.he_tasks.proofs.InTurn.{both_halves, half_short, only_one}
use Rattle.he_tasks.proofs.files.+run_files.Goals.{else-first-ne-DONE-via-then-first-ne-DONE+else-not-texts, else-first-ne-DONE-via-else-first-ne-DONE}
use Rattle.he_tasks.proofs.files.+run_files.Goals as goal

pub returns-in-len1 : goal.returns-in-len1
returns-in-len1 g t c =
    only_one _ _ c.args.names.now _ _ _ _ _ c.run_name-status.result (omega arith) (omega arith) c.run_name-status.ensures

pub returns-then-not-texts : goal.returns-then-not-texts
returns-then-not-texts g t c =
    half_short _ _ c.args.names.now _ _ _ _ _ _ _ c.run_files-first.result c.split_at.ensures.front c.split_at.ensures.back (search rules) (search rules) c.run_files-first.ensures

pub returns : goal.returns
returns g t c =
    let going : (c.args.texts.now.goes_on ≡ true) ⊎ (c.run_files-first.result ≡ 0) =
    elim c.else-first-ne-DONE.branch [
      | else-first-ne-DONE-via-then-first-ne-DONE+else-not-texts w ↦ inl (search rules)
      | else-first-ne-DONE-via-else-first-ne-DONE w ↦ inr (search rules)
    ] in
    both_halves _ _ c.args.names.now _ _ _ _ _ _ _ _ _ c.run_files-first.result c.run_files.result c.first_fault.result
    c.split_at.ensures.front c.split_at.ensures.back c.run_files-first.ensures going c.run_files.ensures c.first_fault.ensures
