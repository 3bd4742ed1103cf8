use Rattle.std.proofs.Common.{◌≡◌, true, take, All}
use Rattle.he_options.specs.Words.{is_setting}
use Rattle.he_options.proofs.settings.are_settings.Given as goal

abbrev pub invariant-loop-text : goal.invariant-loop-text
invariant-loop-text l = All (λ text. is_setting text.now ≡ true) (take l.text-index l.texts)
