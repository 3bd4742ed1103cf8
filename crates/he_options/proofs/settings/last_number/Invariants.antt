use Rattle.std.proofs.Common.{◌≡◌, drop, map}
use Rattle.std.specs.Option.{option_or}
use Rattle.he_options.specs.Words.{last_number}
use Rattle.he_options.proofs.settings.last_number.Given as goal

abbrev pub invariant-loop-text : goal.invariant-loop-text
invariant-loop-text l =
    option_or (last_number l.name (map (λ text. text.now) (drop l.text-index l.texts))) l.last
    ≡ last_number l.name (map (λ text. text.now) l.texts)
