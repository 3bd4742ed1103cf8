use Rattle.std.proofs.Common.{◌++◌, List, drop, map}
use Rattle.he_dns.specs.Texts.{HostName}
use Rattle.he_settings.specs.Plans.{AreSpelled}
use Rattle.he_settings.proofs.plan.spelled.Given as goal

-- the names found so far, with what the texts from here spell, are what all spell
abbrev pub invariant-loop-text : goal.invariant-loop-text
invariant-loop-text l = (later : List HostName) → AreSpelled (map (λ text. text.items) (drop l.text-index l.texts)) later
    → AreSpelled (map (λ text. text.items) l.texts) (l.names.items ++ later)
