use Rattle.std.proofs.Common.{map, take}
use Rattle.he_proxy_request.specs.Rules.{AreAdded}
use Rattle.he_proxy_request.proofs.rules.add_words.Given as goal

abbrev pub invariant-loop-i : goal.invariant-loop-i
invariant-loop-i l =
    AreAdded l.allows l.places (map (λ text. text.now) (take l.i l.texts)) l.initial.words.items l.words.items
