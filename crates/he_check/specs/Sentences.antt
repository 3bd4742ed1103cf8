-- The sentence of a likely mistake: its consequence, and the remedy.
use Rattle.std.specs.Prelude.{ℕ, ◌++◌, List, [], ◌∷◌, codes, decimal}
use Rattle.he_addr.specs.declared.ip.Family.TheVariants as families
use Rattle.he_check.specs.declared.slips.Slip.{Slip}
use Rattle.he_check.specs.declared.slips.Slip.TheVariants.{NoRace, NoSource, IdleFloor, NoRoute, NoAnswer, LateAnswer, UnusableAnswer, NoSourceOf, LateOutcome, Unanswered}
use Rattle.he_check.specs.declared.slips.Warning.{Warning}

abbrev pub sentence_of : Slip → List ℕ
sentence_of NoRace = codes "the input has no race: a race begins with the line `race 1` or `race 2`"
sentence_of NoSource = codes "this race has no `source` line, so every address counts as unreachable: add the output of `he host`"
sentence_of IdleFloor =
    codes "the floor of this race is its attempt delay, so it changes nothing: set a lower one, or none"
sentence_of (NoRoute families.V6) = codes "this race has an IPv6 source but no IPv6 route, so no IPv6 address is reachable: add a route, as `route ::/0 1`"
sentence_of (NoRoute families.V4) = codes "this race has an IPv4 source but no IPv4 route, so no IPv4 address is reachable: add a route, as `route 0.0.0.0/0 1`"
sentence_of (NoAnswer families.V6) = codes "this race has no `aaaa` line, so it waits for that answer until its limit: if the name has no IPv6 address, write `aaaa TICK none`"
sentence_of (NoAnswer families.V4) =
    codes "this race has no `a` line, so it waits for that answer until its limit: if the name has no IPv4 address, write `a TICK none`"
sentence_of (LateAnswer families.V6) = codes "the aaaa answer of this race comes after its limit and is never seen: set a higher limit, or an earlier tick"
sentence_of (LateAnswer families.V4) =
    codes "the a answer of this race comes after its limit and is never seen: set a higher limit, or an earlier tick"
sentence_of (UnusableAnswer families.V6) = codes "no address of this race's aaaa line may be tried, as each is unspecified, multicast or in ::ffff:0:0/96: write others, or `none`"
sentence_of (UnusableAnswer families.V4) =
    codes "no address of this race's a line may be tried, as each is unspecified or multicast: write others, or `none`"
sentence_of (NoSourceOf families.V6) = codes "this race has no IPv6 source, so no address of its aaaa line is reachable: add a `source` line, or write `aaaa TICK none`"
sentence_of (NoSourceOf families.V4) = codes "this race has no IPv4 source, so no address of its a line is reachable: add a `source` line, or write `a TICK none`"
sentence_of (LateOutcome families.V6) = codes "an outcome of an IPv6 address of this race comes after its limit and is never seen: set a higher limit, or a shorter time"
sentence_of (LateOutcome families.V4) = codes "an outcome of an IPv4 address of this race comes after its limit and is never seen: set a higher limit, or a shorter time"
sentence_of Unanswered =
    codes "no answer of this race has the address of this line, so the line says nothing: write it as in the answer"

-- he: line N: warning: SENTENCE
abbrev pub warning_text : Warning → List ℕ
warning_text warning =
    codes "he: line " ++ decimal warning.line ++ codes ": warning: " ++ sentence_of warning.slip ++ 10 ∷ []
