-- How the outcome of a connect is spelled, and the marks of sources and routes.
use Rattle.std.specs.Prelude.{ℕ, Bool, List, [], ◌∷◌, ◌++◌, if◌then◌else◌, codes}
use Rattle.he_select.specs.declared.host.Source.{Source}
use Rattle.he_select.specs.declared.host.Route.{Route}
use Rattle.he_timeline.specs.declared.outcome.Outcome.{Outcome}
use Rattle.he_timeline.specs.declared.outcome.Outcome.TheVariants as outcomes

abbrev pub mark_text : Outcome → List ℕ
mark_text (outcomes.Ok ticks) = codes "ok"
mark_text (outcomes.Fail ticks) = codes "fail"

-- the token of a mark that is set
abbrev pub marked : Bool → List ℕ → List (List ℕ)
marked is token = if is then token ∷ [] else []

abbrev pub source_marks : Source → List (List ℕ)
source_marks source = marked source.deprecated (codes "deprecated") ++ marked source.temporary (codes "temporary")

abbrev pub route_marks : Route → List (List ℕ)
route_marks route = marked route.tunnel (codes "tunnel")
