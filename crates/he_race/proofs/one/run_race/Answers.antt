use Rattle.std.proofs.Common.{◌≡◌, ◌∙◌, Ok, refl, ap}
use Rattle.he_timeline.specs.Race.{Race}
use Rattle.he_race.specs.Scripted.{script_of}
use Rattle.he_race.proofs.Driven.{starts-under_way}
use Rattle.he_race.proofs.one.run_race.Goals as goal

pub drive-given-requires-clause-under_way : goal.drive-given-requires-clause-under_way
drive-given-requires-clause-under_way g c =
    let same : c.in_ok-race.race.connector.timeline.now ≡ c.args.timeline.now = ap (λ s. s.timeline.now) c.in_ok-race.ensures.connector ∙ c.new-2.ensures in
    starts-under_way _ c.args.timeline.now (record { valid = c.settings.ensures.race; six = c.are_addresses_in_range.ensures.six; four = c.are_addresses_in_range.ensures.four }) c.in_ok-race.race
    (record { begins = λ place ip now answer left h. (h.0 ∙ ap (λ (z : Race). Ok (script_of z ip now)) same, h.1) })
    (c.in_ok-race.ensures.ticker ∙ c.in_ok-ticker.ensures.start) c.in_ok-race.race.live refl c.in_ok-race.ensures.live c.in_ok-race.ensures.first
