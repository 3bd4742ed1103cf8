-- The ranges that the parts of a race have in the program by their types. A race of the definitions may have values
-- outside of them, which no text spells.
use Rattle.std.specs.Prelude.{ℕ, ◌≤◌}
use Rattle.std.specs.List.{All}
use Rattle.he_addr.specs.Ip.{InRange}
use Rattle.he_addr.specs.declared.ip.Ip.{Ip}
use Rattle.he_addr.specs.Prefix.{IsPrefix}
use Rattle.he_timeline.specs.Race.{Race, addresses_of}
use Rattle.he_select.specs.declared.policy.Row.{Row}
use Rattle.he_select.specs.declared.host.Source.{Source}
use Rattle.he_select.specs.declared.host.Route.{Route}
use Rattle.he_words.specs.Ranges.{most_u16}

abbrev pub RowInRange : Row → Type 0
RowInRange row = IsPrefix row.prefix.bits row.prefix.len × (row.precedence ≤ most_u16) × (row.label ≤ most_u16)

abbrev pub SourceInRange : Source → Type 0
SourceInRange source = InRange source.ip × (source.interface ≤ most_u16)

abbrev pub RouteInRange : Route → Type 0
RouteInRange route = IsPrefix route.prefix.bits route.prefix.len × (route.interface ≤ most_u16)

-- the race's prefixes, addresses and 16-bit numbers are in their ranges
pub record RaceInRange (race : Race) : Type 0 where
  pub rows : All RowInRange race.policy
  pub sources : All SourceInRange race.host.sources
  pub routes : All RouteInRange race.host.routes
  pub aaaa : All InRange (addresses_of race.aaaa)
  pub a : All InRange (addresses_of race.a)
  pub rtts : All (λ (told : Ip × ℕ). InRange told.0) race.history.rtts
  pub used : All InRange race.history.used
