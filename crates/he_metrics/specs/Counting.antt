-- The counts that each event changes.
use Rattle.std.specs.Prelude.{ℕ, ◌≡◌, ◌+◌, ◌∷◌, List}
use Rattle.he_addr.specs.declared.ip.Family.{Family}
use Rattle.he_addr.specs.declared.ip.Family.TheVariants as families
use Rattle.he_metrics.specs.Histograms.{Shows, saturated}
use Rattle.he_metrics.specs.declared.counts.Counts.{Counts}
use Rattle.he_metrics.specs.declared.events.End.{End}
use Rattle.he_metrics.specs.declared.events.End.TheVariants as ends
use Rattle.he_metrics.specs.declared.events.Event.{Event}
use Rattle.he_metrics.specs.declared.events.Event.TheVariants as events
use Rattle.he_metrics.specs.declared.events.Lookup.{Lookup}
use Rattle.he_metrics.specs.declared.events.Lookup.TheVariants as lookups
use Rattle.he_metrics.specs.declared.events.Loss.{Loss}
use Rattle.he_metrics.specs.declared.events.Loss.TheVariants as losses
use Rattle.he_metrics.specs.declared.events.Refusal.{Refusal}
use Rattle.he_metrics.specs.declared.events.Refusal.TheVariants as refusals
use Rattle.he_metrics.specs.declared.events.Win.{Win}
use Rattle.he_metrics.specs.declared.histogram.Histogram.{Histogram}
use Rattle.he_metrics.specs.declared.tables.Ends.{Ends}
use Rattle.he_metrics.specs.declared.tables.Lookups.{Lookups}
use Rattle.he_metrics.specs.declared.tables.Losses.{Losses}
use Rattle.he_metrics.specs.declared.tables.Refusals.{Refusals}
use Rattle.he_metrics.specs.declared.tables.Wins.{Wins}

-- one more, up to the greatest that is counted
abbrev pub more : ℕ → ℕ
more count = saturated (count + 1)

abbrev pub ends_with : Ends → End → Ends
ends_with counts ends.Closed = record counts { closed = more counts.closed }
ends_with counts ends.ClientBroke = record counts { client_broke = more counts.client_broke }
ends_with counts ends.ServerBroke = record counts { server_broke = more counts.server_broke }
ends_with counts ends.Idle = record counts { idle = more counts.idle }
ends_with counts ends.ClientLeft = record counts { client_left = more counts.client_left }
ends_with counts ends.Displaced = record counts { displaced = more counts.displaced }
ends_with counts ends.TooLate = record counts { too_late = more counts.too_late }
ends_with counts ends.Refused = record counts { refused = more counts.refused }
ends_with counts ends.NoResponse = record counts { no_response = more counts.no_response }
ends_with counts ends.Page = record counts { page = more counts.page }
ends_with counts ends.UnknownProtocol = record counts { unknown_protocol = more counts.unknown_protocol }
ends_with counts ends.NoMemory = record counts { no_memory = more counts.no_memory }

abbrev pub refused_with : Refusals → Refusal → Refusals
refused_with counts refusals.TurnedAway = record counts { turned_away = more counts.turned_away }
refused_with counts refusals.TooMany = record counts { too_many = more counts.too_many }

abbrev pub wins_with : Wins → Family → Wins
wins_with counts families.V6 = record counts { by_v6 = more counts.by_v6 }
wins_with counts families.V4 = record counts { by_v4 = more counts.by_v4 }

abbrev pub losses_with : Losses → Loss → Losses
losses_with counts losses.ClientLeft = record counts { client_left = more counts.client_left }
losses_with counts losses.Forbidden = record counts { forbidden = more counts.forbidden }
losses_with counts losses.AllFailed = record counts { all_failed = more counts.all_failed }
losses_with counts losses.TimedOut = record counts { timed_out = more counts.timed_out }
losses_with counts losses.Unreachable = record counts { unreachable = more counts.unreachable }
losses_with counts losses.NoNetwork = record counts { no_network = more counts.no_network }
losses_with counts losses.NoDescriptor = record counts { no_descriptor = more counts.no_descriptor }
losses_with counts losses.NotAName = record counts { not_a_name = more counts.not_a_name }
losses_with counts losses.NoSuchName = record counts { no_such_name = more counts.no_such_name }
losses_with counts losses.NoAddress = record counts { no_address = more counts.no_address }
losses_with counts losses.NoAnswer = record counts { no_answer = more counts.no_answer }
losses_with counts losses.DnsRefused = record counts { dns_refused = more counts.dns_refused }
losses_with counts losses.DnsFailed = record counts { dns_failed = more counts.dns_failed }
losses_with counts losses.ProxyFailed = record counts { proxy_failed = more counts.proxy_failed }

abbrev pub looked_up_with : Lookups → Lookup → Lookups
looked_up_with counts lookups.Asked = record counts { asked = more counts.asked }
looked_up_with counts lookups.Shared = record counts { shared = more counts.shared }
looked_up_with counts lookups.Kept = record counts { kept = more counts.kept }

-- the histogram has one time more
abbrev pub HasMore : ℕ → Histogram → Histogram → Type 0
HasMore millis old new = (times : List ℕ) → Shows times old → Shows (millis ∷ times) new

-- a race that connected is counted by its family, its times are in the histograms, and no other count is changed
pub record IsWon (win : Win) (old new : Counts) : Type 0 where
  pub connect : HasMore win.connect old.connect new.connect
  pub names : HasMore win.names old.names new.names
  pub lost : HasMore win.lost old.lost new.lost
  pub others : new ≡ record old {
    wins = wins_with old.wins win.family;
    connect = new.connect;
    names = new.names;
    lost = new.lost;
  }

-- the event is counted, and no other count is changed
abbrev pub IsCounted : Event → Counts → Counts → Type 0
IsCounted events.Begun old new = new ≡ record old { begun = more old.begun }
IsCounted (events.Ended end) old new =
    new ≡ record old { ended = more old.ended; ends = ends_with old.ends end }
IsCounted (events.Refused why) old new = new ≡ record old { refused = refused_with old.refused why }
IsCounted (events.Won win) old new = IsWon win old new
IsCounted (events.Lost why) old new = new ≡ record old { losses = losses_with old.losses why }
IsCounted (events.LookedUp how) old new = new ≡ record old { lookups = looked_up_with old.lookups how }
IsCounted events.Recorded old new = new ≡ record old { recorded = more old.recorded }
IsCounted events.NotRecorded old new = new ≡ record old { not_recorded = more old.not_recorded }
