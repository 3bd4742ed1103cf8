-- Facts of nothing but a time.
use Rattle.std.specs.Prelude.{◌≡◌, [], Option, None}
use Rattle.he_record.specs.declared.moment.Moment.{Moment}
use Rattle.he_recording.specs.declared.facts.Facts.{Facts}

-- the time of tick 0, and nothing else
pub record IsAlone (at : Option Moment) (facts : Facts) : Type 0 where
  pub time : facts.at ≡ at
  pub to : facts.to ≡ None
  pub from : facts.from ≡ None
  pub six : facts.six ≡ None
  pub four : facts.four ≡ None
  pub nat64 : facts.nat64.now ≡ []
  pub servers : facts.servers.now ≡ []
  pub attempts : facts.attempts.now ≡ []
  pub end : facts.end ≡ None
