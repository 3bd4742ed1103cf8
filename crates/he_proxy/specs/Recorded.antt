-- The record of a session's race.
use Rattle.std.specs.Prelude.{ℕ, ◌≡◌, ◌-◌, ◌&&◌, Bool, true, List, Option, Some, None, if◌then◌else◌, nat_le, string_bytes}
use Rattle.std.specs.Net.Socket.{socket_ip}
use Rattle.std.specs.declared.net.socket_addr.SocketAddr.{SocketAddr}
use Rattle.he_addr.specs.Text.{ip_of}
use Rattle.he_addr.specs.declared.ip.Ip.{Ip}
use Rattle.he_addr.specs.declared.ip.Ip.TheVariants.{V4, V6}
use Rattle.he_setup.specs.Recorded.{IsFactsFor}
use Rattle.he_setup.specs.declared.recorded.KnownFacts.{KnownFacts}
use Rattle.he_live.specs.Recorded.{IsRaceRecord}
use Rattle.he_plan.specs.Transcript.{Report}
use Rattle.he_record.specs.declared.reasons.ClientEnd.{ClientEnd}
use Rattle.he_record.specs.declared.reasons.ClientEnd.TheVariants.{GaveUp}
use Rattle.he_recording.specs.declared.facts.Facts.{Facts}
use Rattle.he_recording.specs.declared.facts.Target.{Target}
use Rattle.he_timeline.specs.Race.{Race}
use Rattle.he_proxy.specs.declared.keeping.Keeping.{Keeping}

-- an IPv4 client of an IPv6 socket has a mapped address (RFC 4291 section 2.5.5.2)
abbrev pub unmapped : Ip → Ip
unmapped (V4 n) = V4 n
unmapped (V6 n) =
    if nat_le 0xffff_0000_0000 n && nat_le n 0xffff_ffff_ffff then V4 (n - 0xffff_0000_0000) else V6 n

abbrev pub client_ip : SocketAddr → Ip
client_ip client = unmapped (ip_of (socket_ip client))

-- the client left at this tick
abbrev pub end_of : Option ℕ → Option ClientEnd
end_of None = None
end_of (Some tick) = Some (GaveUp tick)

module _ {R : Type 0} where
  -- the facts of a session's race: those of a race of he_setup to its host and port, by a NAT64 or not, and its
  -- client, and the tick at which that left
  pub record IsSessionFacts (session : Keeping R) (by_nat64 : Bool) (given_up : Option ℕ) (race : Race)
      (known : KnownFacts) (facts : Facts) : Type 0 where
    pub target : Target
    pub host : target.host.now ≡ string_bytes session.host
    pub port : target.port ≡ session.port
    pub plain : Facts
    pub of_race : IsFactsFor by_nat64 target session.families race known plain
    pub is : facts ≡ record plain { from = Some (client_ip session.client); end = end_of given_up }
    pub attempts : facts.attempts ≡ known.attempts

  -- the text is that of the race with its record, which has these facts and all failed attempts of the transcript
  pub record IsRecordOf (session : Keeping R) (given_up : Option ℕ) (race : Race) (report : Report) (text : List ℕ) : Type 0
    where
      pub known : KnownFacts
      pub at : known.at ≡ session.at
      pub facts : Facts
      pub by_nat64 : Bool
      pub only : by_nat64 ≡ true → session.embeds ≡ true
      pub of_session : IsSessionFacts session by_nat64 given_up race known facts
      pub is : IsRaceRecord facts race report text
