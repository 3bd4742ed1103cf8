-- The record of a race, by its transcript, its account and the events of its course.
use Rattle.std.specs.Prelude.{ℕ, ◌≡◌, ◌+◌, ◌<◌, ◌&&◌, if◌then◌else◌, Bool, true, false, List, length, nat_le, nat_lt, option_map, slice_index, sum, Option, Some, None}
use Rattle.std.specs.List.{list_any}
use Rattle.he_course.specs.Accounts.{owned, race_times}
use Rattle.he_course.specs.Course.{events_in}
use Rattle.he_course.specs.LeastFloor.{ended_of}
use Rattle.he_course.specs.Events.{is_delay_over}
use Rattle.he_course.specs.declared.accounts.Times.{Times}
use Rattle.he_course.specs.declared.floor.Ended.{Ended}
use Rattle.he_course.specs.declared.owners.Owner.TheVariants as owners
use Rattle.he_timeline.specs.Race.{Race}
use Rattle.he_addr.specs.declared.ip.Family.TheVariants as families
use Rattle.he_record.specs.Given.{end_given, is_untried_given, lookup_given, untried_given}
use Rattle.he_record.specs.Said.{Said}
use Rattle.he_plan.specs.Transcript.{Report}
use Rattle.he_plan.specs.declared.transcript.Line.{Line}
use Rattle.he_plan.specs.declared.transcript.Mark.{Mark}
use Rattle.he_plan.specs.declared.transcript.Mark.TheVariants as marks
use Rattle.he_plan.specs.declared.transcript.Outcome3.{Outcome3}
use Rattle.he_plan.specs.declared.transcript.Outcome3.TheVariants as results
use Rattle.he_totals.specs.declared.kept.Ending.{Ending}
use Rattle.he_totals.specs.declared.kept.Ending.TheVariants as endings
use Rattle.he_totals.specs.declared.kept.Kept.{Kept}
use Rattle.he_totals.specs.declared.kept.Loss.{Loss}
use Rattle.he_totals.specs.declared.kept.Loss.TheVariants as losses
use Rattle.he_totals.specs.declared.kept.Place.{Place}

-- a race with the settings of a row, the contents of its record lines, its transcript, and its account: what each
-- attempt owns, by its place, and the times of the race
pub record Run : Type 0 where
  pub row : ℕ
  pub place : Place
  pub said : List Said
  pub race : Race
  pub report : Report
  pub charges : List ℕ
  pub times : Times

-- the milliseconds in which nothing was left to try
abbrev pub nobody_of : Run → ℕ
nobody_of run = owned run.race run.report (untried_given run.said) owners.Nobody

-- the account is that of the race (he_course), whose client did not try the untried addresses
pub record IsCharged (run : Run) : Type 0 where
  pub as_many : length run.charges ≡ length run.report.lines
  pub each : (place : ℕ) → place < length run.report.lines
      → slice_index run.charges place ≡ owned run.race run.report (untried_given run.said) (owners.Tried place)
  pub times : run.times ≡ race_times run.race run.report (untried_given run.said)
  pub lost : run.times.lost ≡ sum run.charges + nobody_of run

abbrev pub ending_by : Outcome3 → Option Line → Ending
ending_by (results.Won place tick) winner = endings.Won (option_map (λ line. line.ip) winner) tick
ending_by (results.Exhausted tick) winner = endings.Exhausted tick
ending_by (results.Limit tick) winner = endings.Limit tick

abbrev pub ending_of : Ended → Ending
ending_of ended = ending_by ended.result ended.winner

-- an attempt that starts here failed; or it gave no answer: at the end of the race it had been under way for the
-- Connection Attempt Delay or longer (RFC 8305 section 5). One that was stopped sooner did neither
abbrev pub loss_by : ℕ → ℕ → Mark → Option Loss
loss_by delay start (marks.Won tick) = None
loss_by delay start (marks.Failed tick) = Some losses.Failed
loss_by delay start (marks.Cancelled tick) = if nat_le (start + delay) tick then Some losses.NoAnswer else None

-- the outcome of an untried address is not known, so an attempt to it did neither
abbrev pub loss_of : List Said → Race → Line → Option Loss
loss_of said race line =
    if is_untried_given line.ip said then None else loss_by race.settings.attempt line.tick line.mark

abbrev pub is_loss : Loss → Option Loss → Bool
is_loss losses.Failed (Some losses.Failed) = true
is_loss losses.NoAnswer (Some losses.NoAnswer) = true
is_loss _ _ = false

-- the client saw the end of the Resolution Delay without an AAAA answer, and made an attempt
abbrev pub has_waited : Race → Report → Bool
has_waited race report =
    list_any (λ event. is_delay_over event.kind) (events_in race report) && nat_lt 0 (length report.lines)

-- an attempt was at an address that no client tried
abbrev pub has_untried : List Said → List Line → Bool
has_untried said lines = list_any (λ line. is_untried_given line.ip said) lines

abbrev pub kept_of : Run → Kept
kept_of run =
    record {
      row = run.row;
      place = run.place;
      ending = ending_of (ended_of run.report);
      attempts = length run.report.lines;
      times = run.times;
      has_waited = has_waited run.race run.report;
      has_untried = has_untried run.said run.report.lines;
      client = end_given run.said;
      aaaa = lookup_given families.V6 run.said;
      a = lookup_given families.V4 run.said;
    }
