-- The word for the end of an attempt, in stories and pictures.
use Rattle.std.specs.Prelude.{ℕ, ◌-◌, if◌then◌else◌, List, nat_le, slice_get}
use Rattle.std.specs.Option.{option_map_or}
use Rattle.he_addr.specs.declared.ip.Ip.{Ip}
use Rattle.he_plan.specs.declared.transcript.Line.{Line}
use Rattle.he_plan.specs.declared.transcript.Mark.{Mark}
use Rattle.he_plan.specs.declared.transcript.Mark.TheVariants as marks
use Rattle.he_record.specs.Given.{is_untried_given}
use Rattle.he_record.specs.Said.{Said as RecordSaid}
use Rattle.he_statements.specs.declared.said.Said.{Said}
use Rattle.he_statements.specs.declared.said.Said.TheVariants as says

-- an attempt that was under way for a number of ticks when its race ended: its outcome is unknown, as no client tried
-- the address; or it gave no answer in the Connection Attempt Delay (RFC 8305 section 5); or it was stopped sooner
abbrev pub cut_said : List RecordSaid → ℕ → Ip → ℕ → Said
cut_said said delay ip taken =
    if is_untried_given ip said then says.Unknown
    else if nat_le delay taken then says.Silent
    else says.Stopped

abbrev pub end_by : List RecordSaid → ℕ → Line → Mark → Said
end_by said delay line (marks.Won tick) = says.Won
end_by said delay line (marks.Failed tick) = says.Failed
end_by said delay line (marks.Cancelled tick) = cut_said said delay line.ip (tick - line.tick)

-- the attempt of a line
abbrev pub end_said : List RecordSaid → ℕ → Line → Said
end_said said delay line = end_by said delay line line.mark

-- the attempt of this place, which was under way for this number of ticks when its race ended
abbrev pub cut_at : List RecordSaid → ℕ → List Line → ℕ → ℕ → Said
cut_at said delay lines place taken =
    option_map_or (λ line. cut_said said delay line.ip taken) (slice_get lines place) says.Stopped
