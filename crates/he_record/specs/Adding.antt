-- The faults of a line that is added to a record: the checks of a line of a text, in order, without those of the
-- spelling.
use Rattle.std.specs.Prelude.{◌≤◌, not, List, [], ◌∷◌, Option, None, nat_lt}
use Rattle.he_addr.specs.Ip.{InRange}
use Rattle.he_timeline.specs.declared.limits.TheConstants.{MAX_TICK}
use Rattle.he_words.specs.declared.fault.TextKind.{TextKind}
use Rattle.he_words.specs.declared.fault.TextKind.TheVariants as kinds
use Rattle.he_words.specs.Ranges.{most_u16}
use Rattle.he_reading.specs.Faults.{test, first_fault}
use Rattle.he_record.specs.Faults.{out_of_order, one_too_many, repeated}
use Rattle.he_record.specs.Moments.{is_moment}
use Rattle.he_record.specs.Ranges.{least_port}
use Rattle.he_record.specs.Said.{Said, AtSaid, ToSaid, FromSaid, Nat64Said, ServerSaid, AttemptSaid, UntriedSaid, EndSaid, is_host, is_nat64, ticks_of, word_said}

-- a value out of its range that the program's types allow
abbrev pub value_fault : Said → Option TextKind
value_fault (AtSaid moment) = test (not (is_moment moment)) kinds.Range
value_fault (ToSaid host port) =
    first_fault (test (not (is_host host)) kinds.Word ∷ test (nat_lt port least_port) kinds.Range ∷ [])
value_fault (Nat64Said prefix) = test (not (is_nat64 prefix)) kinds.Range
value_fault (ServerSaid ip reason ticks) = test (nat_lt MAX_TICK ticks) kinds.Range
value_fault (EndSaid end) = test (nat_lt MAX_TICK (ticks_of end)) kinds.Range
value_fault said = None

-- the ranges of the program's types
abbrev pub HasTypes : Said → Type 0
HasTypes (ToSaid host port) = port ≤ most_u16
HasTypes (FromSaid ip) = InRange ip
HasTypes (ServerSaid ip reason ticks) = InRange ip
HasTypes (AttemptSaid ip reason) = InRange ip
HasTypes (UntriedSaid ip) = InRange ip
HasTypes said = Unit {0}

-- the first check that fails
abbrev pub add_fault : List Said → Said → Option TextKind
add_fault before said =
    first_fault (
    out_of_order before (word_said said)
    ∷ one_too_many before (word_said said)
    ∷ value_fault said
    ∷ repeated before said
    ∷ [])
