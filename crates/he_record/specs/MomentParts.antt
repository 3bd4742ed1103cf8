-- Mirrors the code: the fields at their places in the text of a moment. A text that differs from the text of these
-- fields has another format.
use Rattle.std.specs.Prelude.{ℕ, ◌+◌, ◌*◌, ◌%◌, List, slice_index}
use Rattle.he_record.specs.declared.moment.Moment.{Moment}

-- the value of a digit; of another byte, some number below 16
abbrev pub value_of : ℕ → ℕ
value_of byte = byte % 16

abbrev pub two_at : List ℕ → ℕ → ℕ
two_at text at = value_of (slice_index text at) * 10 + value_of (slice_index text (at + 1))

abbrev pub three_at : List ℕ → ℕ → ℕ
three_at text at = value_of (slice_index text at) * 100 + two_at text (at + 1)

abbrev pub four_at : List ℕ → ℕ → ℕ
four_at text at = two_at text at * 100 + two_at text (at + 2)

abbrev pub parts_in : List ℕ → Moment
parts_in text = record {
  year = four_at text 0;
  month = two_at text 5;
  day = two_at text 8;
  hour = two_at text 11;
  minute = two_at text 14;
  second = two_at text 17;
  millisecond = three_at text 20;
}
