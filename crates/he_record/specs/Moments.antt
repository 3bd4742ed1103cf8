-- Moments and their texts: RFC 3339 in UTC, with milliseconds. A moment has one text.
use Rattle.std.specs.Prelude.{ℕ, ◌+◌, ◌/◌, ◌%◌, ◌==◌, ◌&&◌, ◌||◌, Bool, not, if◌then◌else◌, List, [], ◌∷◌, nat_le}
use Rattle.he_record.specs.declared.moment.Moment.{Moment}

-- RFC 3339 appendix C
abbrev pub is_leap : ℕ → Bool
is_leap year = year % 4 == 0 && (not (year % 100 == 0) || year % 400 == 0)

-- the number of days of the month (RFC 3339 section 5.7)
abbrev pub days_of : ℕ → ℕ → ℕ
days_of year month =
    if month == 2 then (if is_leap year then 29 else 28)
    else if month == 4 || month == 6 || month == 9 || month == 11 then 30
    else 31

-- there is this date in the years 0 to 9999, and this time of day; each minute has 60 seconds
abbrev pub is_date : Moment → Bool
is_date m =
    nat_le m.year 9999 && nat_le 1 m.month && nat_le m.month 12 && nat_le 1 m.day && nat_le m.day (days_of m.year m.month)

abbrev pub is_time : Moment → Bool
is_time m = nat_le m.hour 23 && nat_le m.minute 59 && nat_le m.second 59 && nat_le m.millisecond 999

abbrev pub is_moment : Moment → Bool
is_moment m = is_date m && is_time m

-- the last decimal digit of a number, as a byte
abbrev pub digit : ℕ → ℕ
digit n = 48 + n % 10

-- YYYY-MM-DDTHH:MM:SS.mmmZ
abbrev pub moment_text : Moment → List ℕ
moment_text m =
    digit (m.year / 1000) ∷ digit (m.year / 100) ∷ digit (m.year / 10) ∷ digit m.year ∷ 45
    ∷ digit (m.month / 10) ∷ digit m.month ∷ 45
    ∷ digit (m.day / 10) ∷ digit m.day ∷ 84
    ∷ digit (m.hour / 10) ∷ digit m.hour ∷ 58
    ∷ digit (m.minute / 10) ∷ digit m.minute ∷ 58
    ∷ digit (m.second / 10) ∷ digit m.second ∷ 46
    ∷ digit (m.millisecond / 100) ∷ digit (m.millisecond / 10) ∷ digit m.millisecond ∷ 90 ∷ []
