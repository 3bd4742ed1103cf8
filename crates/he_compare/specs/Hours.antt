-- The hour in the name of a record, as a proxy keeps it: `DIR/2026-11-26/16-34-40.123-example.org-443.timeline`.
use Rattle.std.specs.Prelude.{ℕ, ◌==◌, ◌+◌, ◌-◌, ◌*◌, ◌/◌, ◌%◌, ◌&&◌, if◌then◌else◌, Bool, true, false, List, [], ◌∷◌, codes, length, min, nat_le, nat_lt, Option, Some, None}
use Rattle.std.specs.List.{slice_get, slice_split}
use Rattle.std.specs.Option.{unwrap_or}

-- the pieces between the slashes of a name
abbrev pub pieces : List ℕ → List (List ℕ)
pieces name = slice_split (λ byte. byte == 47) name

abbrev pub piece : List ℕ → ℕ → List ℕ
piece name place = unwrap_or (slice_get (pieces name) place) []

-- a byte that fits a byte of a pattern, in which `0` is any digit
abbrev pub is_like : ℕ → ℕ → Bool
is_like wanted byte = if wanted == 48 then nat_le 48 byte && nat_le byte 57 else byte == wanted

-- the text begins with the pattern
abbrev pub fits : List ℕ → List ℕ → Bool
fits [] text = true
fits (wanted ∷ form) [] = false
fits (wanted ∷ form) (byte ∷ text) = is_like wanted byte && fits form text

-- the number of the digit at a place, and of two
abbrev pub digit_at : List ℕ → ℕ → ℕ
digit_at text place = min (unwrap_or (slice_get text place) 48 - 48) 9

abbrev pub two_at : List ℕ → ℕ → ℕ
two_at text place = digit_at text place * 10 + digit_at text (place + 1)

-- the digits of the day and of the hour as one number: 2026112616
abbrev pub hour_number : List ℕ → List ℕ → ℕ
hour_number day time =
    two_at day 0 * 100000000 + two_at day 2 * 1000000 + two_at day 5 * 10000 + two_at day 8 * 100 + two_at time 0

abbrev pub hour_in : List ℕ → List ℕ → Option ℕ
hour_in day time =
    if length day == 10 && (fits (codes "0000-00-00") day && fits (codes "00-00-00.000-") time) then
    Some (hour_number day time)
    else None

-- the hour in the name of a file in the directory of a day
abbrev pub hour_of : List ℕ → Option ℕ
hour_of name =
    if nat_lt (length (pieces name)) 2 then None
    else hour_in (piece name (length (pieces name) - 2)) (piece name (length (pieces name) - 1))

abbrev pub digit : ℕ → ℕ
digit n = 48 + n % 10

-- an hour, as `2026-11-26 16`
abbrev pub hour_text : ℕ → List ℕ
hour_text hour =
    digit (hour / 1000000000) ∷ digit (hour / 100000000) ∷ digit (hour / 10000000) ∷ digit (hour / 1000000) ∷ 45
    ∷ digit (hour / 100000) ∷ digit (hour / 10000) ∷ 45 ∷ digit (hour / 1000) ∷ digit (hour / 100) ∷ 32
    ∷ digit (hour / 10) ∷ digit hour ∷ []
