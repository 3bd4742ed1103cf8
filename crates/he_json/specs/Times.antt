-- The members with the times of a race, in milliseconds; the first is the sum of the others.
use Rattle.std.specs.Prelude.{ℕ, ◌++◌, List, codes, decimal}
use Rattle.he_course.specs.declared.accounts.Times.{Times}

abbrev pub millis_text : List ℕ → ℕ → List ℕ
millis_text name millis = name ++ decimal millis

abbrev pub times_text : Times → List ℕ
times_text times =
    millis_text (codes ",\"ms\":") times.all
    ++ (millis_text (codes ",\"names_ms\":") times.names
    ++ (millis_text (codes ",\"lost_ms\":") times.lost
    ++ (millis_text (codes ",\"unknown_ms\":") times.unknown
    ++ (millis_text (codes ",\"machine_ms\":") times.machine
    ++ millis_text (codes ",\"connecting_ms\":") times.connecting))))
