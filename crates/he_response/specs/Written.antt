-- The lines of a head that is returned, as they are written.
use Rattle.std.specs.Prelude.{ℕ, List, [], ◌∷◌, ◌++◌, codes, if◌then◌else◌}
use Rattle.std.specs.List.{flat_map}
use Rattle.httparse.specs.Grammar.{print_field}
use Rattle.httparse.specs.declared.spans.HeaderSpan.{HeaderSpan}
use Rattle.he_forward.specs.Forwards.{kept, line}
use Rattle.he_response.specs.Fields.{stays}
use Rattle.he_response.specs.Heads.{digits_of, is_final}

abbrev pub status_text : ℕ → List ℕ → List ℕ
status_text code reason = codes "HTTP/1.1 " ++ (digits_of code ++ (32 ∷ (reason ++ (13 ∷ 10 ∷ []))))

abbrev pub line_of : List ℕ → List HeaderSpan → HeaderSpan → List ℕ
line_of octets all field = if stays octets all field then print_field (kept octets field) else []

abbrev pub kept_text : List ℕ → List HeaderSpan → List HeaderSpan → List ℕ
kept_text octets all fields = flat_map (line_of octets all) fields

abbrev pub closing_text : ℕ → List ℕ
closing_text code = if is_final code then print_field (line (codes "Connection") (codes "close")) else []
