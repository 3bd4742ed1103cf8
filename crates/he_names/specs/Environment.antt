-- The resolver configuration as the environment amends it (resolver(5), LOCALDOMAIN and RES_OPTIONS). In a file the
-- last search list counts, and the last number of an option, so each amendment is a last line. Of a variable the
-- first line counts.
use Rattle.std.specs.Prelude.{ℕ, ◌==◌, ◌++◌, List, ◌∷◌, Option, Some, None, codes, length, if◌then◌else◌}
use Rattle.std.specs.Borrow.{Bor}
use Rattle.he_names.specs.declared.environment.Environment.{Environment}
use Rattle.he_names.specs.Fields.{before, fields_of}

abbrev pub first_line : List ℕ → List ℕ
first_line text = before 10 text

-- the domains of LOCALDOMAIN; the root if it names none
abbrev pub domains_or_root : List ℕ → List ℕ
domains_or_root domains = if length (fields_of domains) == 0 then codes "." else domains

-- the text and one more line
abbrev pub with_line : List ℕ → List ℕ → List ℕ → List ℕ
with_line keyword values text = text ++ 10 ∷ keyword ++ values

-- LOCALDOMAIN in place of the file's search list
abbrev pub with_local_domain : List ℕ → List ℕ → List ℕ
with_local_domain domains text = with_line (codes "search ") (domains_or_root (first_line domains)) text

-- the options of RES_OPTIONS after those of the file
abbrev pub with_res_options : List ℕ → List ℕ → List ℕ
with_res_options options text = with_line (codes "options ") (first_line options) text

-- a variable that is not set changes nothing
abbrev pub amended_by : (List ℕ → List ℕ → List ℕ) → Option (Bor (List ℕ)) → List ℕ → List ℕ
amended_by amends None text = text
amended_by amends (Some value) text = amends value.now text

-- the file as the environment amends it
abbrev pub amended : Environment → List ℕ → List ℕ
amended environment text =
    amended_by with_res_options environment.res_options (amended_by with_local_domain environment.local_domain text)
