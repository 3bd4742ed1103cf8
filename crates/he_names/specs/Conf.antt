-- A resolver configuration file (resolver(5)): each line has a keyword, which begins the line, and then its values.
use Rattle.std.specs.Prelude.{ℕ, ◌&&◌, Bool, List, [], ◌∷◌, Option, None, codes, drop, false, filter, fold, length, map, max, min, nat_lt, take, if◌then◌else◌}
use Rattle.std.specs.List.{filter_map, flat_map, list_any}
use Rattle.std.specs.Option.{option_to_list}
use Rattle.std.specs.Str.{bytes_eq}
use Rattle.he_addr.specs.declared.ip.Ip.TheVariants.{V4}
use Rattle.he_addr.specs.Reading.{number_in}
use Rattle.he_names.specs.Fields.{fields_of, is_blank, lines_of}
use Rattle.he_names.specs.Literals.{Zoned, zoned_in}

-- the fields of a line; none if it begins with a blank
unfoldable pub entry_of : List ℕ → List (List ℕ)
entry_of [] = []
entry_of (byte ∷ line) = if is_blank byte then [] else fields_of (byte ∷ line)

-- the entries of a file, line by line
abbrev pub entries_of : List ℕ → List (List (List ℕ))
entries_of text = map entry_of (lines_of text)

-- the last of a list, or else the default
abbrev pub last_of : {X : Type 0} → X → List X → X
last_of x xs = fold (λ _ next. next) x xs

-- ---- name servers

abbrev pub server_of : List (List ℕ) → Option Zoned
server_of (keyword ∷ address ∷ _) = if bytes_eq keyword (codes "nameserver") then zoned_in address else None
server_of _ = None

-- 127.0.0.1, the server if the file names none
abbrev pub own_server : Zoned
own_server = (V4 2130706433, None)

abbrev pub or_own : List Zoned → List Zoned
or_own [] = own_server ∷ []
or_own (server ∷ servers) = server ∷ servers

-- the first three name servers, or the machine's own
abbrev pub servers_in : List ℕ → List Zoned
servers_in text = or_own (take 3 (filter_map server_of (entries_of text)))

-- ---- the search list

-- the domains that an entry gives the search list: for `search` all of its values, for `domain` its first one
abbrev pub domains_of : List (List ℕ) → List (List ℕ)
domains_of (keyword ∷ domain ∷ domains) =
    if bytes_eq keyword (codes "search") then domain ∷ domains else if bytes_eq keyword (codes "domain")
    then domain ∷ [] else []
domains_of _ = []

-- the last search list of the file
abbrev pub last_search : List ℕ → List (List ℕ)
last_search text = last_of [] (filter (λ domains. nat_lt 0 (length domains)) (map domains_of (entries_of text)))

-- the search list: the first 32 domains of it
abbrev pub search_in : List ℕ → List (List ℕ)
search_in text = take 32 (last_search text)

-- ---- numbers

-- the number after the name in an option, as in `ndots:2`
abbrev pub number_behind : List ℕ → List ℕ → Option ℕ
number_behind name option =
    if bytes_eq (take (length name) option) name then number_in (drop (length name) option) else None

abbrev pub numbers_behind : List ℕ → List (List ℕ) → List ℕ
numbers_behind name options = flat_map (λ option. option_to_list (number_behind name option)) options

-- the numbers that an `options` entry gives for the name
abbrev pub numbers_of : List ℕ → List (List ℕ) → List ℕ
numbers_of name [] = []
numbers_of name (keyword ∷ options) = if bytes_eq keyword (codes "options") then numbers_behind name options else []

-- the numbers that the file gives for the name
abbrev pub numbers_in : List ℕ → List ℕ → List ℕ
numbers_in name text = flat_map (numbers_of name) (entries_of text)

-- the last of them, or else the default, brought into its range
abbrev pub option_in : List ℕ → ℕ → ℕ → ℕ → List ℕ → ℕ
option_in name least default most text = max least (min most (last_of default (numbers_in name text)))

-- ---- options without a number

abbrev pub sets : List ℕ → List (List ℕ) → Bool
sets name [] = false
sets name (keyword ∷ options) = bytes_eq keyword (codes "options") && list_any (bytes_eq name) options

-- whether an `options` entry has the name
abbrev pub has_option : List ℕ → List ℕ → Bool
has_option name text = list_any (sets name) (entries_of text)
