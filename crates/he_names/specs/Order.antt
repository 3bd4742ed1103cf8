-- The names that are queried for a host, in order (resolver(5), search and ndots).
use Rattle.std.specs.Prelude.{ℕ, ◌==◌, ◌-◌, Bool, List, [], ◌∷◌, ◌++◌, count_by, filter, length, map, nat_le, not, slice_index, if◌then◌else◌}
use Rattle.std.specs.List.{list_any}

abbrev pub dots : List ℕ → ℕ
dots name = count_by (λ byte. byte == 46) name

-- a final dot makes a name absolute: it is in no domain of the search list
abbrev pub is_absolute : List ℕ → Bool
is_absolute name = slice_index name (length name - 1) == 46

-- a domain of the search list without a leading dot
abbrev pub undotted : List ℕ → List ℕ
undotted [] = []
undotted (byte ∷ domain) = if byte == 46 then domain else byte ∷ domain

-- `.`, the domain of all names
abbrev pub is_root : List ℕ → Bool
is_root domain = length (undotted domain) == 0

-- the name in a domain of the search list; in the root it is the name itself
abbrev pub within : List ℕ → List ℕ → List ℕ
within name domain = if is_root domain then name else name ++ 46 ∷ undotted domain

-- an absolute name is queried only as it is; any other name also in each domain of the search list: after itself if
-- it has at least `ndots` dots, before itself if it has fewer. It is queried as it is once, even if the search list
-- has the root
abbrev pub names_of : List ℕ → ℕ → List (List ℕ) → List (List ℕ)
names_of name ndots search =
    if is_absolute name then name ∷ []
    else if nat_le ndots (dots name) then name ∷ map (within name) (filter (λ domain. not (is_root domain)) search)
    else map (within name) search ++ (if list_any is_root search then [] else name ∷ [])
