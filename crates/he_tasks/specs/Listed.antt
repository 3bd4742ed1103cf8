-- The files that a list names: the line's option --files0-from.
use Rattle.std.specs.Prelude.{ℕ, ◌≡◌, ◌≢◌, ◌⊎◌, ◌==◌, ◌++◌, false, List, [], ◌∷◌, codes}
use Rattle.std.specs.List.{slice_split}
use Rattle.he_stream.specs.declared.stream.InputStream as inputs
use Rattle.he_tasks.specs.Streams.{Gave}

-- a list, and the same without the byte 0 that ends its last name, if one does
abbrev pub WithoutEnd : List ℕ → List ℕ → Type 0
WithoutEnd list rest = (list ≡ rest ++ 0 ∷ []) ⊎ (list ≡ rest)

-- the names in a list: a byte 0 ends each of them, the last one or not
abbrev pub IsList : List ℕ → List (List ℕ) → Type 0
IsList list names = (rest : List ℕ) × WithoutEnd list rest × (names ≡ slice_split (λ b. b == 0) rest)

-- a file was opened, and gave these bytes to its end
abbrev pub WasOpened : {F : Type 0} → inputs.Ghosts F → List ℕ → Type 0
WasOpened {F} file bytes = (opened closed : F) × Gave file opened closed bytes false

-- the bytes of the list at this path, which is the input if it is `-`
abbrev pub WasListed : {I F : Type 0} → inputs.Ghosts I → inputs.Ghosts F → List ℕ → I → I → List ℕ → Type 0
WasListed input file path first next bytes =
    ((path ≡ codes "-") × Gave input first next bytes false)
    ⊎ ((path ≢ codes "-") × (next ≡ first) × WasOpened file bytes)
