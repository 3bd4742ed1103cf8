-- The files of the names of a line.
use Rattle.std.specs.Prelude.{ℕ, ◌≡◌, ◌≢◌, List, [], ◌∷◌, ◌++◌, codes, map}
use Rattle.he_options.specs.declared.texts.Texts.{Texts}

-- a name has at least one file in its place; the input stays
pub record IsInPlaceOf (name : List ℕ) (files : List (List ℕ)) : Type 0 where
  pub some : files ≢ []
  pub input : name ≡ codes "-" → files ≡ name ∷ []

-- the files of names, in their order
pub data AreFilesOf : List (List ℕ) → List (List ℕ) → Type 0 where
  NoFiles : AreFilesOf [] []
  MoreFiles : {names files : List (List ℕ)} (name : List ℕ) (own : List (List ℕ)) → AreFilesOf names files
      → IsInPlaceOf name own → AreFilesOf (names ++ name ∷ []) (files ++ own)

-- the texts with the files of these names
pub record HasFilesOf (names : List (List ℕ)) (texts named : Texts) : Type 0 where
  pub files : AreFilesOf names (map (λ name. name.now) named.files.items)
  pub others : named ≡ record texts { files = named.files }
