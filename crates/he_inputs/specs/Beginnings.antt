-- The fault of a text of which only a first part was read.
use Rattle.std.specs.Prelude.{ℕ, ◌≡◌, ◌≢◌, ◌⊎◌, ◌+◌, ◌++◌, List, [], ◌∷◌, Option, Some, None, IsTrue, length}
use Rattle.he_words.specs.declared.fault.TextKind.{TextKind}
use Rattle.he_words.specs.declared.fault.TextKind.TheVariants as kinds
use Rattle.he_words.specs.declared.words.Word.{Word}
use Rattle.he_words.specs.declared.words.Word.TheVariants as words
use Rattle.he_reading.specs.Faults.{anyone, is_next}
use Rattle.he_reading.specs.Forms.{said_in, word_of_setting}
use Rattle.he_reading.specs.Parts.{lines_of}
use Rattle.he_inputs.specs.Recorded.{recorded_fault}

-- the fault of every text that begins with these bytes
abbrev pub FaultStands : List ℕ → ℕ → TextKind → Type 0
FaultStands text n kind = (more : List ℕ) → recorded_fault (text ++ more) ≡ Some (n, kind)

-- some text that begins with these bytes does not have this fault
abbrev pub FaultChanges : List ℕ → ℕ → TextKind → Type 0
FaultChanges text n kind = (more : List ℕ) × (recorded_fault (text ++ more) ≢ Some (n, kind))

-- more bytes may make of these a line that begins with the word, right or not
abbrev pub MayBecome : Word → List ℕ → Type 0
MayBecome word rest = (more : List ℕ) × IsTrue (is_next word (lines_of (rest ++ more)))

-- the text is n whole lines, and these bytes after the last line end
abbrev pub EndsIn : List ℕ → ℕ → List ℕ → Type 0
EndsIn text n rest = (lines : List (List ℕ)) × (lines_of text ≡ lines ++ rest ∷ []) × (length lines ≡ n)

-- the text's last whole line is this one, its nth, and these bytes follow its line end
abbrev pub EndsBehind : List ℕ → ℕ → List ℕ → List ℕ → Type 0
EndsBehind text n line rest =
    (before : List (List ℕ)) × (lines_of text ≡ before ++ line ∷ rest ∷ []) × (length before + 1 ≡ n)

-- the first word of the lines that mend the fault of a group's last line
abbrev pub awaited : List ℕ → TextKind → Option Word
awaited line (kinds.Policy fault) = Some words.Policy
awaited line kinds.Range = word_of_setting (said_in anyone line)
awaited line kind = None

-- the fault of a group on the last whole line, if one more line of the group may follow and mend it
pub record IsGroupFaultAtEnd (text : List ℕ) (n : ℕ) (kind : TextKind) : Type 0 where
  pub line : List ℕ
  pub rest : List ℕ
  pub word : Word
  pub ends : EndsBehind text n line rest
  pub waits : awaited line kind ≡ Some word
  pub may : MayBecome word rest

-- a fault that later bytes may mend
abbrev pub MayChange : List ℕ → ℕ → TextKind → Type 0
MayChange text n kind = (kind ≡ kinds.Unfinished) ⊎ IsGroupFaultAtEnd text n kind

-- the next bytes decide: the text is empty, or has a fault that some text that begins with its bytes does not have
abbrev pub MayGoOn : List ℕ → Type 0
MayGoOn text =
    (text ≡ []) ⊎ ((line : ℕ) × (kind : TextKind) × (recorded_fault text ≡ Some (line, kind)) × FaultChanges text line kind)
