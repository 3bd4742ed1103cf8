-- A race's text is found wherever it stands and whatever follows it, and no other text with it.
use Rattle.std.proofs.Common.{◌≡◌, ℕ, ◌<◌, ◌==◌, true, false, List, [], ◌∷◌, ◌++◌, length, Option, None, refl, sym, ◌∙◌, ap, subst, arith, append_assoc}
use Rattle.std.specs.Prelude.{codes}
use Rattle.std.specs.List.{AllZip, AllByRecursion, join_with_byte}
use Rattle.std.proofs.lemmas.List.{append-nil}
use Rattle.std.proofs.lemmas.List.Splits.{join_with_byte-slice_split, length-slice_split}
use Rattle.he_timeline.specs.Race.{Race}
use Rattle.he_timeline.specs.Timeline.{IsRace}
use Rattle.he_words.specs.declared.fault.TextKind.{TextKind}
use Rattle.he_words.specs.declared.words.Version.{Version}
use Rattle.he_words.specs.declared.words.Version.TheVariants.{One, Two}
use Rattle.he_reading.specs.Faults.{ends, first_fault, header_fault, too_long, unfinished, wrong_header, version_on, said_before}
use Rattle.he_reading.specs.FaultSearch.{at_line_number, fault_from, fault_in, fault_of}
use Rattle.he_reading.specs.Parts.{lines_of}
use Rattle.he_reading.specs.Said.{Said, race_of}
use Rattle.he_reading.specs.Text.{IsRaceText}
use Rattle.he_words.specs.Words.{header_of}
use Rattle.he_reading.proofs.CompleteForms.{IsLine, said_are, goes_on}
use Rattle.he_reading.proofs.CompleteLines.{lines_are, none_from, end_ends, finished}
use Rattle.he_reading.proofs.CompleteRaces.{IsWhole}
use Rattle.he_reading.proofs.PartLaws.{Lacks, parts_lack, joined_parts, front_lacks, join_behind}

-- the lines of a text that ends with a line end, and those of what follows it
all_lack : (front behind : List (List ℕ)) → AllByRecursion (Lacks 10) front → AllByRecursion (Lacks 10) behind → AllByRecursion (Lacks 10) (front ++ behind)
all_lack [] behind one other = other
all_lack (part ∷ front) behind one other = (one.0, all_lack front behind one.1 other)

some_lines : (text : List ℕ) → 0 < length (lines_of text)
some_lines text = omega (arith, length-slice_split (λ b. b == 10) text)

parts_behind : (text rest first : List ℕ) (front : List (List ℕ)) → lines_of text ≡ (first ∷ front) ++ [] ∷ [] → lines_of (text ++ rest) ≡ (first ∷ front) ++ lines_of rest
parts_behind text rest first front h = by_rest (lines_of rest) refl
  where
    ended : text ≡ join_with_byte 10 (first ∷ front) ++ 10 ∷ []
    ended = sym (join_with_byte-slice_split 10 text) ∙ ap (join_with_byte 10) h ∙ join_behind 10 first front [] []

    by_rest : (behind : List (List ℕ)) → lines_of rest ≡ behind → lines_of (text ++ rest) ≡ (first ∷ front) ++ behind
    by_rest [] e = absurd (omega (arith, some_lines rest, ap length e))
    by_rest (next ∷ behind) e =
        let same : rest ≡ join_with_byte 10 (next ∷ behind) = sym (join_with_byte-slice_split 10 rest) ∙ ap (join_with_byte 10) e in
        let L : List (List ℕ) → Type 0 = AllByRecursion (Lacks 10) in
        let one : L (first ∷ front) = front_lacks 10 (first ∷ front) ([] ∷ []) (subst L h (parts_lack 10 text)) in
        ap (λ t. lines_of (t ++ rest)) ended
        ∙ ap lines_of (append_assoc (join_with_byte 10 (first ∷ front)) (10 ∷ []) rest)
        ∙ ap (λ t. lines_of (join_with_byte 10 (first ∷ front) ++ 10 ∷ t)) same
        ∙ ap lines_of (sym (join_behind 10 first front next behind))
        ∙ joined_parts 10 first (front ++ next ∷ behind) (all_lack (first ∷ front) (next ∷ behind) one (subst L e (parts_lack 10 rest)))

pub whole : (text : List ℕ) (race : Race) → (is : IsRaceText text race) → IsWhole is.said
whole text race is = record {
  order = is.are.order;
  settings_once = is.are.settings_once;
  answers_once = is.are.answers_once;
  fits = subst IsRace is.value is.fits;
}

are_lines : (text : List ℕ) (race : Race) → (is : IsRaceText text race) → AllZip IsLine is.lines is.said
are_lines text race is = lines_are [] is.lines is.said is.are.say (whole text race is)

-- the lines of a text that begins with a race
pub begins_with : (text rest : List ℕ) (race : Race) → (is : IsRaceText text race) → lines_of (text ++ rest) ≡ header_of is.version ∷ is.lines ++ codes "end" ∷ lines_of rest
begins_with text rest race is =
    parts_behind text rest (header_of is.version) (is.lines ++ codes "end" ∷ []) (is.parts ∙ ap (λ ls. header_of is.version ∷ ls) (sym (append_assoc is.lines (codes "end" ∷ []) ([] ∷ []))))
    ∙ ap (λ ls. header_of is.version ∷ ls) (append_assoc is.lines (codes "end" ∷ []) (lines_of rest))

-- nothing is wrong with a text that begins with a race
header_right : (fault : Option _) (later : Option _) → fault ≡ None → later ≡ None → at_line_number 1 fault later ≡ None
header_right fault later h k = rw (h, k) refl

header_passes : (v : Version) (fin : Option TextKind) → fin ≡ None → first_fault (too_long (header_of v) ∷ fin ∷ wrong_header (header_of v) ∷ []) ≡ None
header_passes One fin h = rw h refl
header_passes Two fin h = rw h refl

version_told : (v : Version) → version_on (header_of v) ≡ v
version_told One = refl
version_told Two = refl

pub nothing_wrong : (text rest : List ℕ) (race : Race) → IsRaceText text race → fault_of (text ++ rest) ≡ None
unfolding fault_in
nothing_wrong text rest race is =
    let after : List (List ℕ) = is.lines ++ codes "end" ∷ lines_of rest in
    ap fault_in (begins_with text rest race is)
    ∙ header_right (header_fault (header_of is.version) after) (fault_from (version_on (header_of is.version)) 2 [] after)
    (header_passes is.version (unfinished after) (finished is.lines (codes "end") (lines_of rest)))
    (ap (λ v. fault_from v 2 [] after) (version_told is.version)
    ∙ none_from is.version 2 [] is.lines (lines_of rest) [] is.said (whole text race is) tt (are_lines text race is) is.are.words is.are.short (some_lines rest))

-- lines that are not the last one of a race
abbrev GoOn : List (List ℕ) → Type 0
GoOn lines = AllByRecursion (λ line. ends line ≡ false) lines

go_on : (lines : List (List ℕ)) (said : List Said) → AllZip IsLine lines said → GoOn lines
go_on [] [] all = tt
go_on [] (s ∷ said) all = absurd all
go_on (line ∷ lines) [] all = absurd all
go_on (line ∷ lines) (s ∷ said) all = (goes_on line s all.0, go_on lines said all.1)

no_end : (line : List ℕ) → ends line ≡ false → line ≡ codes "end" → ⊥
no_end line goes same = let wrong : false ≡ true = sym goes ∙ ap ends same ∙ end_ends in cc

-- up to the first line that ends a race, lists of lines are equal
same_front : (xs ys more behind : List (List ℕ)) → GoOn xs → GoOn ys → xs ++ codes "end" ∷ more ≡ ys ++ codes "end" ∷ behind → (xs ≡ ys) × (more ≡ behind)
same_front [] [] more behind gx gy h = (refl, cc)
same_front [] (y ∷ ys) more behind gx gy h = absurd (no_end y gy.0 cc)
same_front (x ∷ xs) [] more behind gx gy h = absurd (no_end x gx.0 cc)
same_front (x ∷ xs) (y ∷ ys) more behind gx gy h =
    let first : x ≡ y = cc (h) in
    let others : xs ++ codes "end" ∷ more ≡ ys ++ codes "end" ∷ behind = cc (h) in
    let later = same_front xs ys more behind gx.1 gy.1 others in
    (ap (λ l. l ∷ xs) first ∙ ap (λ ls. y ∷ ls) later.0, later.1)

-- a race's text in front of another race's text is all of it
pub no_longer : (text more : List ℕ) (race other : Race) → IsRaceText text race → IsRaceText (text ++ more) other → (race ≡ other) × (more ≡ [])
no_longer text more race other is longer =
    let are = are_lines text race is in
    let others = are_lines (text ++ more) other longer in
    let both : header_of is.version ∷ is.lines ++ codes "end" ∷ lines_of more ≡ header_of longer.version ∷ longer.lines ++ codes "end" ∷ [] ∷ [] = sym (begins_with text more race is) ∙ longer.parts in
    let same = same_front is.lines longer.lines (lines_of more) ([] ∷ []) (go_on is.lines is.said are) (go_on longer.lines longer.said others) (tails _ _ _ _ both) in (
      is.value ∙ ap race_of (sym (said_are is.lines is.said are) ∙ ap said_before same.0 ∙ said_are longer.lines longer.said others) ∙ sym longer.value,
      sym (join_with_byte-slice_split 10 more) ∙ ap (join_with_byte 10) same.1,
    )
  where
    tails : (first other : List ℕ) (xs ys : List (List ℕ)) → first ∷ xs ≡ other ∷ ys → xs ≡ ys
    tails first other xs ys h = cc

-- a text has at most one value
pub one_value : (text : List ℕ) (race other : Race) → IsRaceText text race → IsRaceText text other → race ≡ other
one_value text race other is also =
    let P : List ℕ → Type 0 = λ t. IsRaceText t other in
    (no_longer text [] race other is (subst P (sym (append-nil text)) also)).0

-- an empty text is no race's
pub not_empty : (race : Race) → IsRaceText [] race → ⊥
not_empty race is = no_header is.version (is.lines ++ codes "end" ∷ [] ∷ []) is.parts
  where
    no_header : (v : Version) (lines : List (List ℕ)) → [] ∷ [] ≡ header_of v ∷ lines → ⊥
    no_header One lines h = cc
    no_header Two lines h = cc
