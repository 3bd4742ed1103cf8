-- An input has one list of races and one fault: it begins with the same races, and none may follow them.
use Rattle.std.proofs.Common.{ℕ, ◌≡◌, ◌+◌, ◌≤◌, ◌++◌, ◌↔◌, List, [], ◌∷◌, length, Bool, Option, Some, None, ap, sym, ◌∙◌, refl, arith, inl, inr, subst, append_assoc, length-append, codes}
use Rattle.std.proofs.lemmas.List.{append_cancel_left}
use Rattle.std.specs.Option.{option_map_or}
use Rattle.he_timeline.specs.Race.{Race}
use Rattle.he_words.specs.declared.fault.TextKind.{TextKind}
use Rattle.he_inputs.specs.declared.input_fault.InputFault.{InputFault}
use Rattle.he_inputs.specs.Inputs.{AreRaceTexts, HasRaces, IsFaultBehind, fault_behind, line_count}
use Rattle.he_reading.specs.Parts.{lines_of}
use Rattle.he_words.specs.Ranges.{most_races}
use Rattle.he_words.specs.Words.{header_of}
use Rattle.he_inputs.specs.Recorded.{BeginsRecorded, IsRecordedText, recorded_fault}

no_race_in_nothing : BeginsRecorded [] → ⊥
no_race_in_nothing (front, rest, race, is, (said, text)) =
    let none : length text.rest ≡ 0 = let all = ap length is in let parts = ap length text.parts in omega (arith, all, parts, length-append front rest, length-append text.front text.rest) in
    no_lines text.rest none (header_of text.is.version) text.is.lines text.is.parts
  where
    no_lines : (front : List ℕ) → length front ≡ 0 → (header : List ℕ) (lines : List (List ℕ)) → lines_of front ≡ header ∷ lines ++ codes "end" ∷ [] ∷ [] → ⊥
    no_lines [] none header lines parts = let long = ap length parts in omega (arith, length-append lines (codes "end" ∷ [] ∷ []))
    no_lines (byte ∷ front) none header lines parts = omega arith

same_fault : (is_broken : Bool) (count lines : ℕ) (rest : List ℕ) (fault other : Option InputFault) → IsFaultBehind is_broken count lines rest fault → IsFaultBehind is_broken count lines rest other → fault ≡ other
same_fault is_broken count lines [] fault other is other_is = is ∙ sym other_is
same_fault is_broken count lines (byte ∷ rest) fault other (inl is) (inl other_is) = is.1 ∙ sym other_is.1
same_fault is_broken count lines (byte ∷ rest) fault other (inl is) (inr (few, found, other_is, told)) = let most = is.0 in absurd (omega arith)
same_fault is_broken count lines (byte ∷ rest) fault other (inr (few, found, other_is, told)) (inl is) = let most = is.0 in absurd (omega arith)
same_fault is_broken count lines (byte ∷ rest) fault other (inr (few, found, is, told)) (inr (other_few, other_found, other_is, other_told)) =
    let same : found ≡ other_found = ap (λ (o : Option (ℕ × TextKind)). option_map_or (λ p. p) o found) (sym is ∙ other_is) in
    told ∙ ap (λ f. Some (fault_behind is_broken lines f)) same ∙ sym other_told

module _
    (one_first : (front rest other_front other_rest : List ℕ) (race other : Race) → IsRecordedText front race → IsRecordedText other_front other → front ++ rest ≡ other_front ++ other_rest → (front ≡ other_front) × (race ≡ other))
    (begins : (text : List ℕ) → BeginsRecorded text ↔ (recorded_fault text ≡ None))
  where
    -- a race may follow only where there are as many as may be
    closed : (is_broken : Bool) (count lines : ℕ) (rest : List ℕ) (fault : Option InputFault) → IsFaultBehind is_broken count lines rest fault → BeginsRecorded rest → count ≡ most_races
    closed is_broken count lines [] fault is race = absurd (no_race_in_nothing race)
    closed is_broken count lines (byte ∷ rest) fault (inl is) race = is.0
    closed is_broken count lines (byte ∷ rest) fault (inr (few, found, is, told)) race =
        let none : recorded_fault (byte ∷ rest) ≡ None = (begins (byte ∷ rest)).0 race in
        let bad : None ≡ Some found = sym none ∙ is in
        cc

    same_races : (n : ℕ) (races others : List Race) (front rest other_front other_rest : List ℕ) → AreRaceTexts races front → AreRaceTexts others other_front → front ++ rest ≡ other_front ++ other_rest
        → (BeginsRecorded rest → n + length races ≡ most_races) → (BeginsRecorded other_rest → n + length others ≡ most_races) → n + length races ≤ most_races → n + length others ≤ most_races
        → (races ≡ others) × (front ≡ other_front) × (rest ≡ other_rest)
    same_races n [] [] front rest other_front other_rest none other_none same ends other_ends few other_few =
        (refl, none ∙ sym other_none, ap (λ f. f ++ rest) (sym none) ∙ same ∙ ap (λ f. f ++ other_rest) other_none)
    same_races n [] (other ∷ others) front rest other_front other_rest none (first, more, split, is, are) same ends other_ends few other_few =
        let parts : rest ≡ first ++ (more ++ other_rest) = ap (λ f. f ++ rest) (sym none) ∙ same ∙ ap (λ f. f ++ other_rest) split ∙ append_assoc first more other_rest in
        let most : n + 0 ≡ most_races = ends (first, more ++ other_rest, other, parts, is) in
        absurd (omega arith)
    same_races n (race ∷ races) [] front rest other_front other_rest (first, more, split, is, are) none same ends other_ends few other_few =
        let parts : other_rest ≡ first ++ (more ++ rest) = ap (λ f. f ++ other_rest) (sym none) ∙ sym same ∙ ap (λ f. f ++ rest) split ∙ append_assoc first more rest in
        let most : n + 0 ≡ most_races = other_ends (first, more ++ rest, race, parts, is) in
        absurd (omega arith)
    same_races n (race ∷ races) (other ∷ others) front rest other_front other_rest (first, more, split, is, are) (other_first, other_more, other_split, other_is, other_are) same ends other_ends few other_few =
        let joined : first ++ (more ++ rest) ≡ other_first ++ (other_more ++ other_rest) =
        sym (append_assoc first more rest) ∙ ap (λ f. f ++ rest) (sym split) ∙ same ∙ ap (λ f. f ++ other_rest) other_split ∙ append_assoc other_first other_more other_rest in
        let one = one_first first (more ++ rest) other_first (other_more ++ other_rest) race other is other_is joined in
        let later : more ++ rest ≡ other_more ++ other_rest = append_cancel_left first _ _ (joined ∙ ap (λ f. f ++ (other_more ++ other_rest)) (sym one.0)) in
        let all = same_races (n + 1) races others more rest other_more other_rest are other_are later (λ h. let e = ends h in omega arith) (λ h. let e = other_ends h in omega arith) (omega arith) (omega arith) in (
          ap (λ r. r ∷ races) one.1 ∙ ap (λ rs. other ∷ rs) all.0,
          split ∙ ap (λ f. f ++ more) one.0 ∙ ap (λ m. other_first ++ m) all.1 ∙ sym other_split,
          all.2,
        )

    pub one_input : (input : List ℕ) (is_broken : Bool) (races others : List Race) (fault other_fault : Option InputFault)
        → HasRaces input is_broken races fault → HasRaces input is_broken others other_fault → (races ≡ others) × (fault ≡ other_fault)
    one_input input is_broken races others fault other_fault x y =
        let all = same_races 0 races others x.before x.rest y.before y.rest x.whole y.whole (sym x.parts ∙ y.parts)
        (λ h. let e = closed is_broken (length races) (line_count x.before) x.rest fault x.fault_is h in omega arith)
        (λ h. let e = closed is_broken (length others) (line_count y.before) y.rest other_fault y.fault_is h in omega arith)
        (let few = x.few in omega arith) (let few = y.few in omega arith) in
        let Counted : List Race → Type 0 = λ xs. IsFaultBehind is_broken (length xs) (line_count x.before) x.rest fault in
        let Lines : List ℕ → Type 0 = λ before. IsFaultBehind is_broken (length others) (line_count before) x.rest fault in
        let Rest : List ℕ → Type 0 = λ rest. IsFaultBehind is_broken (length others) (line_count y.before) rest fault in
        (all.0, same_fault is_broken (length others) (line_count y.before) y.rest fault other_fault (subst Rest all.2 (subst Lines all.1 (subst Counted all.0 x.fault_is))) y.fault_is)
