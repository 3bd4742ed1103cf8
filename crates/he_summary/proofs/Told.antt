-- What parts tell, and words around it.
use Rattle.std.proofs.Common.{ℕ, ◌≡◌, ◌+◌, ◌++◌, ◌<◌, ◌≤◌, zero, suc, List, [], ◌∷◌, length, drop, get_or, map, refl, sym, ◌∙◌, ap, subst, append_assoc, arith}
use Rattle.std.proofs.lemmas.List.{drop_all, drop_more}
use Rattle.std.specs.List.{flat_map}
use Rattle.he_print.specs.Parts.{fact_of, text_of}
use Rattle.he_print.specs.declared.part.Fact.{Fact}
use Rattle.he_print.specs.declared.part.Part.{Part}
use Rattle.he_addr.specs.declared.ip.Ip.{Ip}
use Rattle.he_summary.specs.Written.{AreSlowest, HasWords, Tells, TellsAddress, TellsAddresses, TellsEach, TellsSlowest, slow_facts}
use Rattle.he_totals.specs.declared.tallies.Tally.{Tally}
use Rattle.he_summary.specs.declared.figures.Form.{Form}
use Rattle.he_totals.specs.declared.kept.Kept.{Kept}

-- the text of parts states their facts
pub told_parts : {S : Type 0} (none parts : List (Part S)) (told : List (Fact S)) (old new : List ℕ) → none ≡ [] → flat_map fact_of parts ≡ flat_map fact_of none ++ told
    → new ≡ old ++ flat_map text_of parts → Tells told old new
told_parts {S} none parts told old new empty facts text =
    (flat_map text_of parts, (parts, facts ∙ ap (λ (p : List (Part S)). flat_map fact_of p ++ told) empty, refl), text)

-- words before what is told
pub behind_words : {S : Type 0} (each : List (List (Fact S))) (old between new : List ℕ) → HasWords old between → TellsEach each between new → TellsEach each old new
behind_words [] old between new (words, is) (more, also) = (words ++ more, also ∙ ap (λ (t : List ℕ). t ++ more) is ∙ append_assoc old words more)
behind_words {S} (told ∷ each) old between new (words, is) (more, end, tells, rest) = (
  words ++ more,
  end,
  subst (λ (t : List ℕ). Tells told t end) (ap (λ (t : List ℕ). t ++ more) is ∙ append_assoc old words more) tells,
  rest,
)

-- and after it
pub before_words : {S : Type 0} (each : List (List (Fact S))) (old between new : List ℕ) → TellsEach each old between → HasWords between new → TellsEach each old new
before_words [] old between new (words, is) (more, also) = (words ++ more, also ∙ ap (λ (t : List ℕ). t ++ more) is ∙ append_assoc old words more)
before_words (told ∷ each) old between new (words, end, tells, rest) more = (words, end, tells, before_words each end between new rest more)

-- one list of facts, between words, before the others
pub told_before : {S : Type 0} (told : List (Fact S)) (each : List (List (Fact S))) (old before behind end new : List ℕ) → HasWords old before → Tells told before behind → HasWords behind end
    → TellsEach each end new → TellsEach (told ∷ each) old new
told_before {S} told each old before behind end new (words, is) tells more rest =
    (words, behind, subst (λ (t : List ℕ). Tells told t behind) is tells, behind_words each behind end new more rest)

-- one item more of a loop, and none
pub told_more : {S X : Type 0} (facts : X → List (Fact S)) (xs : List X) (i : ℕ) (d : X) (old before behind end new : List ℕ) → i < length xs → HasWords old before
    → Tells (facts (get_or xs i d)) before behind → HasWords behind end → TellsEach (map facts (drop (i + 1) xs)) end new → TellsEach (map facts (drop i xs)) old new
told_more {S} {X} facts xs i d old before behind end new lt words tells more rest =
    subst (λ (l : List X). TellsEach (map facts l) old new) (sym (drop_more xs i d lt)) (told_before (facts (get_or xs i d)) (map facts (drop (i + 1) xs)) old before behind end new words tells more rest)

pub told_all : {S X : Type 0} (facts : X → List (Fact S)) (xs : List X) (i : ℕ) (old new : List ℕ) → length xs ≤ i → HasWords old new → TellsEach (map facts (drop i xs)) old new
told_all {S} {X} facts xs i old new le words = subst (λ (l : List X). TellsEach (map facts l) old new) (sym (drop_all i xs le)) words

pub no_slowest : (form : Form) (most : ℕ) (kept : List Kept) (old new : List ℕ) → most ≡ 0 → HasWords old new → TellsSlowest form most kept old new
no_slowest form zero kept old new none words = words
no_slowest form (suc most) kept old new none words = absurd (omega arith)

pub some_slowest : (form : Form) (most : ℕ) (kept slow : List Kept) (old between new : List ℕ) → 0 < most → AreSlowest most kept slow → TellsEach (map (slow_facts form) slow) old between
    → HasWords between new → TellsSlowest form most kept old new
some_slowest form zero kept slow old between new some are tells words = absurd (omega arith)
some_slowest form (suc most) kept slow old between new some are tells words = (slow, are, before_words (map (slow_facts form) slow) old between new tells words)

-- the row of one address more after words, and none
pub address_more : (hosts : Ip → List (List ℕ)) (rows : List (Ip × Tally)) (i : ℕ) (d : Ip × Tally) (old before between new : List ℕ) → i < length rows → HasWords old before
    → TellsAddress (hosts (get_or rows i d).0) (get_or rows i d) before between → TellsAddresses hosts (drop (i + 1) rows) between new → TellsAddresses hosts (drop i rows) old new
address_more hosts rows i d old before between new lt (words, is) tells rest =
    subst (λ (l : List (Ip × Tally)). TellsAddresses hosts l old new) (sym (drop_more rows i d lt))
    (words, between, subst (λ (t : List ℕ). TellsAddress (hosts (get_or rows i d).0) (get_or rows i d) t between) is tells, rest)

pub no_address : (hosts : Ip → List (List ℕ)) (rows : List (Ip × Tally)) (i : ℕ) (text : List ℕ) → length rows ≤ i → TellsAddresses hosts (drop i rows) text text
no_address hosts rows i text le = subst (λ (l : List (Ip × Tally)). TellsAddresses hosts l text text) (sym (drop_all i rows le)) refl
