-- The facts of objects, as rows hold their members.
use Rattle.std.proofs.Common.{◌≡◌, ℕ, List, [], ◌∷◌, ◌++◌, map, refl, ◌∙◌, ap}
use Rattle.std.specs.List.{flat_map}
use Rattle.he_print.specs.declared.part.Fact.{Fact}
use Rattle.he_json.specs.Json.{fact_of, facts_of}
use Rattle.he_json.specs.declared.members.Member.{Member}
use Rattle.he_json.specs.declared.members.Said.{Said}

rows_facts : {X : Type 0} (rows : List X) (members : X → List Member) → map facts_of (map members rows) ≡ map (λ row. flat_map fact_of (members row)) rows
rows_facts [] members = refl
rows_facts (row ∷ rows) members = ap (λ (more : List (List (Fact Said))). facts_of (members row) ∷ more) (rows_facts rows members)

pub facts_are : {X : Type 0} (lent rows : List X) (members : X → List Member) (told : List (List (Fact Said)))
    → lent ≡ rows → map (λ row. flat_map fact_of (members row)) rows ≡ told → map facts_of (map members lent) ≡ told
facts_are lent rows members told is has = ap (λ l. map facts_of (map members l)) is ∙ rows_facts rows members ∙ has

-- what is written into an empty text
pub written_first : (empty text new : List ℕ) → empty ≡ [] → new ≡ empty ++ text → new ≡ text
written_first empty text new is written = written ∙ ap (λ t. t ++ text) is
