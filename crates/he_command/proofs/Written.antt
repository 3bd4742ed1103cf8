-- A text that is written into an empty one.
use Rattle.std.proofs.Common.{ℕ, List, [], ◌≡◌, ◌++◌, ap, subst, ◌∙◌, sym}
use Rattle.he_json.specs.Documents.{Appends}

pub written_first : (IsSuch : List ℕ → Type 0) (empty new : List ℕ) → empty ≡ [] → Appends IsSuch empty new → IsSuch new
written_first IsSuch empty new is (text, such, appended) = subst IsSuch (sym (appended ∙ ap (λ before. before ++ text) is)) such
