-- The files of names, one name after the other.
use Rattle.std.proofs.Common.{◌≡◌, ◌++◌, ◌∙◌, ◌<◌, ◌+◌, ℕ, List, [], ◌∷◌, map, take, get_or, length, sym, ap, subst, add-one}
use Rattle.std.proofs.Math.Seq.{take-suc}
use Rattle.std.proofs.lemmas.List.{map-append}
use Rattle.he_tasks.specs.Directories.{AreFilesOf, IsInPlaceOf, MoreFiles}

pub one_more : {X Y : Type 0} (text : X → List ℕ) (path : Y → List ℕ) (names : List X) (i : ℕ) (d : X)
    (before own after : List Y) → i < length names → AreFilesOf (map text (take i names)) (map path before)
    → IsInPlaceOf (text (get_or names i d)) (map path own) → after ≡ before ++ own
    → AreFilesOf (map text (take (i + 1) names)) (map path after)
one_more text path names i d before own after within so is e =
    let name = get_or names i d in
    let more : take (i + 1) names ≡ take i names ++ name ∷ [] = rw (add-one i) (take-suc names i d within) in
    let named : map text (take i names) ++ text name ∷ [] ≡ map text (take (i + 1) names) =
    sym (ap (map text) more ∙ map-append text (take i names) (name ∷ [])) in
    let filed : map path before ++ map path own ≡ map path after = sym (ap (map path) e ∙ map-append path before own) in
    subst (λ ns. AreFilesOf ns (map path after)) named
    (subst (λ fs. AreFilesOf (map text (take i names) ++ text name ∷ []) fs) filed
    (MoreFiles (text name) (map path own) so is))
