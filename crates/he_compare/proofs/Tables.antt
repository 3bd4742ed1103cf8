-- The rows of a table, one after the other.
use Rattle.std.proofs.Common.{ℕ, ◌≡◌, ◌+◌, ◌<◌, ◌++◌, List, drop, get_or, length, subst, sym}
use Rattle.std.proofs.lemmas.List.{drop_more}
use Rattle.he_summary.specs.declared.figures.Form.{Form}
use Rattle.he_compare.specs.Groups.{AreGroupTexts, Division, IsGroupText, label_of}
use Rattle.he_compare.specs.declared.groups.Group.{Group}

-- one row more
pub row_more : (form : Form) (division : Division) (groups : List Group) (i : ℕ) (d : Group) (text old between new : List ℕ) → i < length groups
    → IsGroupText form (get_or groups i d).totals (label_of division (get_or groups i d).key) text → between ≡ old ++ text → AreGroupTexts form division (drop (i + 1) groups) between new
    → AreGroupTexts form division (drop i groups) old new
row_more form division groups i d text old between new lt is same rest =
    subst (λ l. AreGroupTexts form division l old new) (sym (drop_more groups i d lt)) (text, is, subst (λ b. AreGroupTexts form division (drop (i + 1) groups) b new) same rest)
