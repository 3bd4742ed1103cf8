-- A list without the end of its last name.
use Rattle.std.proofs.Common.{ℕ, ◌≡◌, ◌-◌, ◌+◌, ◌++◌, ◌∙◌, true, false, List, [], ◌∷◌, Option, Some, None, MatchOption, inl, inr, length, take, drop, nat_eq, ap, subst, sym}
use Rattle.std.specs.Borrow.{Bor}
use Rattle.std.specs.Cmp.Lexicographic.{bytes_decides, pointwise}
use Rattle.std.specs.Option.{unwrap_or}
use Rattle.std.proofs.lemmas.List.{take-append-drop}
use Rattle.he_tasks.specs.Listed.{WithoutEnd}

pub ended : (list result : Bor (List ℕ)) (end : List ℕ) (found : Option (Bor (List ℕ)))
    → MatchOption found (pointwise nat_eq (drop (length list.now - length end) list.now) end ≡ false)
    (λ x. (pointwise nat_eq (drop (length list.now - length end) list.now) end ≡ true) × (x.now ≡ take (length list.now - length end) list.now) × (length x.now + length end ≡ length list.now))
    → end ≡ 0 ∷ [] → result ≡ unwrap_or found list → WithoutEnd list.now result.now
ended list result end None cases is same = inr (ap (λ (b : Bor (List ℕ)). b.now) (sym same))
ended list result end (Some x) (ends, taken, long) is same =
    let whole : list.now ≡ x.now ++ end =
    sym (take-append-drop (length list.now - length end) list.now)
    ∙ (λ i. sym taken i ++ (bytes_decides (drop (length list.now - length end) list.now) end).0 ends i) in
    inl (whole ∙ (λ i. (sym same i).now ++ is i))
