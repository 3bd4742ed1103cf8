-- Where a text leaves a form.
use Rattle.std.proofs.Common.{ℕ, ◌≡◌, ◌+◌, ◌<◌, ◌≤◌, ◌∙◌, ◌&&◌, false, List, Option, Some, None, ap, drop, get_or, length, option_map, refl}
use Rattle.std.specs.Borrow.{Bor}
use Rattle.std.specs.Option.{unwrap_or}
use Rattle.std.proofs.lemmas.List.{drop_all, drop_more}
use Rattle.he_compare.specs.Hours.{fits, is_like}

-- it ends before the form does
pub ends : (form text : List ℕ) (at d : ℕ) → at < length form → length text ≤ at → fits (drop at form) (drop at text) ≡ false
ends form text at d lt le = λ i. fits (drop_more form at d lt i) (drop_all at text le i)

-- or a byte is another one
pub differs : (form text : List ℕ) (at d e : ℕ) → at < length form → at < length text → is_like (get_or form at d) (get_or text at e) ≡ false
    → fits (drop at form) (drop at text) ≡ false
differs form text at d e lt also other =
    (λ i. fits (drop_more form at d lt i) (drop_more text at e also i)) ∙ ap (λ b. b && fits (drop (at + 1) form) (drop (at + 1) text)) other

-- what a piece is, where it is none
pub lent_or : (word : Option (Bor (List ℕ))) (otherwise : Bor (List ℕ)) → (unwrap_or word otherwise).now ≡ unwrap_or (option_map (λ w. w.now) word) otherwise.now
lent_or None otherwise = refl
lent_or (Some word) otherwise = refl
