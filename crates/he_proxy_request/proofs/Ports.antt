-- The port that a text names, alone or after its first bytes.
use Rattle.std.proofs.Common.{◌≡◌, ◌++◌, ◌∙◌, ℕ, List, Option, Some, None, IfNone, IfSome, codes, inl, inr, subst, sym}
use Rattle.std.proofs.lemmas.List.{append_cancel_left}
use Rattle.he_proxy_request.specs.Listening.{IsPortAfter, NamesLoopback, SpellsPort}

-- it is that of what follows these bytes
pub found_after : (front digits text : List ℕ) (port : Option ℕ) → text ≡ front ++ digits → IfSome port (SpellsPort digits) → IfSome port (IsPortAfter front text)
found_after front digits text (Some port) splits spelled = (digits, splits, spelled)
found_after front digits text None splits spelled = tt

not_after : (front digits text : List ℕ) → text ≡ front ++ digits → ((port : ℕ) → SpellsPort digits port → ⊥) → (port : ℕ) → IsPortAfter front text port → ⊥
not_after front digits text splits none port (others, is, spelled) =
    none port (subst (λ (list : List ℕ). SpellsPort list port) (append_cancel_left front others digits (sym is ∙ splits)) spelled)

-- there is none where no digits follow them
pub none_after : (front digits text : List ℕ) (port : Option ℕ) → text ≡ front ++ digits → IfNone port ((port : ℕ) → SpellsPort digits port → ⊥)
    → IfNone port ((port : ℕ) → IsPortAfter front text port → ⊥)
none_after front digits text (Some port) splits none = tt
none_after front digits text None splits none = not_after front digits text splits none

pub none_with : (front other text : List ℕ) → front ≡ other → ((port : ℕ) → IsPortAfter front text port → ⊥) → (port : ℕ) → IsPortAfter other text port → ⊥
none_with front other text same none = subst (λ (list : List ℕ). (port : ℕ) → IsPortAfter list text port → ⊥) same none

in_neither : (text : List ℕ) → ((port : ℕ) → SpellsPort text port → ⊥) → ((port : ℕ) → IsPortAfter (codes "localhost:") text port → ⊥)
    → (port : ℕ) → NamesLoopback text port → ⊥
in_neither text alone after port (inl spelled) = alone port spelled
in_neither text alone after port (inr is) = after port is

-- there is none of both loopback addresses
pub none_of_both : (front text : List ℕ) (port : Option ℕ) → front ≡ codes "localhost:" → ((port : ℕ) → SpellsPort text port → ⊥)
    → IfNone port ((port : ℕ) → IsPortAfter front text port → ⊥) → IfNone port ((port : ℕ) → NamesLoopback text port → ⊥)
none_of_both front text (Some port) same alone after = tt
none_of_both front text None same alone after = in_neither text alone (none_with front (codes "localhost:") text same after)
