-- Texts that are made from their end to their front.
use Rattle.std.proofs.Common.{◌≡◌, ℕ, ◌≤◌, List, ◌++◌, take, drop, sym, ◌∙◌, ap, subst, arith, append_assoc, length-append, take-take}
use Rattle.he_addr.specs.Prepending.{Prepends}

shorter : (start end : ℕ) (xs ys : List ℕ) → start ≤ end → take end xs ≡ take end ys → take start xs ≡ take start ys
shorter start end xs ys less same = sym (take-take start end xs less) ∙ ap (take start) same ∙ take-take start end ys less

-- one part and then another in front of it
pub prepends_then : {old mid new part front : List ℕ} {end between start : ℕ} → Prepends old end mid between part → Prepends mid between new start front → Prepends old end new start (front ++ part)
prepends_then {old} {mid} {new} {part} {front} {end} {between} {start} first second = record {
  place = omega (arith, first.place, second.place, length-append front part);
  text = second.text ∙ ap (λ rest. front ++ rest) first.text ∙ sym (append_assoc front part (drop end old));
  before = second.before ∙ shorter start between mid old (omega (arith, second.place)) first.before;
}

pub prepends_as : {old new part text : List ℕ} {end start : ℕ} → part ≡ text → Prepends old end new start part → Prepends old end new start text
prepends_as {old} {new} {part} {text} {end} {start} same made = subst (λ (t : List ℕ). Prepends old end new start t) same made
