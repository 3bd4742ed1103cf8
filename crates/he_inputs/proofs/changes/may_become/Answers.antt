use Rattle.std.proofs.Common.{◌≡◌, ◌≤◌, ◌<◌, ◌↔◌, ◌==◌, ◌&&◌, ℕ, Bool, true, false, eqb, leb, ltb, List, [], ◌∷◌, length, get_or, IsTrue, refl, sym, ◌∙◌, ap, subst}
use Rattle.std.specs.List.{starts_with}
use Rattle.std.proofs.lemmas.Bool.{eq-eqb, ltb-false, ltb-true, ne_eqb}
use Rattle.he_reading.specs.Parts.{lines_of}
use Rattle.he_inputs.specs.Beginnings.{MayBecome}
use Rattle.he_words.specs.Words.{spelling_of}
use Rattle.he_words.specs.declared.limits.TheConstants.{MAX_LINE}
use Rattle.he_words.specs.declared.words.Word.{Word}
use Rattle.he_inputs.proofs.OpenLines.{short_becomes, long_becomes}
use Rattle.he_inputs.proofs.changes.may_become.Goals as goal
use Rattle.he_inputs.proofs.changes.may_become.Goals.{then-next-eq-TOKEN_END, else-next-eq-TOKEN_END}

-- by how the word was spelled
short : (word : Word) (spelled rest : List ℕ) (front : Bool) → spelled ≡ spelling_of word → lines_of rest ≡ rest ∷ [] → false ≡ ltb (length spelled) (length rest) → front ≡ starts_with (λ a b. a == b) spelled rest → IsTrue front ↔ MayBecome word rest
short word spelled rest front is alone none front_is =
    let size : length rest ≤ length (spelling_of word) = ltb-false (length (spelling_of word)) (length rest) (ap (λ (s : List ℕ). ltb (length s) (length rest)) (sym is) ∙ sym none) in
    short_becomes word rest front alone size (front_is ∙ ap (λ (s : List ℕ). starts_with (λ a b. a == b) s rest) is)

-- by the byte after the word, and whether the word stands there
abbrev Marks : List ℕ → List ℕ → Bool → Bool → Type 0
Marks spelled rest mark front = (mark ≡ eqb (get_or rest (length spelled) 0) 32) × (front ≡ starts_with (λ a b. a == b) rest spelled)

long : (word : Word) (spelled rest : List ℕ) (mark front : Bool) → spelled ≡ spelling_of word → lines_of rest ≡ rest ∷ [] → true ≡ ltb (length spelled) (length rest) → Marks spelled rest mark front
    → IsTrue (mark && front && leb (length rest) MAX_LINE) ↔ MayBecome word rest
long word spelled rest mark front is alone some (mark_is, front_is) =
    let size : length (spelling_of word) < length rest = ltb-true (length (spelling_of word)) (length rest) (ap (λ (s : List ℕ). ltb (length s) (length rest)) (sym is) ∙ sym some) in
    long_becomes word rest mark front alone size (mark_is ∙ ap (λ (s : List ℕ). eqb (get_or rest (length s) 0) 32) is) (front_is ∙ ap (λ (s : List ℕ). starts_with (λ a b. a == b) rest s) is)

pub returns-in-None : goal.returns-in-None
returns-in-None c =
    let spelled : c.as_bytes-spelled.result.now ≡ spelling_of c.args.word = c.as_bytes-spelled.ensures.value ∙ c.spelling.ensures in
    short c.args.word c.as_bytes-spelled.result.now c.args.rest.now c.starts_with.result spelled c.requires c.in-None.ensures.lookup.0 c.starts_with.ensures.value

both_true : (value front : Bool) (n : ℕ) → n ≡ 32 → value ≡ front → value ≡ (eqb n 32 && front)
both_true value front n is same = same ∙ ap (λ (b : Bool). b && front) (sym (eq-eqb n 32 is))

one_false : (value front : Bool) (n : ℕ) → (n ≡ 32 → ⊥) → value ≡ eqb n 32 → value ≡ (eqb n 32 && front)
one_false value front n other same = same ∙ ne_eqb n 32 other ∙ ap (λ (b : Bool). b && front) (sym (ne_eqb n 32 other))

abbrev Tells : Word → List ℕ → Bool → Type 0
Tells word rest b = IsTrue (b && leb (length rest) MAX_LINE) ↔ MayBecome word rest

pub returns-then-starts_with : goal.returns-then-starts_with
returns-then-starts_with c =
    let rest : List ℕ = c.args.rest.now in
    let word : List ℕ = c.as_bytes-spelled.result.now in
    let next : ℕ = c.in-Some.next.now in
    let value : c.if-next-eq-TOKEN_END.value ≡ (eqb next 32 && starts_with (λ a b. a == b) rest word) = elim c.if-next-eq-TOKEN_END.branch [
      | then-next-eq-TOKEN_END w ↦ both_true c.if-next-eq-TOKEN_END.value (starts_with (λ a b. a == b) rest word) next w.if-next-eq-TOKEN_END.true (w.value-is ∙ w.starts_with-then-next-eq-TOKEN_END.ensures.value)
      | else-next-eq-TOKEN_END w ↦ one_false c.if-next-eq-TOKEN_END.value (starts_with (λ a b. a == b) rest word) next w.if-next-eq-TOKEN_END.false w.value-is
    ] in
    let spelled : word ≡ spelling_of c.args.word = c.as_bytes-spelled.ensures.value ∙ c.spelling.ensures in
    let byte : next ≡ get_or rest (length word) 0 = c.in-Some.ensures.lookup.3.1 0 in
    subst (Tells c.args.word rest) (sym value ∙ c.if-starts_with.true)
    (long c.args.word word rest (eqb next 32) (starts_with (λ a b. a == b) rest word) spelled c.requires c.in-Some.ensures.lookup.0 (ap (λ (b : ℕ). eqb b 32) byte, refl))

pub returns-else-starts_with : goal.returns-else-starts_with
returns-else-starts_with c =
    let rest : List ℕ = c.args.rest.now in
    let word : List ℕ = c.as_bytes-spelled.result.now in
    let next : ℕ = c.in-Some.next.now in
    let value : c.if-next-eq-TOKEN_END.value ≡ (eqb next 32 && starts_with (λ a b. a == b) rest word) = elim c.if-next-eq-TOKEN_END.branch [
      | then-next-eq-TOKEN_END w ↦ both_true c.if-next-eq-TOKEN_END.value (starts_with (λ a b. a == b) rest word) next w.if-next-eq-TOKEN_END.true (w.value-is ∙ w.starts_with-then-next-eq-TOKEN_END.ensures.value)
      | else-next-eq-TOKEN_END w ↦ one_false c.if-next-eq-TOKEN_END.value (starts_with (λ a b. a == b) rest word) next w.if-next-eq-TOKEN_END.false w.value-is
    ] in
    let spelled : word ≡ spelling_of c.args.word = c.as_bytes-spelled.ensures.value ∙ c.spelling.ensures in
    let byte : next ≡ get_or rest (length word) 0 = c.in-Some.ensures.lookup.3.1 0 in
    let B : Bool → Type 0 = λ b. IsTrue b ↔ MayBecome c.args.word rest in
    let none : Tells c.args.word rest false = subst (Tells c.args.word rest) (sym value ∙ c.if-starts_with.false)
    (long c.args.word word rest (eqb next 32) (starts_with (λ a b. a == b) rest word) spelled c.requires c.in-Some.ensures.lookup.0 (ap (λ (b : ℕ). eqb b 32) byte, refl)) in
    subst B (sym c.if-starts_with.false) none
