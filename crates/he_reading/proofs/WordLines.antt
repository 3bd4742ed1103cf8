-- A line that begins with a word and a space.
use Rattle.std.proofs.Common.{◌≡◌, ℕ, ◌+◌, ◌-◌, ◌≤◌, ◌==◌, true, false, List, [], ◌∷◌, ◌++◌, Ok, length, take, drop, eqb, refl, sym, ◌∙◌, ap, arith, append_assoc, length-append}
use Rattle.std.specs.List.{AllByRecursion, starts_with}
use Rattle.std.specs.Option.{ok_or}
use Rattle.std.proofs.lemmas.Bool.Decides.{Decides-eqb}
use Rattle.std.proofs.lemmas.List.{length-take, length-drop, drop-take}
use Rattle.std.proofs.lemmas.List.Elements.{All-from_recursion}
use Rattle.std.proofs.lemmas.List.Splits.{slice_split_at}
use Rattle.std.proofs.lemmas.Slice.Eq.{starts_is}
use Rattle.he_words.specs.declared.fault.TextKind.TheVariants as kinds
use Rattle.he_words.specs.declared.words.Word.{Word}
use Rattle.he_words.specs.declared.words.Word.TheVariants as words
use Rattle.he_reading.specs.Forms.{◌>>=◌, word_of}
use Rattle.he_reading.specs.Left.{all_but}
use Rattle.he_reading.specs.Parts.{tokens_of}
use Rattle.he_words.specs.Words.{spelling_of}
use Rattle.he_reading.proofs.FormReads.{word_reads}
use Rattle.he_reading.proofs.PartLaws.{joined_parts}

-- no word has a space
no_space : (word : Word) → AllByRecursion (λ b. eqb b 32 ≡ false) (spelling_of word)
no_space words.Set = (refl, (refl, (refl, tt)))
no_space words.Policy = (refl, (refl, (refl, (refl, (refl, (refl, tt))))))
no_space words.Source = (refl, (refl, (refl, (refl, (refl, (refl, tt))))))
no_space words.Route = (refl, (refl, (refl, (refl, (refl, tt)))))
no_space words.Aaaa = (refl, (refl, (refl, (refl, tt))))
no_space words.A = (refl, tt)
no_space words.Rtt = (refl, (refl, (refl, tt)))
no_space words.Used = (refl, (refl, (refl, (refl, tt))))
no_space words.Connect = (refl, (refl, (refl, (refl, (refl, (refl, (refl, tt)))))))
no_space words.Pause = (refl, (refl, (refl, (refl, (refl, tt)))))
no_space words.End = (refl, (refl, (refl, tt)))

word_first : (word : Word) (tokens : List (List ℕ)) → word_of (spelling_of word ∷ tokens) ≡ Ok (word, tokens)
unfolding word_of
word_first word tokens = ap (λ read. ok_or read kinds.Word >>= λ w. Ok (w, tokens)) (word_reads word)

-- a line that is a word alone
pub word_alone : (word : Word) (line : List ℕ) → line ≡ spelling_of word → word_of (tokens_of line) ≡ Ok (word, [])
word_alone word line is =
    ap (λ t. word_of (tokens_of t)) is
    ∙ ap word_of (joined_parts 32 (spelling_of word) [] (no_space word, tt))
    ∙ word_first word []

-- a text after a front that a part of it has too
behind_front : (behind front : ℕ) (text : List ℕ) → front ≤ length text - behind → drop front (all_but behind text) ≡ all_but behind (drop front text)
behind_front behind front text within =
    let more : ℕ = length text - behind - front in
    let split : length text - behind ≡ front + more = omega arith in
    let fewer : length (drop front text) - behind ≡ more = omega (arith, length-drop front text) in
    ap (λ (n : ℕ). drop front (take n text)) split ∙ drop-take front more text ∙ ap (λ (n : ℕ). take n (drop front text)) (sym fewer)

pub word_behind : (word : Word) (behind : ℕ) (text line spelled : List ℕ) → line ≡ all_but behind text → spelled ≡ spelling_of word ++ 32 ∷ []
    → true ≡ starts_with (λ a b. a == b) line spelled → word_of (tokens_of line) ≡ Ok (word, tokens_of (all_but behind (drop (length spelled) text)))
word_behind word behind text line spelled is spells begins =
    let front : line ≡ spelled ++ drop (length spelled) line = (starts_is Decides-eqb line spelled _ refl).0 (sym begins) in
    let long : length line ≡ length spelled + length (drop (length spelled) line) = ap length front ∙ length-append spelled (drop (length spelled) line) in
    let short : length line ≤ length text - behind = omega (arith, ap length is, length-take (length text - behind) text) in
    let rest : drop (length spelled) line ≡ all_but behind (drop (length spelled) text) =
    ap (drop (length spelled)) is ∙ behind_front behind (length spelled) text (omega arith) in
    let whole : line ≡ spelling_of word ++ 32 ∷ all_but behind (drop (length spelled) text) =
    front ∙ ap (λ t. spelled ++ t) rest ∙ ap (λ t. t ++ all_but behind (drop (length spelled) text)) spells
    ∙ append_assoc (spelling_of word) (32 ∷ []) (all_but behind (drop (length spelled) text)) in
    ap (λ t. word_of (tokens_of t)) whole
    ∙ ap word_of (slice_split_at (λ b. eqb b 32) (spelling_of word) 32 (all_but behind (drop (length spelled) text)) (All-from_recursion (λ b. eqb b 32 ≡ false) (spelling_of word) (no_space word)) refl)
    ∙ word_first word (tokens_of (all_but behind (drop (length spelled) text)))
