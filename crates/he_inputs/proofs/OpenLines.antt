-- What stands after the last mark of a text, and which bytes may become a line of a word.
use Rattle.std.proofs.Common.{◌≡◌, ◌↔◌, ℕ, ◌+◌, ◌<◌, ◌≤◌, ◌==◌, ◌&&◌, ◌||◌, Bool, true, false, cond, eqb, leb, List, [], ◌∷◌, ◌++◌, length, take, drop, get_or, None, Ok, Err, refl, sym, ◌∙◌, ap, subst, inl, inr, arith, append_assoc}
use Rattle.std.specs.Prelude.{◌⊎◌, IsTrue, slice_index}
use Rattle.std.specs.List.{AllByRecursion, onto_first, join_with_byte, starts_with}
use Rattle.std.proofs.lemmas.Bool.{le-leb, leb-true, eqb-true, and_parts}
use Rattle.std.proofs.lemmas.Bool.Decides.{Decides-eqb}
use Rattle.std.proofs.lemmas.List.{append-nil, append_cancel_right, length-append, length-drop, take-append-drop, drop_more, get_or-drop}
use Rattle.std.proofs.lemmas.List.Splits.{join_with_byte-slice_split, length-slice_split}
use Rattle.std.proofs.Math.Seq.{get_or-append_seam}
use Rattle.std.proofs.lemmas.Slice.Eq.{starts_is}
use Rattle.memchr.specs.Find.{Nowhere, Passes, is_byte}
use Rattle.he_words.specs.declared.words.Word.{Word}
use Rattle.he_words.specs.declared.words.Word.TheVariants as words
use Rattle.he_words.specs.declared.limits.TheConstants.{MAX_LINE}
use Rattle.he_inputs.specs.Beginnings.{EndsIn, MayBecome}
use Rattle.he_reading.specs.Faults.{begins_with, is_next}
use Rattle.he_reading.specs.Forms.{word_of}
use Rattle.he_inputs.specs.Inputs.{line_count}
use Rattle.he_reading.specs.Parts.{pieces_of, lines_of, tokens_of}
use Rattle.he_words.specs.Words.{spelling_of, word_in}
use Rattle.he_reading.proofs.NextLines.{one_word}
use Rattle.he_reading.proofs.PartLaws.{Lacks, first_byte, parts_counted, parts_lack, parts_whole}
use Rattle.he_reading.proofs.SaysLaws.{word_tokens}

-- the whole parts of a text, and the open one after the last mark, which alone goes on in a longer text
pub record Open (mark : ℕ) (text : List ℕ) : Type 0 where
  pub whole : List (List ℕ)
  pub rest : List ℕ
  pub parts : pieces_of mark text ≡ whole ++ rest ∷ []
  pub grows : (more : List ℕ) → pieces_of mark (text ++ more) ≡ whole ++ pieces_of mark (rest ++ more)

pub open_of : (mark : ℕ) (text : List ℕ) → Open mark text
open_of mark [] = record { whole = []; rest = []; parts = refl; grows = λ more. refl }
open_of mark (x ∷ xs) = by_mark (eqb x mark) refl (open_of mark xs)
  where
    cut : (b : Bool) → eqb x mark ≡ b → (ys : List ℕ) → pieces_of mark (x ∷ ys) ≡ cond b ([] ∷ pieces_of mark ys) (onto_first x (pieces_of mark ys))
    cut b e ys = ap (λ t. cond t ([] ∷ pieces_of mark ys) (onto_first x (pieces_of mark ys))) e

    by_whole : eqb x mark ≡ false → (whole : List (List ℕ)) (rest : List ℕ) → pieces_of mark xs ≡ whole ++ rest ∷ []
        → ((more : List ℕ) → pieces_of mark (xs ++ more) ≡ whole ++ pieces_of mark (rest ++ more)) → Open mark (x ∷ xs)
    by_whole e [] rest parts grows = record {
      whole = [];
      rest = x ∷ rest;
      parts = cut false e xs ∙ ap (onto_first x) parts;
      grows = λ more. cut false e (xs ++ more) ∙ ap (onto_first x) (grows more) ∙ sym (cut false e (rest ++ more));
    }
    by_whole e (part ∷ whole) rest parts grows = record {
      whole = (x ∷ part) ∷ whole;
      rest = rest;
      parts = cut false e xs ∙ ap (onto_first x) parts;
      grows = λ more. cut false e (xs ++ more) ∙ ap (onto_first x) (grows more);
    }

    by_mark : (b : Bool) → eqb x mark ≡ b → Open mark xs → Open mark (x ∷ xs)
    by_mark true e ending = record {
      whole = [] ∷ ending.whole;
      rest = ending.rest;
      parts = cut true e xs ∙ ap (λ ps. [] ∷ ps) ending.parts;
      grows = λ more. cut true e (xs ++ more) ∙ ap (λ ps. [] ∷ ps) (ending.grows more);
    }
    by_mark false e ending = by_whole e ending.whole ending.rest ending.parts ending.grows

-- the last part is one alone
last_part : List (List ℕ) → List ℕ
last_part [] = []
last_part (part ∷ []) = part
last_part (part ∷ next ∷ parts) = last_part (next ∷ parts)

last_is : (whole : List (List ℕ)) (rest : List ℕ) → last_part (whole ++ rest ∷ []) ≡ rest
unfolding last_part
last_is [] rest = refl
last_is (part ∷ []) rest = refl
last_is (part ∷ next ∷ whole) rest = last_is (next ∷ whole) rest

pub one_last : (whole others : List (List ℕ)) (rest other : List ℕ) → whole ++ rest ∷ [] ≡ others ++ other ∷ [] → rest ≡ other
one_last whole others rest other h = sym (last_is whole rest) ∙ ap last_part h ∙ last_is others other

pub both_last : (whole others : List (List ℕ)) (rest other : List ℕ) → whole ++ rest ∷ [] ≡ others ++ other ∷ [] → (rest ≡ other) × (whole ≡ others)
both_last whole others rest other h =
    let last : rest ≡ other = one_last whole others rest other h in
    (last, append_cancel_right whole others (other ∷ []) (ap (λ l. whole ++ l ∷ []) (sym last) ∙ h))

-- bytes without the mark stand at the front of the first part
pub front_part : (mark : ℕ) (rest more first : List ℕ) (parts : List (List ℕ)) → Lacks mark rest → pieces_of mark more ≡ first ∷ parts → pieces_of mark (rest ++ more) ≡ (rest ++ first) ∷ parts
front_part mark [] more first parts lacks h = h
front_part mark (x ∷ rest) more first parts lacks h =
    ap (λ b. cond b ([] ∷ pieces_of mark (rest ++ more)) (onto_first x (pieces_of mark (rest ++ more)))) lacks.0
    ∙ ap (onto_first x) (front_part mark rest more first parts lacks.1 h)

pub some_part : (mark : ℕ) (text : List ℕ) → (first : List ℕ) × (parts : List (List ℕ)) × (pieces_of mark text ≡ first ∷ parts)
some_part mark text = by_parts (pieces_of mark text) refl (omega (arith, length-slice_split (λ b. eqb b mark) text))
  where
    by_parts : (all : List (List ℕ)) → pieces_of mark text ≡ all → 1 ≤ length all → (first : List ℕ) × (parts : List (List ℕ)) × (pieces_of mark text ≡ first ∷ parts)
    by_parts [] e some = absurd (omega arith)
    by_parts (first ∷ parts) e some = (first, parts, e)

-- two beginnings of a text: one is a beginning of the other
pub one_in_front : (xs ys more others : List ℕ) → xs ++ more ≡ ys ++ others → ((m : List ℕ) × (ys ≡ xs ++ m)) ⊎ ((m : List ℕ) × (xs ≡ ys ++ m))
one_in_front [] ys more others h = inl (ys, refl)
one_in_front (x ∷ xs) [] more others h = inr (x ∷ xs, refl)
one_in_front (x ∷ xs) (y ∷ ys) more others h =
    let first : x ≡ y = cc (h) in
    let rest : xs ++ more ≡ ys ++ others = cc (h) in
    elim (one_in_front xs ys more others rest) [
      | inl longer ↦ inl (longer.0, ap (λ t. y ∷ t) longer.1 ∙ ap (λ b. b ∷ xs ++ longer.0) (sym first))
      | inr longer ↦ inr (longer.0, ap (λ t. x ∷ t) longer.1 ∙ ap (λ b. b ∷ ys ++ longer.0) first)
    ]

-- a word and the space after it
abbrev pub spaced_word : Word → List ℕ
spaced_word w = spelling_of w ++ 32 ∷ []

-- the bytes begin a line of the word, or are one that may go on
abbrev pub BeginsAs : Word → List ℕ → Type 0
BeginsAs w rest = ((more : List ℕ) × (spaced_word w ≡ rest ++ more)) ⊎ ((more : List ℕ) × (rest ≡ spaced_word w ++ more) × (length rest ≤ MAX_LINE))

word_alone : (w : Word) → is_next w (lines_of (spaced_word w ++ 10 ∷ [])) ≡ true
unfolding word_of word_in
word_alone words.Set = refl
word_alone words.Policy = refl
word_alone words.Source = refl
word_alone words.Route = refl
word_alone words.Aaaa = refl
word_alone words.A = refl
word_alone words.Rtt = refl
word_alone words.Used = refl
word_alone words.Connect = refl
word_alone words.Pause = refl
word_alone words.End = refl

word_begins : (w : Word) (more : List ℕ) → begins_with w (word_of (tokens_of (spaced_word w ++ more))) ≡ true
unfolding word_of word_in
word_begins words.Set more = refl
word_begins words.Policy more = refl
word_begins words.Source more = refl
word_begins words.Route more = refl
word_begins words.Aaaa more = refl
word_begins words.A more = refl
word_begins words.Rtt more = refl
word_begins words.Used more = refl
word_begins words.Connect more = refl
word_begins words.Pause more = refl
word_begins words.End more = refl

-- a line end makes a line of the word of what begins so
pub becomes_line : (w : Word) → (rest : List ℕ) → Lacks 10 rest → BeginsAs w rest → MayBecome w rest
becomes_line w rest lacks (inl (more, is)) =
    (more ++ 10 ∷ [], ap (λ t. is_next w (lines_of t)) (sym (append_assoc rest more (10 ∷ [])) ∙ ap (λ t. t ++ 10 ∷ []) (sym is)) ∙ word_alone w)
becomes_line w rest lacks (inr (more, is, short)) =
    let lines : lines_of (rest ++ 10 ∷ []) ≡ rest ∷ [] ∷ [] = front_part 10 rest (10 ∷ []) [] ([] ∷ []) lacks refl ∙ ap (λ t. t ∷ [] ∷ []) (append-nil rest) in
    let word : begins_with w (word_of (tokens_of rest)) ≡ true = ap (λ t. begins_with w (word_of (tokens_of t))) is ∙ word_begins w more in (
      10 ∷ [],
      ap (is_next w) lines ∙ ap (λ b. b && begins_with w (word_of (tokens_of rest))) (le-leb (length rest) MAX_LINE short) ∙ word,
    )

-- a line of the word is that word, or goes on after a space
word_line : (w : Word) → (line : List ℕ) → begins_with w (word_of (tokens_of line)) ≡ true → (line ≡ spelling_of w) ⊎ ((more : List ℕ) × (line ≡ spaced_word w ++ more))
word_line w line h = by_word (word_of (tokens_of line)) refl h
  where
    by_tokens : (tokens : List (List ℕ)) → line ≡ join_with_byte 32 (spelling_of w ∷ tokens) → (line ≡ spelling_of w) ⊎ ((more : List ℕ) × (line ≡ spaced_word w ++ more))
    by_tokens [] e = inl e
    by_tokens (token ∷ tokens) e = inr (join_with_byte 32 (token ∷ tokens), e ∙ sym (append_assoc (spelling_of w) (32 ∷ []) (join_with_byte 32 (token ∷ tokens))))

    by_word : (word : _) → word_of (tokens_of line) ≡ word → begins_with w word ≡ true → (line ≡ spelling_of w) ⊎ ((more : List ℕ) × (line ≡ spaced_word w ++ more))
    by_word (Err kind) e b = cc
    by_word (Ok parts) e b = by_tokens parts.1 (
        sym (join_with_byte-slice_split 32 line)
        ∙ ap (join_with_byte 32) (word_tokens (tokens_of line) parts e ∙ ap (λ x. spelling_of x ∷ parts.1) (one_word w parts.0 b))
        )

-- only what begins so becomes a line of the word
pub begins_as : (w : Word) → (rest : List ℕ) → Lacks 10 rest → MayBecome w rest → BeginsAs w rest
begins_as w rest lacks (more, is) =
    let front = some_part 10 more in
    by_parts front.0 front.1 (front_part 10 rest more front.0 front.1 lacks front.2)
  where
    by_line : (first : List ℕ) → length (rest ++ first) ≤ MAX_LINE → (rest ++ first ≡ spelling_of w) ⊎ ((tail : List ℕ) × (rest ++ first ≡ spaced_word w ++ tail))
        → BeginsAs w rest
    by_line first short (inl word) = inl (first ++ 32 ∷ [], ap (λ l. l ++ 32 ∷ []) (sym word) ∙ append_assoc rest first (32 ∷ []))
    by_line first short (inr (tail, line)) = elim (one_in_front rest (spaced_word w) first tail line) [
      | inl longer ↦ inl longer
      | inr longer ↦ inr (longer.0, longer.1, omega (arith, length-append rest first))
    ]

    by_parts : (first : List ℕ) (parts : List (List ℕ)) → lines_of (rest ++ more) ≡ (rest ++ first) ∷ parts
        → BeginsAs w rest
    by_parts first [] lines = let never : false ≡ true = sym (ap (is_next w) lines) ∙ is in cc
    by_parts first (next ∷ parts) lines =
        let both = and_parts (leb (length (rest ++ first)) MAX_LINE) (begins_with w (word_of (tokens_of (rest ++ first)))) (sym (ap (is_next w) lines) ∙ is) in
        by_line first (leb-true (length (rest ++ first)) MAX_LINE both.0) (word_line w (rest ++ first) both.1)

-- whether the bytes begin so is found by two tests
abbrev pub test_beginning : Word → List ℕ → Bool
test_beginning w rest = starts_with (λ a b. a == b) (spaced_word w) rest || starts_with (λ a b. a == b) rest (spaced_word w) && leb (length rest) MAX_LINE

pub beginning_found : (w : Word) → (rest : List ℕ) (front behind short : Bool) → front ≡ starts_with (λ a b. a == b) (spaced_word w) rest → behind ≡ starts_with (λ a b. a == b) rest (spaced_word w)
    → short ≡ leb (length rest) MAX_LINE → (IsTrue (front || behind && short) → BeginsAs w rest) × (BeginsAs w rest → IsTrue (front || behind && short))
beginning_found w rest front behind short f b s = (found front behind short f b s, tested)
  where
    found : (front behind short : Bool) → front ≡ starts_with (λ a b. a == b) (spaced_word w) rest → behind ≡ starts_with (λ a b. a == b) rest (spaced_word w) → short ≡ leb (length rest) MAX_LINE
        → IsTrue (front || behind && short) → BeginsAs w rest
    found true behind short f b s h = inl (_, (starts_is Decides-eqb (spaced_word w) rest _ refl).0 (sym f))
    found false true true f b s h = inr (_, (starts_is Decides-eqb rest (spaced_word w) _ refl).0 (sym b), leb-true (length rest) MAX_LINE (sym s))
    found false true false f b s h = cc
    found false false short f b s h = cc

    or_true : (b : Bool) → b || true ≡ true
    or_true true = refl
    or_true false = refl

    tested : BeginsAs w rest → IsTrue (front || behind && short)
    tested (inl (m, e)) = ap (λ t. t || behind && short) (f ∙ (starts_is Decides-eqb (spaced_word w) rest _ refl).1 m e)
    tested (inr (m, e, le)) =
        ap (λ t. front || t && short) (b ∙ (starts_is Decides-eqb rest (spaced_word w) _ refl).1 m e)
        ∙ ap (λ t. front || t) (s ∙ le-leb (length rest) MAX_LINE le)
        ∙ or_true front

last_lacks : (mark : ℕ) (whole : List (List ℕ)) (rest : List ℕ) → AllByRecursion (Lacks mark) (whole ++ rest ∷ []) → Lacks mark rest
last_lacks mark [] rest all = all.0
last_lacks mark (part ∷ whole) rest all = last_lacks mark whole rest all.1

pub open_lacks : (mark : ℕ) (text : List ℕ) → Lacks mark (open_of mark text).rest
open_lacks mark text =
    let ending : Open mark text = open_of mark text in
    let A : List (List ℕ) → Type 0 = AllByRecursion (Lacks mark) in
    last_lacks mark ending.whole ending.rest (subst A ending.parts (parts_lack mark text))

-- whether bytes may become a line of the word
pub may_become_or_not : (w : Word) (rest : List ℕ) → Lacks 10 rest → MayBecome w rest ⊎ (MayBecome w rest → ⊥)
may_become_or_not w rest lacks = by_test (test_beginning w rest) refl
  where
    by_test : (b : Bool) → test_beginning w rest ≡ b → MayBecome w rest ⊎ (MayBecome w rest → ⊥)
    by_test true e = inl (becomes_line w rest lacks ((beginning_found w rest _ _ _ refl refl refl).0 e))
    by_test false e = inr (λ may. let wrong : false ≡ true = sym e ∙ (beginning_found w rest _ _ _ refl refl refl).1 (begins_as w rest lacks may) in cc)

-- what stands after the last mark is one part
pub pieces_behind : (mark byte : ℕ) (front rest : List ℕ) → eqb byte mark ≡ true → pieces_of mark rest ≡ rest ∷ [] → pieces_of mark (front ++ byte ∷ rest) ≡ pieces_of mark front ++ rest ∷ []
pieces_behind mark byte [] rest is alone = ap (λ b. cond b ([] ∷ pieces_of mark rest) (onto_first byte (pieces_of mark rest))) is ∙ ap (λ ps. [] ∷ ps) alone
pieces_behind mark byte (x ∷ front) rest is alone =
    let first = some_part mark front in
    by_mark (eqb x mark) first.0 first.1 first.2 (pieces_behind mark byte front rest is alone)
  where
    by_mark : (b : Bool) (first : List ℕ) (parts : List (List ℕ)) → pieces_of mark front ≡ first ∷ parts → pieces_of mark (front ++ byte ∷ rest) ≡ pieces_of mark front ++ rest ∷ []
        → cond b ([] ∷ pieces_of mark (front ++ byte ∷ rest)) (onto_first x (pieces_of mark (front ++ byte ∷ rest))) ≡ cond b ([] ∷ pieces_of mark front) (onto_first x (pieces_of mark front)) ++ rest ∷ []
    by_mark true first parts e h = ap (λ ps. [] ∷ ps) h
    by_mark false first parts e h = ap (onto_first x) (h ∙ ap (λ ps. ps ++ rest ∷ []) e) ∙ sym (ap (λ ps. onto_first x ps ++ rest ∷ []) e)

-- bytes of which none is the mark are one part
none_marks : (mark from : ℕ) (text : List ℕ) → Nowhere (Passes (is_byte mark) text) from (length text) → pieces_of mark (drop from text) ≡ drop from text ∷ []
none_marks mark from text never = parts_whole mark (drop from text) (sym (first_byte mark (drop from text) None (λ j low high passes.
    never (from + j) (omega arith) (omega (arith, high, length-drop from text)) (ap (λ b. eqb b mark) (sym (get_or-drop from text j 0)) ∙ passes))))

-- the text ends in what stands after its last line end
pub ends_behind : (text : List ℕ) (at : ℕ) → at < length text → slice_index text at ≡ 10 → Nowhere (Passes (is_byte 10) text) (at + 1) (length text)
    → EndsIn text (line_count text) (drop (at + 1) text) × (lines_of (drop (at + 1) text) ≡ drop (at + 1) text ∷ [])
ends_behind text at inside is never =
    let alone = none_marks 10 (at + 1) text never in
    let parts : lines_of text ≡ lines_of (take at text) ++ drop (at + 1) text ∷ [] =
    ap lines_of (sym (take-append-drop at text) ∙ ap (λ l. take at text ++ l) (drop_more text at 0 inside)) ∙ pieces_behind 10 (get_or text at 0) (take at text) (drop (at + 1) text) (ap (λ b. eqb b 10) is) alone in
    ((lines_of (take at text), parts, ended (lines_of (take at text)) (drop (at + 1) text) parts), alone)
  where
    ended : (lines : List (List ℕ)) (rest : List ℕ) → lines_of text ≡ lines ++ rest ∷ [] → length lines ≡ line_count text
    ended lines rest parts = let all = parts_counted 10 text in let sum : length (lines_of text) ≡ length lines + 1 = ap length parts ∙ length-append lines (rest ∷ []) in omega arith

pub ends_whole : (text : List ℕ) → Nowhere (Passes (is_byte 10) text) 0 (length text) → EndsIn text (line_count text) text × (lines_of text ≡ text ∷ [])
ends_whole text never =
    let alone : lines_of text ≡ text ∷ [] = none_marks 10 0 text never in
    let all = parts_counted 10 text in
    let one : length (lines_of text) ≡ 1 = ap length alone in
    (([], alone, omega arith), alone)

one_line : (rest : List ℕ) → lines_of rest ≡ rest ∷ [] → Lacks 10 rest
one_line rest alone = let A : List (List ℕ) → Type 0 = AllByRecursion (Lacks 10) in (subst A alone (parts_lack 10 rest)).0

spaced_size : (w : Word) → length (spaced_word w) ≡ length (spelling_of w) + 1
spaced_size w = length-append (spelling_of w) (32 ∷ [])

none_left : (more : List ℕ) → length more ≡ 0 → more ≡ []
none_left [] e = refl
none_left (x ∷ more) e = absurd (omega arith)

-- bytes that are no longer than the word
pub short_becomes : (w : Word) (rest : List ℕ) (front : Bool) → lines_of rest ≡ rest ∷ [] → length rest ≤ length (spelling_of w) → front ≡ starts_with (λ a b. a == b) (spelling_of w) rest → IsTrue front ↔ MayBecome w rest
short_becomes w rest front alone short is = (becoming, λ may. begun (begins_as w rest (one_line rest alone) may))
  where
    becoming : IsTrue front → MayBecome w rest
    becoming h =
        let tail : List ℕ = drop (length rest) (spelling_of w) in
        let spelled : spelling_of w ≡ rest ++ tail = (starts_is Decides-eqb (spelling_of w) rest _ refl).0 (sym is ∙ h) in
        becomes_line w rest (one_line rest alone) (inl (tail ++ 32 ∷ [], ap (λ (l : List ℕ). l ++ 32 ∷ []) spelled ∙ append_assoc rest tail (32 ∷ [])))

    begun : BeginsAs w rest → IsTrue front
    begun (inl (more, e)) = elim (one_in_front rest (spelling_of w) more (32 ∷ []) (sym e)) [
      | inl longer ↦ is ∙ (starts_is Decides-eqb (spelling_of w) rest _ refl).1 longer.0 longer.1
      | inr longer ↦
          let size : length rest ≡ length (spelling_of w) + length longer.0 = ap length longer.1 ∙ length-append (spelling_of w) longer.0 in
          let none : longer.0 ≡ [] = none_left longer.0 (omega arith) in
          let same : rest ≡ spelling_of w = longer.1 ∙ ap (λ (m : List ℕ). spelling_of w ++ m) none ∙ append-nil (spelling_of w) in
          is ∙ (starts_is Decides-eqb (spelling_of w) rest _ refl).1 [] (sym same ∙ sym (append-nil rest))
    ]
    begun (inr (more, e, le)) =
        let size : length rest ≡ length (spaced_word w) + length more = ap length e ∙ length-append (spaced_word w) more in
        let spaced = spaced_size w in
        absurd (omega arith)

word_short : (w : Word) → length (spaced_word w) ≤ MAX_LINE
word_short words.Set = omega arith
word_short words.Policy = omega arith
word_short words.Source = omega arith
word_short words.Route = omega arith
word_short words.Aaaa = omega arith
word_short words.A = omega arith
word_short words.Rtt = omega arith
word_short words.Used = omega arith
word_short words.Connect = omega arith
word_short words.Pause = omega arith
word_short words.End = omega arith

-- longer ones begin with the word and a space, and are no longer than a line may be
long_begins : (w : Word) (rest : List ℕ) → length (spelling_of w) < length rest → BeginsAs w rest → (more : List ℕ) × (rest ≡ spaced_word w ++ more) × (length rest ≤ MAX_LINE)
long_begins w rest long (inr whole) = whole
long_begins w rest long (inl (more, e)) =
    let spaced = spaced_size w in
    let size : length (spaced_word w) ≡ length rest + length more = ap length e ∙ length-append rest more in
    let none : more ≡ [] = none_left more (omega arith) in
    let same : spaced_word w ≡ rest = e ∙ ap (λ (m : List ℕ). rest ++ m) none ∙ append-nil rest in
    let room = word_short w in
    ([], sym same ∙ sym (append-nil (spaced_word w)), omega arith)

-- which the byte after the word tells, and that the word stands there
spaced_front : (w : Word) (rest : List ℕ) → length (spelling_of w) < length rest → get_or rest (length (spelling_of w)) 0 ≡ 32 → starts_with (λ a b. a == b) rest (spelling_of w) ≡ true → (more : List ℕ) × (rest ≡ spaced_word w ++ more)
spaced_front w rest long byte starts =
    let word : List ℕ = spelling_of w in
    let tail : List ℕ = drop (length word) rest in
    let parts : rest ≡ word ++ tail = (starts_is Decides-eqb rest word _ refl).0 starts in
    let more : List ℕ = drop (length word + 1) rest in
    let first : tail ≡ get_or rest (length word) 0 ∷ more = drop_more rest (length word) 0 long in (
      more,
      parts ∙ ap (λ (t : List ℕ). word ++ t) first ∙ ap (λ (b : ℕ). word ++ b ∷ more) byte ∙ sym (append_assoc word (32 ∷ []) more),
    )

pub long_becomes : (w : Word) (rest : List ℕ) (mark front : Bool) → lines_of rest ≡ rest ∷ [] → length (spelling_of w) < length rest → mark ≡ eqb (get_or rest (length (spelling_of w)) 0) 32 → front ≡ starts_with (λ a b. a == b) rest (spelling_of w)
    → IsTrue (mark && front && leb (length rest) MAX_LINE) ↔ MayBecome w rest
long_becomes w rest mark front alone long m f = (becoming mark front m f, λ may. begun (long_begins w rest long (begins_as w rest (one_line rest alone) may)))
  where
    becoming : (mark front : Bool) → mark ≡ eqb (get_or rest (length (spelling_of w)) 0) 32 → front ≡ starts_with (λ a b. a == b) rest (spelling_of w) → IsTrue (mark && front && leb (length rest) MAX_LINE) → MayBecome w rest
    becoming false front m f h = cc
    becoming true false m f h = cc
    becoming true true m f h =
        let begins = spaced_front w rest long (eqb-true (get_or rest (length (spelling_of w)) 0) 32 (sym m)) (sym f) in
        becomes_line w rest (one_line rest alone) (inr (begins.0, begins.1, leb-true (length rest) MAX_LINE h))

    begun : (more : List ℕ) × (rest ≡ spaced_word w ++ more) × (length rest ≤ MAX_LINE) → IsTrue (mark && front && leb (length rest) MAX_LINE)
    begun (more, e, short) =
        let word : List ℕ = spelling_of w in
        let parts : rest ≡ word ++ 32 ∷ more = e ∙ append_assoc word (32 ∷ []) more in
        let starts : front ≡ true = f ∙ (starts_is Decides-eqb rest word _ refl).1 (32 ∷ more) parts in
        let byte : get_or rest (length word) 0 ≡ 32 = ap (λ (r : List ℕ). get_or r (length word) 0) parts ∙ get_or-append_seam word 32 more 0 in
        let marks : mark ≡ true = m ∙ ap (λ (b : ℕ). eqb b 32) byte in
        ap (λ (b : Bool). b && front && leb (length rest) MAX_LINE) marks ∙ ap (λ (b : Bool). b && leb (length rest) MAX_LINE) starts ∙ le-leb (length rest) MAX_LINE short
