-- A text cut at a mark, and at every one.
use Rattle.std.proofs.Common.{◌≡◌, ℕ, w8, get_or, map, replicate, ◌+◌, ◌-◌, ◌%◌, ◌^◌, ◌<◌, ◌≤◌, Bool, true, false, not, cond, ltb, eqb, List, [], ◌∷◌, ◌++◌, Option, Some, None, length, take, drop, refl, sym, ◌∙◌, ap, subst, arith, append_assoc, le_refl}
use Rattle.std.specs.List.{AllByRecursion, prefix_len, position, position_or_len, count_by, onto_first, join_with_byte}
use Rattle.std.proofs.lemmas.List.Elements.{All-from_recursion}
use Rattle.std.proofs.lemmas.Bool.{eq-eqb, ltb-true, ltb-false}
use Rattle.std.proofs.lemmas.List.{length-take, length-take-le, length-drop, get_or-take, take-append-drop, take-take, take_all, drop-take, drop-drop}
use Rattle.std.proofs.lemmas.List.Folds.{prefix_len-append}
use Rattle.std.proofs.lemmas.List.Sums.{count_by-le-length, fails_before_first, passes_at_first, position_or_len_is, prefix_len-le-length, sum_by-take-drop}
use Rattle.std.proofs.lemmas.List.Splits.{slice_split_at, slice_split_none, slice_split_first, length-slice_split}
use Rattle.std.proofs.lemmas.Simd.{bitmask_splat, first_set_mask_l}
use lib.Lanes.{zip2, mask_l, top}
use Rattle.memchr.specs.Find.{IsFirstByte, is_byte}
use Rattle.he_reading.specs.Left.{lowest_bit, all_but}
use Rattle.he_reading.specs.Parts.{pieces_of}

found : (b : Bool) (m n : ℕ) → cond b (Some m) None ≡ Some n → (b ≡ true) × (m ≡ n)
found true m n h = (refl, cc)
found false m n h = cc

missed : (b : Bool) (m : ℕ) → cond b (Some m) None ≡ None → b ≡ false
missed true m h = cc
missed false m h = refl

is_false : (b : Bool) → (b ≡ true → ⊥) → b ≡ false
is_false true never = absurd (never refl)
is_false false never = refl

below : (m n : ℕ) → m < n → ltb m n ≡ true
below m n lt = grind arith

not_below : (m n : ℕ) → n ≤ m → ltb m n ≡ false
not_below m n le = grind arith

-- the first place is the same in both words
pub first_byte : (mark : ℕ) (text : List ℕ) (r : Option ℕ) → IsFirstByte (is_byte mark) text r → r ≡ position (λ b. eqb b mark) text
first_byte mark text None none =
    let at : position_or_len (λ b. eqb b mark) text ≡ length text =
    position_or_len_is (λ b. eqb b mark) text (length text) 0 (le_refl (length text)) (λ k lt. is_false _ (none k (omega arith) lt)) (λ lt. absurd (omega arith)) in
    sym (ap (λ (n : ℕ). cond (ltb n (length text)) (Some n) None) at ∙ ap (λ (b : Bool). cond b (Some (length text)) None) (not_below (length text) (length text) (le_refl (length text))))
first_byte mark text (Some k) is =
    let at : position_or_len (λ b. eqb b mark) text ≡ k =
    position_or_len_is (λ b. eqb b mark) text k 0 (omega (arith, is.0.high)) (λ j lt. is_false _ (is.0.before j (omega arith) lt)) (λ lt. is.1) in
    sym (ap (λ (n : ℕ). cond (ltb n (length text)) (Some n) None) at ∙ ap (λ (b : Bool). cond b (Some k) None) (below k (length text) is.0.high))

-- what the bits of a vector's lanes tell of its bytes
pub lowest_is : (mark r : ℕ) (text : List ℕ) → 32 ≤ length text
    → r ≡ lowest_bit (mask_l (map (top 7) (zip2 (λ a b. cond (eqb a b) 255 0) (take 32 text) (replicate 32 mark))) % 2 ^ 64)
    → r ≡ position_or_len (λ b. eqb b mark) (take 32 text)
lowest_is mark r text room is =
    let long : length (take 32 text) ≡ 32 = length-take-le 32 text room in
    is ∙ ap lowest_bit (bitmask_splat w8 eqb (take 32 text) 32 mark long (omega arith)) ∙ first_set_mask_l (λ b. eqb b mark) (take 32 text) 32 long (omega arith)

-- Among the first bytes there are so many before the first mark. Where a part of the text has no more, it has no mark;
-- else the mark is there.
near_fails : (mark room len : ℕ) (text : List ℕ) (k : ℕ) → k < len → k < room → k < position_or_len (λ b. eqb b mark) (take room text) → eqb (get_or (take len text) k 0) mark ≡ false
near_fails mark room len text k inside among before =
    ap (λ b. eqb b mark) (get_or-take len text k 0 inside ∙ sym (get_or-take room text k 0 among)) ∙ fails_before_first (λ b. eqb b mark) (take room text) k 0 before

pub before_near : (mark room len : ℕ) (text : List ℕ) → room ≤ length text → len ≤ length text → len ≤ position_or_len (λ b. eqb b mark) (take room text)
    → None ≡ position (λ b. eqb b mark) (take len text)
before_near mark room len text within fits past =
    let most : position_or_len (λ b. eqb b mark) (take room text) ≤ length (take room text) = prefix_len-le-length (λ b. not (eqb b mark)) (take room text) in
    let all : length (take room text) ≡ room = length-take-le room text within in
    let long : length (take len text) ≡ len = length-take-le len text fits in
    let at : position_or_len (λ b. eqb b mark) (take len text) ≡ length (take len text) =
    position_or_len_is (λ b. eqb b mark) (take len text) (length (take len text)) 0 (le_refl (length (take len text)))
    (λ k lt. near_fails mark room len text k (omega arith) (omega arith) (omega arith)) (λ lt. absurd (omega arith)) in
    sym (ap (λ (n : ℕ). cond (ltb n (length (take len text))) (Some n) None) at
    ∙ ap (λ (b : Bool). cond b (Some (length (take len text))) None) (not_below (length (take len text)) (length (take len text)) (le_refl (length (take len text)))))

pub at_near : (mark room len near : ℕ) (text : List ℕ) → room ≤ length text → len ≤ length text → near ≡ position_or_len (λ b. eqb b mark) (take room text) → near < len → near < room
    → Some near ≡ position (λ b. eqb b mark) (take len text)
at_near mark room len near text within fits is inside among =
    let first : ℕ = position_or_len (λ b. eqb b mark) (take room text) in
    let all : length (take room text) ≡ room = length-take-le room text within in
    let long : length (take len text) ≡ len = length-take-le len text fits in
    let passes : eqb (get_or (take room text) first 0) mark ≡ true = passes_at_first (λ b. eqb b mark) (take room text) 0 (omega arith) in
    let here : get_or (take len text) near 0 ≡ get_or (take room text) first 0 =
    get_or-take len text near 0 inside ∙ sym (get_or-take room text near 0 among) ∙ ap (λ (n : ℕ). get_or (take room text) n 0) is in
    let at : position_or_len (λ b. eqb b mark) (take len text) ≡ near =
    position_or_len_is (λ b. eqb b mark) (take len text) near 0 (omega arith)
    (λ k lt. near_fails mark room len text k (omega arith) (omega arith) (omega arith)) (λ lt. ap (λ b. eqb b mark) here ∙ passes) in
    sym (ap (λ (n : ℕ). cond (ltb n (length (take len text))) (Some n) None) at ∙ ap (λ b. cond b (Some near) None) (below near (length (take len text)) (omega arith)))

-- the first mark of a front is that of the text
pub near_found : (mark near : ℕ) (text : List ℕ) (at : ℕ) → position (λ b. eqb b mark) (take near text) ≡ Some at → (position (λ b. eqb b mark) text ≡ Some at) × (at < near)
near_found mark near text at h =
    let front : List ℕ = take near text in
    let first : ℕ = position_or_len (λ b. eqb b mark) front in
    let is = found (ltb first (length front)) first at h in
    let inside : first < length front = ltb-true first (length front) is.0 in
    let short : length front ≤ near = omega (arith, length-take near text) in
    let within : length front ≤ length text = omega (arith, length-take near text) in
    let other : eqb first (length front) ≡ false = grind arith in
    let same : position_or_len (λ b. eqb b mark) text ≡ at =
    ap (λ t. position_or_len (λ b. eqb b mark) t) (sym (take-append-drop near text))
    ∙ prefix_len-append (λ b. not (eqb b mark)) front (drop near text)
    ∙ ap (λ b. cond b (length front + prefix_len (λ b. not (eqb b mark)) (drop near text)) first) other
    ∙ is.1 in (
      ap (λ (n : ℕ). cond (ltb n (length text)) (Some n) None) same ∙ ap (λ b. cond b (Some at) None) (below at (length text) (omega (arith, is.1))),
      omega (arith, is.1),
    )

pub parts_found : (mark : ℕ) (text : List ℕ) (at : ℕ) → position (λ b. eqb b mark) text ≡ Some at → pieces_of mark text ≡ take at text ∷ pieces_of mark (drop (at + 1) text)
parts_found mark text at h =
    let first : ℕ = position_or_len (λ b. eqb b mark) text in
    let is = found (ltb first (length text)) first at h in
    let P : ℕ → Type 0 = λ n. pieces_of mark text ≡ take n text ∷ pieces_of mark (drop (n + 1) text) in
    subst P is.1 (slice_split_first (λ b. eqb b mark) text 0 (ltb-true first (length text) is.0))

-- the parts of a text but for its end, after its first mark
pub rest_found : (mark behind at : ℕ) (text : List ℕ) → Some at ≡ position (λ b. eqb b mark) (take (length text - behind) text)
    → pieces_of mark (all_but behind text) ≡ take at text ∷ pieces_of mark (all_but behind (drop (at + 1) text))
rest_found mark behind at text h =
    let len : ℕ = length text - behind in
    let first : ℕ = position_or_len (λ b. eqb b mark) (take len text) in
    let is = found (ltb first (length (take len text))) first at (sym h) in
    let inside : first < length (take len text) = ltb-true first (length (take len text)) is.0 in
    let long : length (take len text) ≡ len = length-take-le len text (omega arith) in
    let split : len ≡ (at + 1) + (len - (at + 1)) = omega (arith, is.1) in
    let fewer : length (drop (at + 1) text) - behind ≡ len - (at + 1) = omega (arith, length-drop (at + 1) text) in
    parts_found mark (take len text) at (sym h)
    ∙ ap (λ (token : List ℕ). token ∷ pieces_of mark (drop (at + 1) (take len text))) (take-take at len text (omega (arith, is.1)))
    ∙ ap (λ (n : ℕ). take at text ∷ pieces_of mark (drop (at + 1) (take n text))) split
    ∙ ap (λ (rest : List ℕ). take at text ∷ pieces_of mark rest) (drop-take (at + 1) (len - (at + 1)) text)
    ∙ ap (λ (n : ℕ). take at text ∷ pieces_of mark (take n (drop (at + 1) text))) (sym fewer)

-- a text without the mark is one part
pub parts_whole : (mark : ℕ) (text : List ℕ) → position (λ b. eqb b mark) text ≡ None → pieces_of mark text ≡ text ∷ []
parts_whole mark text h =
    let first : ℕ = position_or_len (λ b. eqb b mark) text in
    let past = ltb-false first (length text) (missed (ltb first (length text)) first h) in
    slice_split_none (λ b. eqb b mark) text (λ k d below. fails_before_first (λ b. eqb b mark) text k d (omega arith))

-- where a front has no mark, the first part is at least so long
pub near_missed : (mark near : ℕ) (text : List ℕ) → near ≤ length text → position (λ b. eqb b mark) (take near text) ≡ None
    → (line : List ℕ) × (after : List (List ℕ)) × (pieces_of mark text ≡ line ∷ after) × (near ≤ length line)
near_missed mark near text within h = by_first (position (λ b. eqb b mark) text) refl
  where
    front : List ℕ
    front = take near text

    full : length front ≡ near
    full = omega (arith, length-take near text)

    later : near ≤ position_or_len (λ b. eqb b mark) text
    later =
        let first : ℕ = position_or_len (λ b. eqb b mark) front in
        let past : length front ≤ first = ltb-false first (length front) (missed (ltb first (length front)) first h) in
        let most : first ≤ length front = prefix_len-le-length (λ b. not (eqb b mark)) front in
        let all : eqb first (length front) ≡ true = grind arith in
        let is : position_or_len (λ b. eqb b mark) text ≡ length front + prefix_len (λ b. not (eqb b mark)) (drop near text) =
        ap (λ t. position_or_len (λ b. eqb b mark) t) (sym (take-append-drop near text))
        ∙ prefix_len-append (λ b. not (eqb b mark)) front (drop near text)
        ∙ ap (λ b. cond b (length front + prefix_len (λ b. not (eqb b mark)) (drop near text)) first) all in
        omega (arith, is, full)

    by_first : (r : Option ℕ) → position (λ b. eqb b mark) text ≡ r → (line : List ℕ) × (after : List (List ℕ)) × (pieces_of mark text ≡ line ∷ after) × (near ≤ length line)
    by_first None e = (text, [], parts_whole mark text e, within)
    by_first (Some at) e =
        let first : ℕ = position_or_len (λ b. eqb b mark) text in
        let is = found (ltb first (length text)) first at e in
        let inside : first < length text = ltb-true first (length text) is.0 in
        (take at text, pieces_of mark (drop (at + 1) text), parts_found mark text at e, omega (arith, length-take at text, later, is.1))

-- there is one part more than there are marks
pub parts_counted : (mark : ℕ) (text : List ℕ) → count_by (λ b. eqb b mark) text + 1 ≡ length (pieces_of mark text)
parts_counted mark text = sym (length-slice_split (λ b. eqb b mark) text)

-- the marks of a text, at most one for each byte
pub marks_within : (mark : ℕ) (text : List ℕ) → count_by (λ b. eqb b mark) text ≤ length text
marks_within mark text = count_by-le-length (λ b. eqb b mark) text

-- the marks of a vector's bytes, and of what stands before and after them
pub marks_on : (mark at found front : ℕ) (text : List ℕ) → at ≤ length text
    → front ≡ count_by (λ b. eqb b mark) (take 32 (take (length text - at) (drop at text)))
    → found + count_by (λ b. eqb b mark) (drop at text) ≡ count_by (λ b. eqb b mark) text
    → (found + front) + count_by (λ b. eqb b mark) (drop (at + 32) text) ≡ count_by (λ b. eqb b mark) text
marks_on mark at found front text within is before =
    let rest : List ℕ = drop at text in
    let whole : take (length text - at) rest ≡ rest = take_all (length text - at) rest (omega (arith, length-drop at text)) in
    let first : front ≡ count_by (λ b. eqb b mark) (take 32 rest) = is ∙ ap (λ part. count_by (λ b. eqb b mark) (take 32 part)) whole in
    let cut : count_by (λ b. eqb b mark) (take 32 rest) + count_by (λ b. eqb b mark) (drop (at + 32) text) ≡ count_by (λ b. eqb b mark) rest =
    ap (λ part. count_by (λ b. eqb b mark) (take 32 rest) + count_by (λ b. eqb b mark) part) (sym (drop-drop 32 at text)) ∙ sum_by-take-drop _ rest 32 in
    omega (arith, cut, first, before)

-- no byte is the mark
abbrev pub Lacks : ℕ → List ℕ → Type 0
Lacks mark text = AllByRecursion (λ b. eqb b mark ≡ false) text

onto_lacks : (mark x : ℕ) (parts : List (List ℕ)) → eqb x mark ≡ false → AllByRecursion (Lacks mark) parts → AllByRecursion (Lacks mark) (onto_first x parts)
onto_lacks mark x [] other all = ((other, tt), tt)
onto_lacks mark x (part ∷ parts) other all = ((other, all.0), all.1)

-- what stands between marks has none
pub parts_lack : (mark : ℕ) (text : List ℕ) → AllByRecursion (Lacks mark) (pieces_of mark text)
parts_lack mark [] = (tt, tt)
parts_lack mark (x ∷ xs) = by_test (eqb x mark) refl (parts_lack mark xs)
  where
    by_test : (b : Bool) → eqb x mark ≡ b → AllByRecursion (Lacks mark) (pieces_of mark xs) → AllByRecursion (Lacks mark) (cond b ([] ∷ pieces_of mark xs) (onto_first x (pieces_of mark xs)))
    by_test true e rest = (tt, rest)
    by_test false e rest = onto_lacks mark x (pieces_of mark xs) e rest

-- parts that were joined are found again
pub joined_parts : (mark : ℕ) (part : List ℕ) (parts : List (List ℕ)) → AllByRecursion (Lacks mark) (part ∷ parts) → pieces_of mark (join_with_byte mark (part ∷ parts)) ≡ part ∷ parts
joined_parts mark part [] lack = slice_split_none (λ b. eqb b mark) part (All-from_recursion (λ b. eqb b mark ≡ false) part lack.0)
joined_parts mark part (next ∷ parts) lack =
    slice_split_at (λ b. eqb b mark) part mark (join_with_byte mark (next ∷ parts)) (All-from_recursion (λ b. eqb b mark ≡ false) part lack.0) (eq-eqb mark mark refl)
    ∙ ap (λ ps. part ∷ ps) (joined_parts mark next parts lack.1)

pub front_lacks : (mark : ℕ) (front behind : List (List ℕ)) → AllByRecursion (Lacks mark) (front ++ behind) → AllByRecursion (Lacks mark) front
front_lacks mark [] behind all = tt
front_lacks mark (part ∷ front) behind all = (all.0, front_lacks mark front behind all.1)

pub lacks_more : (mark : ℕ) (front : List (List ℕ)) (part : List ℕ) → AllByRecursion (Lacks mark) front → Lacks mark part → AllByRecursion (Lacks mark) (front ++ part ∷ [])
lacks_more mark [] part all one = (one, tt)
lacks_more mark (first ∷ front) part all one = (all.0, lacks_more mark front part all.1 one)

-- the text of some parts and of those after them
pub join_behind : (mark : ℕ) (part : List ℕ) (front : List (List ℕ)) (first : List ℕ) (behind : List (List ℕ))
    → join_with_byte mark ((part ∷ front) ++ first ∷ behind) ≡ join_with_byte mark (part ∷ front) ++ mark ∷ join_with_byte mark (first ∷ behind)
join_behind mark part [] first behind = refl
join_behind mark part (next ∷ front) first behind =
    ap (λ text. part ++ mark ∷ text) (join_behind mark next front first behind)
    ∙ sym (append_assoc part (mark ∷ join_with_byte mark (next ∷ front)) (mark ∷ join_with_byte mark (first ∷ behind)))
