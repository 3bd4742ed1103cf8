-- What octets begin of a request of SOCKS 4, and what may follow them.
use Rattle.std.proofs.Common.{◌≡◌, ◌⊎◌, ℕ, zero, suc, ◌+◌, ◌-◌, ◌<◌, ◌≤◌, Bool, true, false, cond, ltb, eqb, List, [], ◌∷◌, ◌++◌, Some, None, length, get_or, take, drop, drop_of_length-le, refl, sym, ◌∙◌, ap, subst, arith, inl, inr, append_assoc, append-nil, slice_get, slice_range, length-append, length-drop, length-take}
use Rattle.std.specs.Borrow.{Bor}
use Rattle.std.specs.Int.{w16, w32, from_be_bytes}
use Rattle.std.specs.List.{position_or_len}
use Rattle.std.specs.Option.{option_map}
use Rattle.std.proofs.lemmas.Bool.{cases_Bool, false≢true, ltb-false}
use Rattle.std.proofs.lemmas.List.{drop-append-le, get_or-take, get_or_append_left, get_or_at, take-append-le, take_all}
use Rattle.std.proofs.lemmas.List.Elements.{All-from_recursion, recursion_from_All}
use Rattle.std.proofs.lemmas.List.Sums.{fails_before_first}
use Rattle.std.proofs.lemmas.Option.{same_Some}
use Rattle.he_addr.specs.declared.ip.Ip.TheVariants.{V4, V6}
use Rattle.he_addr.specs.Reading.{cut_in}
use Rattle.he_addr.specs.Text.{Lacks}
use Rattle.he_front.proofs.Begun.{wanted-there}
use Rattle.he_addr.proofs.Cuts.{cut_joined}
use Rattle.he_front.specs.declared.socks.Target.{Target}
use Rattle.he_front.specs.declared.socks.Target.TheVariants as targets
use Rattle.he_front.specs.Messages.{HasNone, MayBecome}
use Rattle.he_front.specs.OldSocks.{GoesOn, IsOldRequest, IsOldTarget, IsText, IsTooLong, is_name_sign}
use Rattle.he_front.specs.Socks.{is_other}

-- ---- a text and its NUL

lacks_before : (mark : ℕ) (text : List ℕ) → Lacks mark (take (position_or_len (λ b. eqb b mark) text) text)
lacks_before mark text =
    let p : ℕ → Bool = λ b. eqb b mark in
    let at : ℕ = position_or_len p text in
    recursion_from_All (λ b. eqb b mark ≡ false) (take at text) (λ k d below.
    let front : k < at = omega (arith, length-take at text) in
    ap (λ b. eqb b mark) (get_or-take at text k d front) ∙ fails_before_first p text k d front)

mapped_some : {A B : Type 0} (f : A → B) (b : Bool) (x : A) (y : B) → option_map f (cond b (Some x) None) ≡ Some y → f x ≡ y
mapped_some f true x y h = cc
mapped_some f false x y h = cc

mapped_none : {A B : Type 0} (f : A → B) (b : Bool) (x : A) → option_map f (cond b (Some x) None) ≡ None → b ≡ false
mapped_none f true x h = cc
mapped_none f false x h = refl

-- what stands before a cut has no mark
pub cut_front : (mark : ℕ) (text : List ℕ) (c : List ℕ × List ℕ) → cut_in mark text ≡ Some c → Lacks mark c.0
unfolding cut_in
cut_front mark text c h =
    let at : ℕ = position_or_len (λ b. eqb b mark) text in
    let P : List ℕ × List ℕ → Type 0 = λ c. Lacks mark c.0 in
    subst P (mapped_some (λ at. (take at text, drop (at + 1) text)) (ltb at (length text)) at c h) (lacks_before mark text)

-- nor has what isn't cut
pub cut_none : (mark : ℕ) (text : List ℕ) → cut_in mark text ≡ None → Lacks mark text
unfolding cut_in
cut_none mark text h =
    let at : ℕ = position_or_len (λ b. eqb b mark) text in
    let past : length text ≤ at = ltb-false at (length text) (mapped_none (λ at. (take at text, drop (at + 1) text)) (ltb at (length text)) at h) in
    subst (Lacks mark) (take_all at text past) (lacks_before mark text)

-- texts that end at the first mark of the same octets are the same
same_front : (mark : ℕ) (a b r s : List ℕ) → Lacks mark a → Lacks mark b → a ++ mark ∷ r ≡ b ++ mark ∷ s → a ≡ b
same_front mark a b r s first second same =
    let both : Some (a, r) ≡ Some (b, s) = sym (cut_joined mark a r first) ∙ ap (cut_in mark) same ∙ cut_joined mark b s second in
    ap (λ (c : List ℕ × List ℕ). c.0) (same_Some (a, r) (b, s) both)

same_len : (most : ℕ) (octets : List ℕ) (a b : Bor (List ℕ)) (m n : ℕ) → IsText most octets a m → IsText most octets b n → m ≡ n
same_len most octets a b m n first second =
    let same : a.now ≡ b.now = same_front 0 a.now b.now first.rest second.rest first.bare second.bare (sym first.parts ∙ second.parts) in
    first.ends ∙ ap (λ (text : List ℕ). length text + 1) same ∙ sym second.ends

-- a text is there when more follows
text_more : (most : ℕ) (octets more : List ℕ) (text : Bor (List ℕ)) (len : ℕ) → IsText most octets text len → IsText most (octets ++ more) text len
text_more most octets more text len is = record {
  rest = is.rest ++ more;
  parts = ap (λ xs. xs ++ more) is.parts ∙ append_assoc text.now (0 ∷ is.rest) more;
  bare = is.bare;
  fits = is.fits;
  ends = is.ends;
}

text_within : (most : ℕ) (octets : List ℕ) (text : Bor (List ℕ)) (len : ℕ) → IsText most octets text len → len ≤ length octets
text_within most octets text len is =
    omega (arith, ap (λ (xs : List ℕ). length xs) is.parts, length-append text.now (0 ∷ is.rest), is.ends)

-- where no NUL has come, there is none
no_mark : (front more text rest : List ℕ) → Lacks 0 front → length text < length front → front ++ more ≡ text ++ 0 ∷ rest → ⊥
no_mark front more text rest bare within same =
    let at : ℕ = length text in
    let found : get_or front at 0 ≡ 0 =
    sym (get_or_append_left front more 0 at within) ∙ ap (λ xs. get_or xs at 0) same ∙ get_or_at text 0 rest 0 at refl in
    false≢true (sym (All-from_recursion (λ b. eqb b 0 ≡ false) front bare at 0 within) ∙ ap (λ b. eqb b 0) found)

not_yet : (most : ℕ) (octets : List ℕ) → GoesOn most octets → HasNone (IsText most) octets
not_yet most octets on text len is =
    let within : length text.now < length octets =
    omega (arith, ap (λ (xs : List ℕ). length xs) is.parts, length-append text.now (0 ∷ is.rest)) in
    no_mark octets [] text.now is.rest on.0 within (append-nil octets ∙ is.parts)

too_long : (most : ℕ) (octets : List ℕ) → IsTooLong most octets → (more : List ℕ) → HasNone (IsText most) (octets ++ more)
too_long most octets long more text len is =
    let within : length text.now < length long.front = omega (arith, long.more, is.fits) in
    let same : long.front ++ (long.rest ++ more) ≡ text.now ++ 0 ∷ is.rest =
    sym (append_assoc long.front long.rest more) ∙ ap (λ xs. xs ++ more) (sym long.parts) ∙ is.parts in
    no_mark long.front (long.rest ++ more) text.now is.rest long.bare within same

-- octets as a reference shows them
abbrev shown : List ℕ → Bor (List ℕ)
shown octets = record { ref_ptr = (0, 0); now = octets }

-- a NUL ends a text that goes on
ended : (most : ℕ) (octets more : List ℕ) → GoesOn most octets → IsText most (octets ++ 0 ∷ more) (shown octets) (length octets + 1)
ended most octets more on = record { rest = more; parts = refl; bare = on.0; fits = on.1; ends = refl }

-- ---- requests

get-more : (octets more : List ℕ) (place x : ℕ) → slice_get octets place ≡ Some x → slice_get (octets ++ more) place ≡ Some x
get-more [] more place x is = cc
get-more (y ∷ octets) more zero x is = is
get-more (y ∷ octets) more (suc place) x is = get-more octets more place x is

address-more : (octets more : List ℕ) → 8 ≤ length octets → slice_range (octets ++ more) 4 8 ≡ slice_range octets 4 8
address-more octets more room =
    ap (take 4) (drop-append-le 4 octets more (omega (arith, room)))
    ∙ take-append-le 4 (drop 4 octets) more (omega (arith, room, length-drop 4 octets))

abbrev address_of : List ℕ → ℕ
address_of octets = from_be_bytes w32 (slice_range octets 4 8)

-- what was found of an address is so of its octets
pub signed : (found : Bool) (ip address : ℕ) → found ≡ is_name_sign ip → found ≡ true → ip ≡ address → is_name_sign address ≡ true
signed found ip address is positive same = ap is_name_sign (sym same) ∙ sym is ∙ positive

-- the octets from a place on
pub rest_of : (octets : List ℕ) (place : ℕ) → slice_range octets place (length octets) ≡ drop place octets
rest_of octets place = take_all (length octets - place) (drop place octets) (omega (arith, length-drop place octets))

-- no name is there where no text is
no_target : (octets : List ℕ) (target : Target) (after len : ℕ) → is_name_sign (address_of octets) ≡ true → HasNone (IsText 255) (drop after octets)
    → IsOldTarget octets target after len → ⊥
no_target octets (targets.Address (V4 n)) after len sign none is =
    false≢true (sym (ap is_name_sign (sym is.0) ∙ is.1) ∙ sign)
no_target octets (targets.Address (V6 n)) after len sign none is = is
no_target octets (targets.Name name) after len sign none is = none name is.1.0 is.1.1

pub no_name : (octets : List ℕ) (user : Bor (List ℕ)) (user_len after : ℕ) → IsText 255 (drop 8 octets) user user_len → after ≡ 8 + user_len
    → is_name_sign (address_of octets) ≡ true → HasNone (IsText 255) (drop after octets) → HasNone IsOldRequest octets
no_name octets user user_len after user_is at sign none request len is =
    let same : 8 + is.user_len ≡ after = ap (λ n. 8 + n) (same_len 255 (drop 8 octets) is.user user is.user_len user_len is.user_is user_is) ∙ sym at in
    no_target octets request.target after len sign none (subst (λ n. IsOldTarget octets request.target n len) same is.target)

-- the octets of a USERID are there
room_of : (octets : List ℕ) (user : Bor (List ℕ)) (user_len after : ℕ) → IsText 255 (drop 8 octets) user user_len → after ≡ 8 + user_len
    → (after ≤ length octets) × (8 ≤ length octets)
room_of octets user user_len after is at =
    let within = text_within 255 (drop 8 octets) user user_len is in
    (omega (arith, within, at, is.ends, length-drop 8 octets), omega (arith, within, is.ends, length-drop 8 octets))

user_more : (octets more : List ℕ) (user : Bor (List ℕ)) (user_len : ℕ) → 8 ≤ length octets → IsText 255 (drop 8 octets) user user_len
    → IsText 255 (drop 8 (octets ++ more)) user user_len
user_more octets more user user_len room is =
    subst (λ (xs : List ℕ). IsText 255 xs user user_len) (sym (drop-append-le 8 octets more room)) (text_more 255 (drop 8 octets) more user user_len is)

pub name_not_yet : (octets : List ℕ) (user : Bor (List ℕ)) (user_len after : ℕ) → IsText 255 (drop 8 octets) user user_len → after ≡ 8 + user_len
    → is_name_sign (address_of octets) ≡ true → GoesOn 255 (drop after octets) → HasNone IsOldRequest octets
name_not_yet octets user user_len after user_is at sign on =
    no_name octets user user_len after user_is at sign (not_yet 255 (drop after octets) on)

pub name_too_long : (octets more : List ℕ) (user : Bor (List ℕ)) (user_len after : ℕ) → IsText 255 (drop 8 octets) user user_len
    → after ≡ 8 + user_len → is_name_sign (address_of octets) ≡ true → IsTooLong 255 (drop after octets) → HasNone IsOldRequest (octets ++ more)
name_too_long octets more user user_len after user_is at sign long =
    let room = room_of octets user user_len after user_is at in
    no_name (octets ++ more) user user_len after (user_more octets more user user_len room.1 user_is) at
    (ap (λ (xs : List ℕ). is_name_sign (from_be_bytes w32 xs)) (address-more octets more room.1) ∙ sign)
    (subst (λ (xs : List ℕ). HasNone (IsText 255) xs) (sym (drop-append-le after octets more room.0)) (too_long 255 (drop after octets) long more))

-- a NUL ends the request
pub name_may : (octets : List ℕ) (user : Bor (List ℕ)) (user_len after : ℕ) → IsText 255 (drop 8 octets) user user_len → after ≡ 8 + user_len
    → slice_get octets 0 ≡ Some 4 → slice_get octets 1 ≡ Some 1 → is_name_sign (address_of octets) ≡ true → GoesOn 255 (drop after octets)
    → MayBecome IsOldRequest octets
name_may octets user user_len after user_is at version command sign on =
    let more : List ℕ = 0 ∷ [] in
    let all : List ℕ = octets ++ more in
    let name : Bor (List ℕ) = shown (drop after octets) in
    let count : ℕ = length (drop after octets) + 1 in
    let room = room_of octets user user_len after user_is at in
    let named : IsText 255 (drop (8 + user_len) all) name count =
    subst (λ (xs : List ℕ). IsText 255 xs name count)
    (sym (drop-append-le after octets more room.0) ∙ ap (λ n. drop n all) at)
    (ended 255 (drop after octets) [] on) in (
      more,
      record { target = targets.Name name; port = from_be_bytes w16 (slice_range all 2 4) },
      8 + user_len + count,
      record {
        version = get-more octets more 0 4 version;
        command = get-more octets more 1 1 command;
        port = refl;
        user = user;
        user_len = user_len;
        user_is = user_more octets more user user_len room.1 user_is;
        target = (ap (λ (xs : List ℕ). is_name_sign (from_be_bytes w32 xs)) (address-more octets more room.1) ∙ sign, (count, named, refl));
      },
    )

pub user_too_long : (octets more : List ℕ) → 8 ≤ length octets → IsTooLong 255 (drop 8 octets) → HasNone IsOldRequest (octets ++ more)
user_too_long octets more room long request len is =
    too_long 255 (drop 8 octets) long more is.user is.user_len
    (subst (λ (xs : List ℕ). IsText 255 xs is.user is.user_len) (drop-append-le 8 octets more room) is.user_is)

pub user_not_yet : (octets : List ℕ) → GoesOn 255 (drop 8 octets) → HasNone IsOldRequest octets
user_not_yet octets on request len is = not_yet 255 (drop 8 octets) on is.user is.user_len is.user_is

-- one NUL ends a request with an address, and another one that with a name
user_ended : (octets : List ℕ) → 8 ≤ length octets → slice_get octets 0 ≡ Some 4 → slice_get octets 1 ≡ Some 1 → GoesOn 255 (drop 8 octets)
    → (is_name_sign (address_of octets) ≡ true) ⊎ (is_name_sign (address_of octets) ≡ false) → MayBecome IsOldRequest octets
user_ended octets room version command on (inl sign) =
    let more : List ℕ = 0 ∷ [] in
    let all : List ℕ = octets ++ more in
    let user : Bor (List ℕ) = shown (drop 8 octets) in
    let user_len : ℕ = length (drop 8 octets) + 1 in
    let user_is : IsText 255 (drop 8 all) user user_len =
    subst (λ (xs : List ℕ). IsText 255 xs user user_len) (sym (drop-append-le 8 octets more room)) (ended 255 (drop 8 octets) [] on) in
    let whole : length all ≤ 8 + user_len = omega (arith, length-append octets more, length-drop 8 octets, room) in
    let none : drop (8 + user_len) all ≡ [] = drop_of_length-le all whole in
    let made = name_may all user user_len (8 + user_len) user_is refl (get-more octets more 0 4 version) (get-more octets more 1 1 command)
    (ap (λ (xs : List ℕ). is_name_sign (from_be_bytes w32 xs)) (address-more octets more room) ∙ sign)
    (subst (λ (xs : List ℕ). GoesOn 255 xs) (sym none) (tt, omega arith)) in
    (more ++ made.0, made.1, made.2, subst (λ (xs : List ℕ). IsOldRequest xs made.1 made.2) (append_assoc octets more made.0) made.3)
user_ended octets room version command on (inr sign) =
    let more : List ℕ = 0 ∷ [] in
    let all : List ℕ = octets ++ more in
    let user : Bor (List ℕ) = shown (drop 8 octets) in
    let user_len : ℕ = length (drop 8 octets) + 1 in (
      more,
      record { target = targets.Address (V4 (address_of all)); port = from_be_bytes w16 (slice_range all 2 4) },
      8 + user_len,
      record {
        version = get-more octets more 0 4 version;
        command = get-more octets more 1 1 command;
        port = refl;
        user = user;
        user_len = user_len;
        user_is = subst (λ (xs : List ℕ). IsText 255 xs user user_len) (sym (drop-append-le 8 octets more room)) (ended 255 (drop 8 octets) [] on);
        target = (refl, ap (λ (xs : List ℕ). is_name_sign (from_be_bytes w32 xs)) (address-more octets more room) ∙ sign, refl);
      },
    )

pub user_may : (octets : List ℕ) → 8 ≤ length octets → slice_get octets 0 ≡ Some 4 → slice_get octets 1 ≡ Some 1 → GoesOn 255 (drop 8 octets)
    → MayBecome IsOldRequest octets
user_may octets room version command on =
    user_ended octets room version command on (cases_Bool (is_name_sign (address_of octets)))

pub too_short : (octets : List ℕ) → length octets < 8 → HasNone IsOldRequest octets
too_short octets short request len is =
    let within = text_within 255 (drop 8 octets) is.user is.user_len is.user_is in
    absurd (omega (arith, within, is.user_is.ends, length-drop 8 octets, short))

of_eight : (x y p q a b c d : ℕ) → x ≡ 4 → y ≡ 1 → MayBecome IsOldRequest (x ∷ y ∷ p ∷ q ∷ a ∷ b ∷ c ∷ d ∷ [])
of_eight x y p q a b c d version command =
    user_may (x ∷ y ∷ p ∷ q ∷ a ∷ b ∷ c ∷ d ∷ []) (omega arith) (ap Some version) (ap Some command) (tt, omega arith)

-- what begins so may become a request
pub short_may : (octets : List ℕ) → length octets < 8 → is_other octets 0 4 ≡ false → is_other octets 1 1 ≡ false → MayBecome IsOldRequest octets
short_may [] short version command =
    let made = of_eight 4 1 0 0 0 0 0 0 refl refl in (4 ∷ 1 ∷ 0 ∷ 0 ∷ 0 ∷ 0 ∷ 0 ∷ 0 ∷ made.0, made.1, made.2, made.3)
short_may (x ∷ []) short version command =
    let made = of_eight x 1 0 0 0 0 0 0 (wanted-there x 4 version) refl in (1 ∷ 0 ∷ 0 ∷ 0 ∷ 0 ∷ 0 ∷ 0 ∷ made.0, made.1, made.2, made.3)
short_may (x ∷ y ∷ []) short version command =
    let made = of_eight x y 0 0 0 0 0 0 (wanted-there x 4 version) (wanted-there y 1 command) in
    (0 ∷ 0 ∷ 0 ∷ 0 ∷ 0 ∷ 0 ∷ made.0, made.1, made.2, made.3)
short_may (x ∷ y ∷ p ∷ []) short version command =
    let made = of_eight x y p 0 0 0 0 0 (wanted-there x 4 version) (wanted-there y 1 command) in
    (0 ∷ 0 ∷ 0 ∷ 0 ∷ 0 ∷ made.0, made.1, made.2, made.3)
short_may (x ∷ y ∷ p ∷ q ∷ []) short version command =
    let made = of_eight x y p q 0 0 0 0 (wanted-there x 4 version) (wanted-there y 1 command) in
    (0 ∷ 0 ∷ 0 ∷ 0 ∷ made.0, made.1, made.2, made.3)
short_may (x ∷ y ∷ p ∷ q ∷ a ∷ []) short version command =
    let made = of_eight x y p q a 0 0 0 (wanted-there x 4 version) (wanted-there y 1 command) in
    (0 ∷ 0 ∷ 0 ∷ made.0, made.1, made.2, made.3)
short_may (x ∷ y ∷ p ∷ q ∷ a ∷ b ∷ []) short version command =
    let made = of_eight x y p q a b 0 0 (wanted-there x 4 version) (wanted-there y 1 command) in
    (0 ∷ 0 ∷ made.0, made.1, made.2, made.3)
short_may (x ∷ y ∷ p ∷ q ∷ a ∷ b ∷ c ∷ []) short version command =
    let made = of_eight x y p q a b c 0 (wanted-there x 4 version) (wanted-there y 1 command) in
    (0 ∷ made.0, made.1, made.2, made.3)
short_may (x ∷ y ∷ p ∷ q ∷ a ∷ b ∷ c ∷ d ∷ rest) short version command = absurd (omega (arith, short))
