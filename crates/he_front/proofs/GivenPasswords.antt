-- What octets begin of a message with a name and a password.
use Rattle.std.proofs.Common.{◌≡◌, ℕ, zero, suc, ◌+◌, ◌-◌, ◌<◌, ◌≤◌, drop, true, false, List, [], ◌∷◌, ◌++◌, length, replicate, Some, refl, sym, ◌∙◌, ap, arith, slice_get, slice_index_or, slice_range}
use Rattle.std.proofs.lemmas.List.{length-drop, length-take}
use Rattle.std.proofs.lemmas.Option.{get_or_from_slice_get, slice_get-get_or, slice_get_within}
use Rattle.std.specs.Borrow.{Bor}
use Rattle.he_front.specs.declared.passwords.Credentials.{Credentials}
use Rattle.he_front.specs.Messages.{HasNone, MayBecome}
use Rattle.he_front.specs.Passwords.{IsPassword}
use Rattle.he_front.specs.Socks.{is_other}
use Rattle.he_front.proofs.Begun.{enough, is-there, not-other, other-more, shown, wanted-there, zeros}

zeros-only : (n place : ℕ) → slice_index_or (zeros n) place 0 ≡ 0
zeros-only zero place = refl
zeros-only (suc n) zero = refl
zeros-only (suc n) (suc place) = zeros-only n place

zeros-behind : (octets : List ℕ) (n place : ℕ) → slice_index_or (octets ++ zeros n) place 0 ≡ slice_index_or octets place 0
zeros-behind [] n place = zeros-only n place
zeros-behind (x ∷ octets) n zero = refl
zeros-behind (x ∷ octets) n (suc place) = zeros-behind octets n place

range-len : (octets : List ℕ) (from n : ℕ) → from + n ≤ length octets → length (slice_range octets from (from + n)) ≡ n
range-len octets from n room = omega (arith, length-take (from + n - from) (drop from octets), length-drop from octets, room)

-- more octets make a message of what has the length of its name
password-of-two : (x u : ℕ) (rest : List ℕ) → x ≡ 1 → MayBecome IsPassword (x ∷ u ∷ rest)
password-of-two x u rest version =
    let octets : List ℕ = x ∷ u ∷ rest in
    let p : ℕ = slice_index_or octets (2 + u) 0 in
    let n : ℕ = 2 + u + 1 + p in
    let all : List ℕ = octets ++ zeros n in
    let room : n ≤ length all = enough octets n in
    let name_len : length (slice_range all 2 (2 + u)) ≡ u = range-len all 2 u (omega (arith, room)) in
    let password_len : length (slice_range all (2 + u + 1) (2 + u + 1 + p)) ≡ p = range-len all (2 + u + 1) p room in
    let there : slice_get all (2 + u) ≡ Some (slice_index_or all (2 + u) 0) = slice_get-get_or all (2 + u) 0 (omega (arith, room)) in (
      zeros n,
      record { name = shown (slice_range all 2 (2 + u)); password = shown (slice_range all (2 + u + 1) (2 + u + 1 + p)) },
      n,
      record {
        version = ap Some version;
        name_len = ap Some (sym name_len);
        after = 2 + u;
        name_ends = ap (λ k. 2 + k) (sym name_len);
        name = refl;
        password_len = there ∙ ap Some (zeros-behind octets n (2 + u) ∙ sym password_len);
        password = refl;
        ends = ap (λ k. 2 + u + 1 + k) (sym password_len);
        whole = room;
      },
    )

pub password-may : (octets : List ℕ) → is_other octets 0 1 ≡ false → MayBecome IsPassword octets
password-may [] version = let made = password-of-two 1 0 [] refl in (1 ∷ 0 ∷ made.0, made.1, made.2, made.3)
password-may (x ∷ []) version =
    let made = password-of-two x 0 [] (wanted-there x 1 version) in (0 ∷ made.0, made.1, made.2, made.3)
password-may (x ∷ u ∷ rest) version = password-of-two x u rest (wanted-there x 1 version)

pub other-version : (octets more : List ℕ) → is_other octets 0 1 ≡ true → HasNone IsPassword (octets ++ more)
other-version octets more other given len is = not-other (octets ++ more) 0 1 refl is.version (other-more octets more 0 1 other)

-- the length of the name is not there
pub no-length : (octets : List ℕ) → length octets < 2 → HasNone IsPassword octets
no-length octets short given len is = absurd (omega (arith, slice_get_within octets 1 (length given.name.now) is.name_len, short))

name-ends : (octets : List ℕ) (given : Credentials) (len : ℕ) → (is : IsPassword octets given len) → is.after ≡ 2 + slice_index_or octets 1 0
name-ends octets given len is =
    is.name_ends ∙ ap (λ k. 2 + k) (sym (get_or_from_slice_get octets 1 (length given.name.now) 0 is.name_len))

-- the length of the password is not there
pub no-password : (octets : List ℕ) → length octets ≤ 2 + slice_index_or octets 1 0 → HasNone IsPassword octets
no-password octets short given len is =
    absurd (omega (arith, name-ends octets given len is, slice_get_within octets is.after (length given.password.now) is.password_len, short))

-- the password is not whole
pub part-of-password : (octets : List ℕ) (after : ℕ) → after ≡ 2 + slice_index_or octets 1 0
    → length octets < after + 1 + slice_index_or octets after 0 → HasNone IsPassword octets
part-of-password octets after at short given len is =
    let same : is.after ≡ after = name-ends octets given len is ∙ sym at in
    let counted : slice_index_or octets after 0 ≡ length given.password.now =
    get_or_from_slice_get octets after (length given.password.now) 0 (ap (λ place. slice_get octets place) (sym same) ∙ is.password_len) in
    absurd (omega (arith, same, counted, is.ends, is.whole, short))

-- the message is whole
pub password-whole : (octets : List ℕ) (after : ℕ) (name password : Bor (List ℕ)) → is_other octets 0 1 ≡ false
    → after ≡ 2 + slice_index_or octets 1 0 → after < length octets → after + 1 + slice_index_or octets after 0 ≤ length octets
    → name.now ≡ slice_range octets 2 after → password.now ≡ slice_range octets (after + 1) (after + 1 + slice_index_or octets after 0)
    → IsPassword octets (record { name = name; password = password }) (after + 1 + slice_index_or octets after 0)
password-whole octets after name password version at inside room is_name is_password =
    let name_len : length name.now ≡ slice_index_or octets 1 0 =
    ap length (is_name ∙ ap (λ k. slice_range octets 2 k) at) ∙ range-len octets 2 (slice_index_or octets 1 0) (omega (arith, at, inside)) in
    let password_len : length password.now ≡ slice_index_or octets after 0 =
    ap length is_password ∙ range-len octets (after + 1) (slice_index_or octets after 0) room in
    record {
      version = is-there octets 0 1 (omega (arith, inside)) version;
      name_len = slice_get-get_or octets 1 0 (omega (arith, at, inside)) ∙ ap Some (sym name_len);
      after = after;
      name_ends = at ∙ ap (λ k. 2 + k) (sym name_len);
      name = is_name;
      password_len = slice_get-get_or octets after 0 inside ∙ ap Some (sym password_len);
      password = is_password;
      ends = ap (λ k. after + 1 + k) (sym password_len);
      whole = room;
    }
