-- A refusal is told from a success by its first octets.
use Rattle.std.proofs.Common.{◌≡◌, ◌≢◌, ◌⊎◌, ℕ, ◌+◌, ◌/◌, ◌%◌, ◌^◌, ◌<◌, ◌≤◌, List, [], ◌∷◌, ◌++◌, decimal, get_or, refl, sym, ap, ◌∙◌, inl, inr, arith}
use Rattle.std.proofs.lemmas.Fmt.{decimal_digit, decimal_step}
use Rattle.he_front.specs.Replies.{code_of, old_code_of}
use Rattle.he_front.specs.Responses.{head_text, response_text, status_text}
use Rattle.he_front.specs.declared.replies.Ended.{Ended}
use Rattle.he_front.specs.declared.replies.Ended.TheVariants as ends
use Rattle.he_front.specs.declared.socks.Method.TheVariants as ways
use Rattle.he_users.specs.declared.users.Users.{Users}
use Rattle.he_handshake.specs.Asks.{IsFailure}
use Rattle.he_sessions.specs.Laws.{NoRefusalSucceeds}
use Rattle.he_sessions.specs.Talks.{IsToldOf, IsTurnedAway}
use Rattle.he_handshake.specs.declared.asking.Protocol.{Protocol}
use Rattle.he_handshake.specs.declared.asking.Protocol.TheVariants as protocols

-- the octet at this place
abbrev at : List ℕ → ℕ → ℕ
at octets place = get_or octets place 0

clash : (a b : ℕ) → a ≢ b → a ≡ b → ⊥
clash a b other same = other same

code_fails : (ended : Ended) → IsFailure ended → code_of ended ≢ 0
code_fails ends.Connected failure same = failure
code_fails ends.Failed failure same = omega arith
code_fails ends.Forbidden failure same = omega arith
code_fails ends.NoUser failure same = omega arith
code_fails ends.NoNetwork failure same = omega arith
code_fails ends.NoHost failure same = omega arith
code_fails ends.TimedOut failure same = omega arith
code_fails ends.Refused failure same = omega arith
code_fails ends.Command failure same = omega arith
code_fails ends.Kind failure same = omega arith
code_fails ends.Coding failure same = omega arith

old_code_fails : (ended : Ended) → IsFailure ended → old_code_of ended ≢ 90
old_code_fails ends.Connected failure same = failure
old_code_fails ends.Failed failure same = omega arith
old_code_fails ends.Forbidden failure same = omega arith
old_code_fails ends.NoUser failure same = omega arith
old_code_fails ends.NoNetwork failure same = omega arith
old_code_fails ends.NoHost failure same = omega arith
old_code_fails ends.TimedOut failure same = omega arith
old_code_fails ends.Refused failure same = omega arith
old_code_fails ends.Command failure same = omega arith
old_code_fails ends.Kind failure same = omega arith
old_code_fails ends.Coding failure same = omega arith

-- a number of three digits
three_digits : (n : ℕ) → 10 ≤ n → n < 2 ^ 64 → 10 ≤ n / 10 → n / 10 < 2 ^ 64 → n / 10 / 10 < 10
    → decimal n ≡ (48 + n / 10 / 10) ∷ (48 + n / 10 % 10) ∷ (48 + n % 10) ∷ []
three_digits n two few more less one =
    decimal_step n two few ∙ ap (λ xs. xs ++ (48 + n % 10) ∷ []) (decimal_step (n / 10) more less
    ∙ ap (λ xs. xs ++ (48 + n / 10 % 10) ∷ []) (decimal_digit (n / 10 / 10) one))

-- "HTTP/1.1 ", and the first digit of the status
http_success : (reason more : List ℕ) → (at (response_text ends.Connected reason ++ more) 0 ≡ 72) × (at (response_text ends.Connected reason ++ more) 9 ≡ 50)
unfolding status_text
http_success reason more = (refl, rw (three_digits 200 (omega arith) (omega arith) (omega arith) (omega arith) (omega arith)) refl)

http_failure : (ended : Ended) → IsFailure ended → (reason : List ℕ) → (at (response_text ended reason) 0 ≡ 72) × (at (response_text ended reason) 9 ≢ 50)
unfolding head_text status_text
http_failure ends.Connected failure reason = absurd failure
http_failure ends.Failed failure reason = (refl, λ e. clash 53 50 (omega arith) (rw (three_digits 500 (omega arith) (omega arith) (omega arith) (omega arith) (omega arith)) at e))
http_failure ends.Forbidden failure reason = (refl, λ e. clash 52 50 (omega arith) (rw (three_digits 403 (omega arith) (omega arith) (omega arith) (omega arith) (omega arith)) at e))
http_failure ends.NoUser failure reason = (refl, λ e. clash 52 50 (omega arith) (rw (three_digits 407 (omega arith) (omega arith) (omega arith) (omega arith) (omega arith)) at e))
http_failure ends.NoNetwork failure reason = (refl, λ e. clash 53 50 (omega arith) (rw (three_digits 502 (omega arith) (omega arith) (omega arith) (omega arith) (omega arith)) at e))
http_failure ends.NoHost failure reason = (refl, λ e. clash 53 50 (omega arith) (rw (three_digits 502 (omega arith) (omega arith) (omega arith) (omega arith) (omega arith)) at e))
http_failure ends.TimedOut failure reason = (refl, λ e. clash 53 50 (omega arith) (rw (three_digits 504 (omega arith) (omega arith) (omega arith) (omega arith) (omega arith)) at e))
http_failure ends.Refused failure reason = (refl, λ e. clash 53 50 (omega arith) (rw (three_digits 502 (omega arith) (omega arith) (omega arith) (omega arith) (omega arith)) at e))
http_failure ends.Command failure reason = (refl, λ e. clash 53 50 (omega arith) (rw (three_digits 501 (omega arith) (omega arith) (omega arith) (omega arith) (omega arith)) at e))
http_failure ends.Kind failure reason = (refl, λ e. clash 52 50 (omega arith) (rw (three_digits 400 (omega arith) (omega arith) (omega arith) (omega arith) (omega arith)) at e))
http_failure ends.Coding failure reason = (refl, λ e. clash 53 50 (omega arith) (rw (three_digits 501 (omega arith) (omega arith) (omega arith) (omega arith) (omega arith)) at e))

-- a success after the answer to a greeting, after those to a greeting and a password, of HTTP, or of SOCKS 4
abbrev Succeeds : List ℕ → Type 0
Succeeds octets =
    ((at octets 0 ≡ 5) × (at octets 1 ≡ 0) × (at octets 3 ≡ 0))
    ⊎ (((at octets 0 ≡ 5) × (at octets 1 ≡ 2) × (at octets 3 ≡ 0) × (at octets 5 ≡ 0))
    ⊎ (((at octets 0 ≡ 72) × (at octets 9 ≡ 50)) ⊎ ((at octets 0 ≡ 0) × (at octets 1 ≡ 90))))

succeeds : (protocol : Protocol) (told more : List ℕ) → IsToldOf protocol ends.Connected told → Succeeds (told ++ more)
succeeds protocols.OldSocks told more of = inr (inr (inr (rw (of.whole, of.replied) (refl, refl))))
succeeds (protocols.Socks ways.Open) told more of = inl (rw (of.whole, of.replied) (refl, refl, refl))
succeeds (protocols.Socks ways.Password) told more of = inr (inl (rw (of.whole, of.replied) (refl, refl, refl, refl)))
succeeds protocols.Http told more of = inr (inr (inl (rw (of.whole, of.replied.1) (http_success of.replied.0 more))))

fails : (protocol : Protocol) (ended : Ended) (told : List ℕ) → IsFailure ended → IsToldOf protocol ended told → Succeeds told → ⊥
fails protocols.OldSocks ended told failure of (inl (first, second, fourth)) =
    let e : ◌≡◌ {A = ℕ} 0 5 = sym (ap (λ xs. at xs 0) (of.whole ∙ of.replied)) ∙ first in omega arith
fails protocols.OldSocks ended told failure of (inr (inl (first, second, fourth, sixth))) =
    let e : ◌≡◌ {A = ℕ} 0 5 = sym (ap (λ xs. at xs 0) (of.whole ∙ of.replied)) ∙ first in omega arith
fails protocols.OldSocks ended told failure of (inr (inr (inl (first, status)))) =
    let e : ◌≡◌ {A = ℕ} 0 72 = sym (ap (λ xs. at xs 0) (of.whole ∙ of.replied)) ∙ first in omega arith
fails protocols.OldSocks ended told failure of (inr (inr (inr (first, code)))) =
    old_code_fails ended failure (sym (ap (λ xs. at xs 1) (of.whole ∙ of.replied)) ∙ code)
fails (protocols.Socks ways.Open) ended told failure of (inl (first, second, fourth)) =
    code_fails ended failure (sym (ap (λ xs. at xs 3) (of.whole ∙ ap (λ xs. 5 ∷ 0 ∷ xs) of.replied)) ∙ fourth)
fails (protocols.Socks ways.Open) ended told failure of (inr (inl (first, second, fourth, sixth))) =
    let e : ◌≡◌ {A = ℕ} 0 2 = sym (ap (λ xs. at xs 1) of.whole) ∙ second in omega arith
fails (protocols.Socks ways.Open) ended told failure of (inr (inr (inl (first, status)))) =
    let e : ◌≡◌ {A = ℕ} 5 72 = sym (ap (λ xs. at xs 0) of.whole) ∙ first in omega arith
fails (protocols.Socks ways.Open) ended told failure of (inr (inr (inr (first, code)))) =
    let e : ◌≡◌ {A = ℕ} 5 0 = sym (ap (λ xs. at xs 0) of.whole) ∙ first in omega arith
fails (protocols.Socks ways.Password) ended told failure of (inl (first, second, fourth)) =
    let e : ◌≡◌ {A = ℕ} 2 0 = sym (ap (λ xs. at xs 1) of.whole) ∙ second in omega arith
fails (protocols.Socks ways.Password) ended told failure of (inr (inl (first, second, fourth, sixth))) =
    code_fails ended failure (sym (ap (λ xs. at xs 5) (of.whole ∙ ap (λ xs. 5 ∷ 2 ∷ 1 ∷ 0 ∷ xs) of.replied)) ∙ sixth)
fails (protocols.Socks ways.Password) ended told failure of (inr (inr (inl (first, status)))) =
    let e : ◌≡◌ {A = ℕ} 5 72 = sym (ap (λ xs. at xs 0) of.whole) ∙ first in omega arith
fails (protocols.Socks ways.Password) ended told failure of (inr (inr (inr (first, code)))) =
    let e : ◌≡◌ {A = ℕ} 5 0 = sym (ap (λ xs. at xs 0) of.whole) ∙ first in omega arith
fails protocols.Http ended told failure of (inl (first, second, fourth)) =
    let e : ◌≡◌ {A = ℕ} 72 5 = sym (ap (λ xs. at xs 0) (of.whole ∙ of.replied.1) ∙ (http_failure ended failure of.replied.0).0) ∙ first in omega arith
fails protocols.Http ended told failure of (inr (inl (first, second, fourth, sixth))) =
    let e : ◌≡◌ {A = ℕ} 72 5 = sym (ap (λ xs. at xs 0) (of.whole ∙ of.replied.1) ∙ (http_failure ended failure of.replied.0).0) ∙ first in omega arith
fails protocols.Http ended told failure of (inr (inr (inl (first, status)))) =
    (http_failure ended failure of.replied.0).1 (sym (ap (λ xs. at xs 9) (of.whole ∙ of.replied.1)) ∙ status)
fails protocols.Http ended told failure of (inr (inr (inr (first, code)))) =
    let e : ◌≡◌ {A = ℕ} 72 0 = sym (ap (λ xs. at xs 0) (of.whole ∙ of.replied.1) ∙ (http_failure ended failure of.replied.0).0) ∙ first in omega arith

-- that no method will do
no_method : (told : List ℕ) → told ≡ 5 ∷ 255 ∷ [] → Succeeds told → ⊥
no_method told is (inl (first, second, fourth)) = let e : ◌≡◌ {A = ℕ} 255 0 = sym (ap (λ xs. at xs 1) is) ∙ second in omega arith
no_method told is (inr (inl (first, second, fourth, sixth))) = let e : ◌≡◌ {A = ℕ} 255 2 = sym (ap (λ xs. at xs 1) is) ∙ second in omega arith
no_method told is (inr (inr (inl (first, status)))) = let e : ◌≡◌ {A = ℕ} 5 72 = sym (ap (λ xs. at xs 0) is) ∙ first in omega arith
no_method told is (inr (inr (inr (first, code)))) = let e : ◌≡◌ {A = ℕ} 5 0 = sym (ap (λ xs. at xs 0) is) ∙ first in omega arith

-- that the name and the password are those of no user
no_user : (told : List ℕ) → told ≡ 5 ∷ 2 ∷ 1 ∷ 1 ∷ [] → Succeeds told → ⊥
no_user told is (inl (first, second, fourth)) = let e : ◌≡◌ {A = ℕ} 2 0 = sym (ap (λ xs. at xs 1) is) ∙ second in omega arith
no_user told is (inr (inl (first, second, fourth, sixth))) = let e : ◌≡◌ {A = ℕ} 1 0 = sym (ap (λ xs. at xs 3) is) ∙ fourth in omega arith
no_user told is (inr (inr (inl (first, status)))) = let e : ◌≡◌ {A = ℕ} 5 72 = sym (ap (λ xs. at xs 0) is) ∙ first in omega arith
no_user told is (inr (inr (inr (first, code)))) = let e : ◌≡◌ {A = ℕ} 5 0 = sym (ap (λ xs. at xs 0) is) ∙ first in omega arith

unlike : (users : Users) (ended : Ended) (refused : List ℕ) → IsTurnedAway users ended refused → Succeeds refused → ⊥
unlike users ended refused (inl none) success = no_method refused none.0 success
unlike users ended refused (inr (inl none)) success = no_user refused none.0 success
unlike users ended refused (inr (inr is)) success = fails is.protocol ended refused is.failure is.told_of success

pub no_refusal_succeeds : NoRefusalSucceeds
no_refusal_succeeds users ended refused asked asks told more away opened same =
    unlike users ended refused away (rw same (succeeds opened.protocol told more opened.told_of))
