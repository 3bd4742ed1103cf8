-- What frames no body.
use Rattle.std.proofs.Common.{◌≡◌, ℕ, ◌^◌, ◌≤◌, Bool, true, false, List, Option, None, Some, take, sym, ◌∙◌, subst, arith}
use Rattle.std.specs.Prelude.{IfNone, ◌&&◌, ◌==◌}
use Rattle.std.specs.Str.Parse.{digits_value}
use Rattle.std.proofs.lemmas.Bool.{false≢true}
use Rattle.std.proofs.lemmas.Str.Parse.{digits_value-take-le}
use Rattle.httparse.specs.declared.spans.HeaderSpan.{HeaderSpan}
use Rattle.he_body.specs.declared.body.Framing.TheVariants.{Chunked, Length}
use Rattle.he_forward.specs.Lengths.{HasLength, IsLength, IsUnframed, by_chunks, coding_count}

no_chunks : (codings : ℕ) (more : Bool) → codings ≡ 0 → (codings == 1 && more) ≡ true → ⊥
no_chunks codings more none is = false≢true (subst (λ n. (n == 1 && more) ≡ true) none is)

-- no transfer coding, and no length
pub no_length : (octets : List ℕ) (fields : List HeaderSpan) (version : ℕ) → coding_count octets fields ≡ 0
    → ((count : ℕ) → HasLength octets fields count → ⊥) → IsUnframed octets fields version
no_length octets fields version none never (Length count) framed = never count framed.1
no_length octets fields version none never Chunked framed = no_chunks (coding_count octets fields) _ none framed

-- a transfer coding, and not chunked alone
pub no_coding : (octets : List ℕ) (fields : List HeaderSpan) (version : ℕ) → (coding_count octets fields ≡ 0 → ⊥)
    → by_chunks octets fields version ≡ false → IsUnframed octets fields version
no_coding octets fields version some not (Length count) framed = some framed.0
no_coding octets fields version some not Chunked framed = false≢true (sym not ∙ framed)

-- a number that is too large from some digit on
pub too_large : (text : List ℕ) (i count : ℕ) → 2 ^ 64 ≤ digits_value 10 (take i text) → IsLength text count → ⊥
too_large text i count large is =
    let part : digits_value 10 (take i text) ≤ digits_value 10 text = digits_value-take-le 10 text i (omega arith) in
    let whole = is.is in
    let fits = is.fits in
    omega arith

pub if_none : {T P : Type 0} (value : Option T) → P → IfNone value P
if_none None is = is
if_none (Some x) is = tt
