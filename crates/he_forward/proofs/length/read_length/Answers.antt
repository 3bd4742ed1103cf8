use Rattle.std.proofs.Common.{◌≡◌, ℕ, ◌+◌, ◌*◌, ◌^◌, ◌≤◌, List, get_or, take, sym, ◌∙◌, ap, arith}
use Rattle.std.specs.Char.{digit_value}
use Rattle.std.specs.Str.Parse.{digits_value}
use Rattle.std.proofs.lemmas.Grind.{common_steps}
use Rattle.std.proofs.lemmas.Int.Digits.{digits_value_more}
use Rattle.std.proofs.lemmas.List.{take_all}
use Rattle.he_forward.proofs.Framings.{if_none, too_large}
use Rattle.he_forward.proofs.length.read_length.Goals as goal

pub returns-in_err-checked_mul-clause-none : goal.returns-in_err-checked_mul-clause-none
returns-in_err-checked_mul-clause-none c =
    let text : List ℕ = c.args.text.now in
    let i : ℕ = c.loop-octet.octet-index in
    let more : digits_value 10 (take (i + 1) text) ≡ digits_value 10 (take i text) * 10 + digit_value (get_or text i 0) = digits_value_more 10 text i c.loop-octet-test.true in
    let large : 2 ^ 64 ≤ digits_value 10 (take (i + 1) text) = omega (arith, more, c.loop-octet.invariant.0, c.in_err-checked_mul.ensures) in
    if_none c.from_residual.result (λ count is. too_large text (i + 1) count large is)

pub returns-in_err-length-clause-none : goal.returns-in_err-length-clause-none
returns-in_err-length-clause-none c =
    let text : List ℕ = c.args.text.now in
    let i : ℕ = c.loop-octet.octet-index in
    let more : digits_value 10 (take (i + 1) text) ≡ digits_value 10 (take i text) * 10 + digit_value (get_or text i 0) = digits_value_more 10 text i c.loop-octet-test.true in
    let large : 2 ^ 64 ≤ digits_value 10 (take (i + 1) text) = omega (arith, more, c.loop-octet.invariant.0, c.in_ok-checked_mul.ensures, c.digit.ensures, c.in_err-length.ensures) in
    if_none c.from_residual-in_err-length.result (λ count is. too_large text (i + 1) count large is)

pub returns-clause-found : goal.returns-clause-found
returns-clause-found c =
    let text : List ℕ = c.args.text.now in
    let i : ℕ = c.loop-octet.octet-index in
    let all : take i text ≡ text = take_all i text (omega arith) in
    record {
      some = grind (arith, common_steps, c.is_empty.ensures, c.if-is_empty.false);
      decimal = search;
      is = sym (ap (digits_value 10) all) ∙ c.loop-octet.invariant.0;
      fits = c.loop-octet.invariant.1;
    }
