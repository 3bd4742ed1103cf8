use Rattle.std.proofs.Common.{rules, ◌++◌, ◌∷◌, map, take, ◌∙◌, ap}
use Rattle.he_write.specs.declared.writing.Token.{Token}
use Rattle.he_write.specs.Writing.{token_text, spaced}
use Rattle.he_words.specs.Appending.{Grows}
use Rattle.he_write.proofs.LoopLaws.{one_more_spaced, all_spaced}
use Rattle.he_words.proofs.Appending.{grows_after}
use Rattle.he_write.proofs.writing.write_tokens.Goals as goal

pub returns-in_err-write_spaced : goal.returns-in_err-write_spaced
returns-in_err-write_spaced g c =
    let kept : Grows c.args.out.now.items c.write_spaced.new.out.items =
    grows_after c.args.out.now.items (spaced (map token_text (take c.loop-token.token-index c.args.tokens.now))) c.loop-token.out.items c.write_spaced.new.out.items c.loop-token.invariant c.in_err-write_spaced.ensures in
    search rules

pub loop-token-preserved : goal.loop-token-preserved
loop-token-preserved g c =
    one_more_spaced token_text c.args.tokens.now c.loop-token.token-index c.token-item.result c.args.out.now.items c.loop-token.out.items c.write_spaced.new.out.items
    c.loop-token-test.true c.loop-token.invariant
    (c.in_ok-write_spaced.ensures ∙ ap (λ (token : Token). c.loop-token.out.items ++ 32 ∷ token_text token) c.token-item.is)

pub returns : goal.returns
returns g c = all_spaced token_text c.args.tokens.now c.loop-token.token-index c.args.out.now.items c.loop-token.out.items c.loop-token-test.false c.loop-token.invariant
