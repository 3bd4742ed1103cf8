use Rattle.std.proofs.Common.{◌≡◌, ◌++◌, map, take}
use Rattle.he_write.specs.Writing.{token_text, spaced}
use Rattle.he_write.proofs.writing.write_tokens.Given as goal

abbrev pub invariant-loop-token : goal.invariant-loop-token
invariant-loop-token g l = l.out.items ≡ l.fn.out.items ++ spaced (map token_text (take l.token-index l.tokens))
