use Rattle.std.proofs.Common.{ap, ◌++◌, ◌∙◌, List, ℕ}
use Rattle.he_front.specs.Responses.{response_text}
use Rattle.he_handshake.proofs.reply.http_reply.Goals as goal

pub returns : goal.returns
returns c = (
  c.args.reason.now,
  c.from.ensures ∙ c.in_ok-write_response.ensures
      ∙ ap (λ (xs : List ℕ). xs ++ response_text c.args.ended c.args.reason.now) c.new-text.ensures.items,
)
