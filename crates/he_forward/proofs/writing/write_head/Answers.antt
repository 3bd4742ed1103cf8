use Rattle.std.proofs.Common.{List, ℕ, ◌∙◌, ◌++◌, ap}
use Rattle.httparse.specs.Grammar.{print_request}
use Rattle.he_forward.specs.Forwards.{forwarded, origin}
use Rattle.he_forward.proofs.Lines.{printed}
use Rattle.he_forward.proofs.writing.write_head.Goals as goal

pub returns : goal.returns
returns g c =
    let head : List ℕ = print_request (forwarded c.args.octets.now c.args.fields.now c.args.method.now c.args.authority.now (origin c.args.method.now c.args.path.now) c.args.version) in
    c.in_ok-write_lines.ensures
    ∙ printed c.args.octets.now c.args.fields.now c.args.method.now c.args.authority.now (origin c.args.method.now c.args.path.now) c.args.version c.new-out.result.items
    ∙ ap (λ (t : List ℕ). t ++ head) c.new-out.ensures.items
