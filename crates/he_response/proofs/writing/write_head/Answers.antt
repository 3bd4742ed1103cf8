use Rattle.std.proofs.Common.{List, ℕ, ◌∙◌, ap, codes}
use Rattle.httparse.specs.Grammar.{print_field}
use Rattle.he_forward.proofs.Lines.{add, add_as}
use Rattle.he_forward.specs.Forwards.{line, via}
use Rattle.he_response.proofs.Lines.{printed}
use Rattle.he_response.specs.Written.{closing_text, kept_text, status_text}
use Rattle.he_response.proofs.writing.write_head.Goals as goal

pub returns : goal.returns
returns c =
    let code : ℕ = c.args.spans.now.code in
    let by : List ℕ → List ℕ = λ value. print_field (line (codes "Via") value) in
    add (codes "\r\n") c.in_ok-extend_from_slice.ensures.items
    (add (closing_text code) c.in_ok-write_closing.ensures
    (add_as (by c.via.result.now) (by (via c.args.spans.now.version)) (ap by c.via.ensures) c.in_ok-write_line.ensures
    (add (kept_text c.args.octets.now c.args.fields.now c.args.fields.now) c.in_ok-write_kept.ensures
    (c.in_ok-out.ensures ∙ ap (status_text code) c.of.ensures))))
    ∙ printed c.args.octets.now c.args.fields.now c.args.spans.now
