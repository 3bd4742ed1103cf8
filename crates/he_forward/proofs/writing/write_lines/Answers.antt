use Rattle.std.proofs.Common.{List, ℕ, ap, codes}
use Rattle.httparse.specs.Grammar.{print_field}
use Rattle.he_forward.specs.Forwards.{line, origin, version_text, via}
use Rattle.he_forward.specs.Written.{kept_text}
use Rattle.he_forward.proofs.Lines.{add, add_as}
use Rattle.he_forward.proofs.writing.write_lines.Goals as goal

pub returns : goal.returns
returns g c =
    let by : List ℕ → List ℕ = λ value. print_field (line (codes "Via") value) in
    add (codes "\r\n") c.in_ok-extend_from_slice-4.ensures.items
    (add (print_field (line (codes "Connection") (codes "close"))) c.in_ok-write_line-3.ensures
    (add_as (by c.via.result.now) (by (via c.args.version)) (ap by c.via.ensures) c.in_ok-write_line-2.ensures
    (add (kept_text c.args.octets.now c.args.fields.now c.args.fields.now) c.in_ok-write_kept.ensures
    (add (print_field (line (codes "Host") c.args.authority.now)) c.in_ok-write_line.ensures
    (add_as c.version_text.result.now (version_text c.args.version) c.version_text.ensures c.in_ok-extend_from_slice-3.ensures.items
    (add (origin c.args.method.now c.args.path.now) c.in_ok-write_origin.ensures
    (add (codes " ") c.in_ok-extend_from_slice-2.ensures.items c.in_ok-extend_from_slice.ensures.items)))))))
