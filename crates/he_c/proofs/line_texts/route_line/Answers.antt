use Rattle.std.proofs.Common.{◌++◌, ◌∙◌, ap, decimal}
use Rattle.he_write.specs.Written.{host_route_text}
use Rattle.he_c.proofs.LineLaws.{route_is, six_joined}
use Rattle.he_c.proofs.line_texts.route_line.Goals as goal

pub returns : goal.returns
returns c =
    six_joined _ _ _ _ _ _ _ _ _ _ _ _ _ c.new-line.ensures.items c.in_ok-append.ensures c.in_ok-write_prefix.ensures.ok c.in_ok-append-2.ensures
    (c.in_ok-write_number.ensures.ok ∙ ap (λ n. c.append-2.new.line.items ++ decimal n) c.from.ensures) c.in_ok-append_mark.ensures c.in_ok-append-3.ensures
    ∙ route_is c.route_of-route.result ∙ ap host_route_text c.route_of-route.ensures
