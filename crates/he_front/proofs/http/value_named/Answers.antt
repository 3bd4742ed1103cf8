use Rattle.std.proofs.Common.{◌∙◌, Option, ap, sym}
use Rattle.std.specs.Option.{option_map}
use Rattle.httparse.specs.declared.spans.HeaderSpan.{HeaderSpan}
use Rattle.httparse.specs.Spans.{span_bytes}
use Rattle.he_front.proofs.Named.{value_of_named}
use Rattle.he_front.proofs.http.value_named.Goals as goal

pub returns-in-Some-clause-value : goal.returns-in-Some-clause-value
returns-in-Some-clause-value c =
    ap (λ (found : Option HeaderSpan). option_map (span_bytes c.args.octets.now) (option_map (λ field. field.value) found)) (sym c.in-Some.is ∙ c.field_named.ensures.field)
    ∙ value_of_named c.args.octets.now c.args.name.now c.args.fields.now

pub returns-in-None-clause-value : goal.returns-in-None-clause-value
returns-in-None-clause-value c =
    ap (λ (found : Option HeaderSpan). option_map (span_bytes c.args.octets.now) (option_map (λ field. field.value) found)) (sym c.in-None.is ∙ c.field_named.ensures.field)
    ∙ value_of_named c.args.octets.now c.args.name.now c.args.fields.now
