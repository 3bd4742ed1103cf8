use Rattle.std.proofs.Common.{◌≡◌, ◌++◌, ◌∙◌, [], drop, map, sym, subst}
use Rattle.std.specs.List.{flat_map}
use Rattle.std.proofs.lemmas.List.{append-nil, drop_all}
use Rattle.std.proofs.lemmas.List.Folds.{flat_map-map}
use Rattle.he_record.specs.Given.{nat64_of}
use Rattle.he_record.specs.Left.{said_of}
use Rattle.he_record.specs.declared.line.RecordLine.{RecordLine}
use Rattle.he_record.proofs.records.nat64_on.Goals as goal

pub returns : goal.returns
returns g c =
    let lines = c.args.lines.now in
    let prefixes = c.loop-line.prefixes.items in
    let all : prefixes ++ flat_map (λ (line : RecordLine). nat64_of (said_of line)) []
    ≡ flat_map (λ (line : RecordLine). nat64_of (said_of line)) lines =
    subst (λ xs. prefixes ++ flat_map (λ (line : RecordLine). nat64_of (said_of line)) xs
    ≡ flat_map (λ (line : RecordLine). nat64_of (said_of line)) lines)
    (drop_all c.loop-line.line-index lines c.loop-line-test.false) c.loop-line.invariant in
    sym (append-nil prefixes) ∙ all ∙ sym (flat_map-map nat64_of said_of lines)
