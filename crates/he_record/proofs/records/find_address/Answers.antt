use Rattle.std.proofs.Common.{◌≡◌, Bool, rules, sym, tests, ◌∙◌, ap}
use Rattle.std.specs.Prelude.{find, option_map}
use Rattle.std.specs.Borrow.{Bor}
use Rattle.std.proofs.lemmas.Iterator.{YieldsList-from_slice}
use Rattle.std.proofs.lemmas.Iterator.Search.{find_from_yields_List}
use Rattle.he_record.specs.declared.line.RecordLine.{RecordLine}
use Rattle.he_record.specs.Left.{said_of}
use Rattle.he_record.specs.Said.{Said, tells_of}
use Rattle.he_record.proofs.Lines.{find-map}
use Rattle.he_record.proofs.records.find_address.Goals as goal

pub returns : goal.returns
returns c =
    let p : Said → Bool = tells_of c.args.ip in
    let found : option_map (λ (line : Bor RecordLine). line.now) c.find.result ≡ find (λ (line : RecordLine). p (said_of line)) c.args.lines.now =
    find_from_yields_List (λ (line : RecordLine). p (said_of line)) _ _ c.find.result c.find.ensures.ran (YieldsList-from_slice c.args.lines.now cc) (λ x b q k. search (rules, tests)) in
    ap (option_map said_of) (c.copied.ensures ∙ found) ∙ sym (find-map p c.args.lines.now)
