use Rattle.std.proofs.Common.{rules, ◌≡◌, ap, ◌∙◌, sym}
use Rattle.std.specs.List.{find}
use Rattle.std.specs.Option.{option_map}
use Rattle.std.proofs.lemmas.Iterator.{YieldsList-from_slice}
use Rattle.std.proofs.lemmas.Iterator.Search.{find_from_yields_List}
use Rattle.he_access.specs.Table.{has, said_by}
use Rattle.he_access.specs.declared.table.Range.{Range}
use Rattle.he_access.proofs.table.first_says.Goals as goal

pub returns-in-Some : goal.returns-in-Some
returns-in-Some c =
    let found : option_map (λ x. x.now) c.find.result ≡ find (λ (r : Range). has r c.args.number) c.args.ranges.now =
    find_from_yields_List (λ r. has r c.args.number) _ _ _ c.find.ensures.ran (YieldsList-from_slice c.args.ranges.now cc) (λ x b q k. search rules) in
    ap (λ o. said_by (option_map (λ x. x.now) o)) (sym c.in-Some.is) ∙ ap said_by found

pub returns-in-None : goal.returns-in-None
returns-in-None c =
    let found : option_map (λ x. x.now) c.find.result ≡ find (λ (r : Range). has r c.args.number) c.args.ranges.now =
    find_from_yields_List (λ r. has r c.args.number) _ _ _ c.find.ensures.ran (YieldsList-from_slice c.args.ranges.now cc) (λ x b q k. search rules) in
    ap (λ o. said_by (option_map (λ x. x.now) o)) (sym c.in-None.is) ∙ ap said_by found
