use Rattle.std.proofs.Common.{◌≡◌, ◌++◌, ◌∙◌, List, ap, map, subst, take}
use Rattle.std.specs.List.{flat_map}
use Rattle.std.proofs.lemmas.List.{take_all}
use Rattle.he_record.specs.Left.{said_of}
use Rattle.he_record.specs.Said.{Said}
use Rattle.he_totals.specs.Tries.{AreTallies, Try, server_tries}
use Rattle.he_totals.proofs.Tallied.{servers_on}
use Rattle.he_totals.proofs.tallies.Tallies.add_servers.Goals as goal

pub loop-line-preserved : goal.loop-line-preserved
loop-line-preserved g c = λ tries are.
    let before = tries ++ flat_map server_tries (map said_of (take c.loop-line.line-index c.lines-line-items.result.now)) in
    subst (λ (t : List Try). AreTallies t c.add_server.new.self) (servers_on c.lines-line-items.result.now c.loop-line.line-index _ tries c.loop-line-test.true)
    (c.in_ok-add_server.ensures before (c.loop-line.invariant tries are))

pub returns : goal.returns
returns g c = λ tries are.
    let lines : map said_of (take c.loop-line.line-index c.lines-line-items.result.now) ≡ c.args.told.now =
    ap (map said_of) (take_all c.loop-line.line-index c.lines-line-items.result.now c.loop-line-test.false) ∙ c.lines-line-items.ensures.value in
    subst (λ (s : List Said). AreTallies (tries ++ flat_map server_tries s) c.loop-line.self) lines (c.loop-line.invariant tries are)
