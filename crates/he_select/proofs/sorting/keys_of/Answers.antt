use Rattle.std.proofs.Common.{◌++◌, List, ap}
use Rattle.he_select.specs.declared.ranking.Key.{Key}
use Rattle.he_select.specs.DestinationKeys.{keys_of}
use Rattle.he_select.proofs.Stepping.{all_keyed, one_more_key}
use Rattle.he_select.proofs.sorting.keys_of.Goals as goal

pub loop-place-preserved : goal.loop-place-preserved
loop-place-preserved g c =
    one_more_key c.args.all_attributes.now c.loop-place.place _ c.loop-place.keys.items _ _ c.key.result c.loop-place-test.true c.loop-place.invariant c.in_ok-push.ensures.items c.key.ensures

pub loop-place-init : goal.loop-place-init
loop-place-init g c = ap (λ (l : List Key). l ++ keys_of 0 c.args.all_attributes.now) c.in_ok-keys.ensures.items

pub returns : goal.returns
returns g c = all_keyed c.args.all_attributes.now c.loop-place.place c.loop-place.keys.items _ c.loop-place-test.false c.loop-place.invariant
