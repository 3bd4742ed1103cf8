use Rattle.std.proofs.Common.{◌-◌, arith, drop, refl}
use Rattle.he_streaming.specs.Rounds.{IsAsked}
use Rattle.he_streaming.proofs.RoundEnd.{longer_told, none_told}
use Rattle.he_streaming.proofs.pieces.tell_range.Goals as goal

pub returns-clause-told : goal.returns-clause-told
returns-clause-told g c =
    let none = none_told (IsAsked c.args.asked.now) _ (record { end = 0; races = 0; lines = 0 }) _ refl (omega arith) c.requires.none in
    longer_told (IsAsked c.args.asked.now) (drop c.args.range.start c.args.bytes.now) _ (c.args.range.end - c.args.range.start) 0 0 _ (c.in_ok-told.ensures.told.on 0 0 none)
