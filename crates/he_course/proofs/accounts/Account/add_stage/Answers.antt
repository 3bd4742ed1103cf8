use Rattle.std.proofs.Common.{◌≡◌, ◌-◌, ◌∙◌, arith, ap, sym, subst, if◌then◌else◌}
use Rattle.he_course.specs.Owners.{IsOwner, owner_in, same_owner}
use Rattle.he_course.proofs.Counting.{some_ticks, ticks_run}
use Rattle.he_course.proofs.accounts.Account.add_stage.Goals as goal

pub loop-at-preserved : goal.loop-at-preserved
loop-at-preserved g c =
    let step = c.until-until.result - c.loop-at.at in
    let before = c.loop-at.invariant in
    record {
      later = omega arith;
      since = omega arith;
      room = λ who valid.
          let old = subst (λ n. IsOwner n who) c.add.ensures.as_many valid in
          let most = before.room who old in
          let added = c.add.ensures.amounts who old in
          let some = some_ticks (same_owner c.owner_at.result who) step in
          omega arith;
      gained = record {
        as_many = c.add.ensures.as_many ∙ before.gained.as_many;
        each = λ who valid.
            let old = subst (λ n. IsOwner n who) (sym before.gained.as_many) valid in
            let added = c.add.ensures.amounts who old in
            let run = ticks_run (owner_in c.args.pauses.now c.args.stage) (owner_in c.args.pauses.now c.args.stage c.loop-at.at)
            c.loop-at.at c.until-until.result who (omega arith) c.until-until.ensures.same in
            let had = before.gained.each who valid in
            let alike : (if same_owner c.owner_at.result who then step else 0)
            ≡ (if same_owner (owner_in c.args.pauses.now c.args.stage c.loop-at.at) who then step else 0) =
            ap (λ o. if same_owner o who then step else 0) c.owner_at.ensures in
            omega arith;
      };
    }
