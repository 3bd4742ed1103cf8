use Rattle.std.proofs.Common.{inr, subst}
use Rattle.he_connect.specs.Races.{IsRun}
use Rattle.he_setup.specs.declared.request.ConnectRequest.{ConnectRequest}
use Rattle.he_command.proofs.Kept.{kept_after}
use Rattle.he_command.proofs.connection.run_connect.Goals as goal

pub returns-in-Ok-race : goal.returns-in-Ok-race
returns-in-Ok-race g c =
    let run = c.in-Ok-race.run' in
    inr (
      c.in-Ok.port,
      run.text.items,
      run.story.items,
      run.connection,
      c.keep_record-kept.new.session.output,
      c.keep_record-kept.result,
      c.in-Ok.ensures.number,
      subst (λ (request : ConnectRequest). IsRun request run.text.items run.story.items run.connection) c.race_of-request.ensures c.in-Ok-race.ensures,
      kept_after _ g.O.OutputStream c.args.connection.now.record _ run.text.items c.number_of.new.session.output c.args.session.now.output c.keep_record-kept.new.session.output c.keep_record-kept.result c.number_of.ensures.output c.deref.ensures.value c.keep_record-kept.ensures,
      c.end_race.ensures,
    )
