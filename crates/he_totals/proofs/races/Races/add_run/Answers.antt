use Rattle.std.proofs.Common.{ℕ, ◌++◌, List, OnOk, sym, ap, subst}
use Rattle.std.proofs.lemmas.Result.{on_ok_weaker}
use Rattle.he_course.specs.Accounts.{end_of}
use Rattle.he_course.specs.Amounts.{times_of}
use Rattle.he_plan.specs.declared.transcript.Line.{Line}
use Rattle.he_totals.specs.Hosts.{HasTried}
use Rattle.he_totals.specs.Kept.{Run}
use Rattle.he_totals.specs.Summed.{HasSummed, Sums}
use Rattle.he_totals.specs.Tries.{AreTallies, Try, tries_of, tries_on}
use Rattle.he_totals.proofs.Loops.{for_each}
use Rattle.he_totals.proofs.Walked.{summed_on}
use Rattle.he_totals.proofs.races.Races.add_run.Goals as goal

pub returns : goal.returns
returns g c =
    let run : Run = record { row = c.args.at.0; place = c.args.at.1; said = c.args.told.now; race = c.args.race.now; report = c.args.transcript.now; charges = c.args.account.now.tried.items; times = times_of (end_of c.args.transcript.now) c.args.account.now } in
    let old : Sums = record { settings = c.self.inside.settings.items; kept = c.self.inside.kept.items; tallies = c.self.inside.tallies; servers = c.self.inside.servers; hosts = c.self.inside.hosts } in
    let new : Sums = record { settings = c.self.inside.settings.items; kept = c.push.new.self.items; tallies = c.add.new.self; servers = c.add_servers.new.self; hosts = c.add_host.new.self } in
    on_ok_weaker c.add.result
    (λ tallied. record {
      settings = ap (λ (s : Sums). s.settings) c.self.view_is;
      sums = λ before has. summed_on old new run c.of.result before c.in_ok-push.ensures.items c.of.ensures tallied c.in_ok-add_servers.ensures c.in_ok-add_host.ensures.named
          (subst (λ (lines : List Line). HasTried c.args.told.now lines c.self.inside.hosts c.add_host.new.self) c.attempts.ensures c.in_ok-add_host.ensures.paired) (subst (λ (s : Sums). HasSummed s before) (sym c.self.view_is) has);
    })
    (for_each (λ (t : List Try). AreTallies t c.self.inside.tallies) (λ (t : List Try). AreTallies (t ++ tries_of run) c.add.new.self) c.add.result
    (subst (λ (lines : List Line). (tries : List Try) → AreTallies tries c.self.inside.tallies → OnOk c.add.result (AreTallies (tries ++ tries_on c.args.told.now c.args.race.now lines c.args.account.now.tried.items) c.add.new.self)) c.attempts-2.ensures
    (subst (λ (charges : List ℕ). (tries : List Try) → AreTallies tries c.self.inside.tallies → OnOk c.add.result (AreTallies (tries ++ tries_on c.args.told.now c.args.race.now c.attempts-2.result.now charges) c.add.new.self)) c.as_slice.ensures.value c.add.ensures)))
