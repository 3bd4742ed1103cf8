use Rattle.std.proofs.Common.{sym, subst, take}
use Rattle.he_timeline.specs.Race.{addresses_of}
use Rattle.he_course.specs.Started.{IsFirstLeft}
use Rattle.he_course.proofs.StartedLaws.{failed_more, left_fewer}
use Rattle.he_course.proofs.stages.Started.more.Goals as goal

pub first_left-requires : goal.first_left-requires
first_left-requires g c =
    rw (c.answered.ensures.value, c.requires.lines)
    (left_fewer c.args.self.lines.now c.args.line (take c.args.self.aaaa (addresses_of c.args.timeline.now.aaaa))
    c.requires.before.aaaa.before)

pub first_left-requires-2 : goal.first_left-requires-2
first_left-requires-2 g c =
    rw (c.answered-2.ensures.value, c.requires.lines)
    (left_fewer c.args.self.lines.now c.args.line (take c.args.self.a (addresses_of c.args.timeline.now.a))
    c.requires.before.a.before)

pub returns-clause-made : goal.returns-clause-made
returns-clause-made g c = record {
  failed = rw (c.later_of.ensures, c.failure_of.ensures, c.attempt.ensures, c.requires.before.failed, c.requires.lines)
      (sym (failed_more c.args.timeline.now c.args.self.lines.now c.args.line));
  aaaa = subst (λ ips. IsFirstLeft c.args.lines.now ips c.first_left.result) c.answered.ensures.value c.first_left.ensures;
  a = subst (λ ips. IsFirstLeft c.args.lines.now ips c.first_left-2.result) c.answered-2.ensures.value c.first_left-2.ensures;
}
