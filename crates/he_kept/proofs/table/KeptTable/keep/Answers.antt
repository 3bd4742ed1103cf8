use Rattle.std.proofs.Common.{◌≡◌, rules, string_bytes}
use Rattle.he_kept.proofs.Holding.{explains_kept, later, own_kept}
use Rattle.he_kept.proofs.table.KeptTable.keep.Goals as goal

pub returns-in_err-host-clause-past : goal.returns-in_err-host-clause-past
returns-in_err-host-clause-past c = λ past so host family kept found.
    later c.args.answer past kept.answer (so host family kept found)

pub invariant_of-self : goal.invariant_of-self
invariant_of-self c =
    let its : c.as_str-2.result.now ≡ string_bytes c.args.answer.question.host = search rules in
    record {
      own = own_kept c.args.self.now.cache c.keep.new.self c.args.answer c.as_str-2.result.now its c.keep.ensures.other_hosts c.keep.ensures.other_family c.keep.result c.keep.ensures.kept c.keep.ensures.same c.args.self.now.own;
    }

pub returns-clause-past : goal.returns-clause-past
returns-clause-past c = λ past so.
    let its : c.as_str-2.result.now ≡ string_bytes c.args.answer.question.host = search rules in
    explains_kept c.args.self.now.cache c.keep.new.self c.args.answer c.as_str-2.result.now its c.keep.ensures.other_hosts c.keep.ensures.other_family c.keep.result c.keep.ensures.kept c.keep.ensures.same past so
