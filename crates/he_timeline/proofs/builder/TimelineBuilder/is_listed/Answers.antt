use Rattle.std.proofs.Common.{◌≡◌, List, IfSome, sym, ◌∙◌, ap, subst}
use Rattle.he_addr.specs.declared.ip.Family.{Family}
use Rattle.he_addr.specs.declared.ip.Ip.{Ip}
use Rattle.he_timeline.specs.Race.{Race, addresses_of, has_ip, is_in_answer, reply_of}
use Rattle.he_timeline.proofs.Addressed.{not_in_a, not_in_aaaa, or_false, false_or}
use Rattle.he_timeline.proofs.builder.TimelineBuilder.is_listed.Goals as goal

pub returns-in-V6-clause-value : goal.returns-in-V6-clause-value
returns-in-V6-clause-value g c =
    let race = c.self.inside.timeline in
    let P : Race → Type 0 = λ r. has_ip c.args.ip (addresses_of race.aaaa) ≡ is_in_answer r c.args.ip in
    c.has.ensures ∙ ap (has_ip c.args.ip) (c.answered-listed.ensures.value ∙ ap (λ (f : Family). addresses_of (reply_of race f)) c.in-V6.is)
    ∙ subst P c.self.view_is (or_false _ _ (not_in_a c.args.ip race.a c.in-V6.ensures c.answered-listed.ensures.race.a))

pub returns-in-V4-clause-value : goal.returns-in-V4-clause-value
returns-in-V4-clause-value g c =
    let race = c.self.inside.timeline in
    let P : Race → Type 0 = λ r. has_ip c.args.ip (addresses_of race.a) ≡ is_in_answer r c.args.ip in
    c.has-in-V4.ensures ∙ ap (has_ip c.args.ip) (c.answered-listed.ensures.value ∙ ap (λ (f : Family). addresses_of (reply_of race f)) c.in-V4.is)
    ∙ subst P c.self.view_is (false_or _ _ (not_in_aaaa c.args.ip race.aaaa c.in-V4.ensures c.answered-listed.ensures.race.aaaa))

pub has-requires : goal.has-requires
has-requires g c =
    let race = c.self.inside.timeline in
    subst (λ (ips : List Ip). IfSome c.self.inside.six (λ keys. keys ≡ ips)) (sym (c.answered-listed.ensures.value ∙ ap (λ (f : Family). addresses_of (reply_of race f)) c.in-V6.is)) c.self.invariant.0

pub has-requires-in-V4 : goal.has-requires-in-V4
has-requires-in-V4 g c =
    let race = c.self.inside.timeline in
    subst (λ (ips : List Ip). IfSome c.self.inside.four (λ keys. keys ≡ ips)) (sym (c.answered-listed.ensures.value ∙ ap (λ (f : Family). addresses_of (reply_of race f)) c.in-V4.is)) c.self.invariant.1
