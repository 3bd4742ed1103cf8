use Rattle.std.proofs.Common.{◌≡◌, ◌∙◌, List, ap, subst}
use Rattle.std.specs.Prelude.{IfOk}
use Rattle.he_addr.specs.declared.ip.Ip.{Ip}
use Rattle.he_course.proofs.InterlacedLaws.{list_from_with}
use Rattle.he_course.proofs.interlaced.interlaced_list.Goals as goal

pub returns : goal.returns
returns g c =
    let P : List Ip → Type 0 = λ list. IfOk c.interlace.result (λ ips. ips.items ≡ list) in
    subst P
    (list_from_with c.args.timeline.now c.settings.ensures.race c.are_addresses_in_range.ensures.six c.are_addresses_in_range.ensures.four
    c.args.v6 c.args.v4 c.args.sorted.now c.deref.result.now c.count.result c.requires
    (c.deref.ensures.value ∙ c.in_ok-ips.ensures) (c.count.ensures.value ∙ ap (λ settings. settings.count) c.settings.ensures.value))
    c.interlace.ensures
