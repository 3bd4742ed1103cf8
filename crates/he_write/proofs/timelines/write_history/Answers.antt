use Rattle.std.proofs.Common.{ℕ, ◌++◌, List, ◌∙◌, ap, subst}
use Rattle.std.specs.List.{flat_map}
use Rattle.he_addr.specs.declared.ip.Ip.{Ip}
use Rattle.he_words.specs.Appending.{AppendsText}
use Rattle.he_write.specs.Written.{rtt_text, used_text}
use Rattle.he_words.proofs.Appending.{writes_then}
use Rattle.he_write.proofs.timelines.write_history.Goals as goal

pub returns : goal.returns
returns g c =
    let P : List Ip → Type 0 = λ used. AppendsText c.write_all_used.result c.write_rtts.new.out.items c.write_all_used.new.out.items (flat_map used_text used) in
    let told = ap (λ (rtts : List (Ip × ℕ)). c.args.out.now.items ++ flat_map rtt_text rtts) c.rtts.ensures.value in
    writes_then c.args.out.now.items c.write_rtts.new.out.items c.write_all_used.new.out.items
    (flat_map rtt_text c.args.timeline.now.history.rtts)
    (flat_map used_text c.args.timeline.now.history.used)
    c.write_all_used.result (c.in_ok-write_rtts.ensures ∙ told) (subst P c.used_addresses.ensures.value c.write_all_used.ensures)
