use Rattle.std.proofs.Common.{◌++◌, ℕ, ◌∙◌, ap, subst}
use Rattle.std.specs.Prelude.{codes}
use Rattle.he_words.specs.Appending.{AppendsText}
use Rattle.he_write.specs.Written.{setting_text}
use Rattle.he_words.proofs.Appending.{writes_then}
use Rattle.he_write.proofs.timelines.write_delays.Goals as goal

pub returns : goal.returns
returns g c =
    let P : ℕ → Type 0 = λ v. AppendsText c.write_setting-2.result c.write_setting.new.out.items c.write_setting-2.new.out.items (setting_text (codes "attempt") v) in
    writes_then c.args.out.now.items c.write_setting.new.out.items c.write_setting-2.new.out.items
    (setting_text (codes "resolution") c.args.settings.resolution)
    (setting_text (codes "attempt") c.args.settings.attempt)
    c.write_setting-2.result
    (c.in_ok-write_setting.ensures ∙ ap (λ (v : ℕ). c.args.out.now.items ++ setting_text (codes "resolution") v) c.resolution.ensures.value)
    (subst P c.attempt.ensures.value c.write_setting-2.ensures)
