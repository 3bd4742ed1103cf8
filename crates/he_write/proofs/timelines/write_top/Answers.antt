use Rattle.std.proofs.Common.{List, ℕ, ◌++◌, ◌∷◌, [], ◌∙◌, ap, subst}
use Rattle.he_timeline.specs.Settings.{SettingValues}
use Rattle.he_words.specs.Words.{header_of}
use Rattle.he_words.specs.Appending.{AppendsText}
use Rattle.he_write.specs.Written.{written_line, settings_text, version_of}
use Rattle.he_words.proofs.Appending.{writes_then}
use Rattle.he_write.proofs.timelines.write_top.Goals as goal

pub returns : goal.returns
returns g c =
    let P : SettingValues → Type 0 = λ settings. AppendsText c.write_settings.result c.write_line.new.out.items c.write_settings.new.out.items (settings_text settings) in
    writes_then c.args.out.now.items c.write_line.new.out.items c.write_settings.new.out.items
    (written_line (header_of (version_of c.args.timeline.now) ∷ []))
    (settings_text c.args.timeline.now.settings)
    c.write_settings.result
    (c.in_ok-write_line.ensures ∙ ap (λ (header : List ℕ). c.args.out.now.items ++ written_line (header ∷ [])) (c.header.ensures ∙ ap header_of c.version.ensures))
    (subst P c.settings.ensures.value c.write_settings.ensures)
