use Rattle.std.proofs.Common.{ap, codes, refl, ◌++◌, ◌∙◌}
use Rattle.std.specs.List.{flat_map}
use Rattle.he_draw.specs.Page.{escaped}
use Rattle.he_draw.proofs.TextLaws.{five_texts}
use Rattle.he_draw.proofs.section.write_section.Goals as goal

pub returns : goal.returns
returns g c =
    let opened = c.in_ok-write_links.ensures in
    let heading = c.in_ok-heading.heading.items in
    let drawn = c.in_ok-write_rows.ensures in
    let story = c.in_ok-story.story.items in
    let last = codes "</pre></details></section>\n" in (
      _,
      record {
        links = opened.0;
        heading = heading;
        rows = drawn.0;
        story = story;
        last = last;
        opened = opened.1;
        headed = c.in_ok-heading.ensures;
        drawn = drawn.1;
        told = c.in_ok-story.ensures;
        parts = refl;
      },
      five_texts c.args.text.now.items c.write_links.new.text.items c.write_escaped.new.text.items c.write_rows.new.text.items c.write_escaped-2.new.text.items c.extend_from_slice.new.self.items
          opened.0 (flat_map escaped heading) drawn.0 (flat_map escaped story) last
          opened.2
          (c.in_ok-write_escaped.ensures ∙ ap (λ n. c.write_links.new.text.items ++ flat_map escaped n) c.deref.ensures.value)
          drawn.2
          (c.in_ok-write_escaped-2.ensures ∙ ap (λ n. c.write_rows.new.text.items ++ flat_map escaped n) c.deref-2.ensures.value)
          c.in_ok-extend_from_slice.ensures.items,
    )
