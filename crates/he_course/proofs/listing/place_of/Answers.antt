use Rattle.std.proofs.Common.{rules, ◌≡◌, ◌∙◌, ap, refl, slice_get, sym}
use Rattle.std.specs.Prelude.{Some}
use Rattle.std.proofs.lemmas.Option.{slice_get_read}
use Rattle.he_course.proofs.ListedLaws.{stands_at}
use Rattle.he_course.proofs.listing.place_of.Goals as goal

pub returns-in-Some : goal.returns-in-Some
returns-in-Some c =
    let ips = c.args.ips.now in
    let other = c.in-Some.other.now in
    let is : other ≡ c.args.ip = search rules in
    let at : slice_get ips c.args.first ≡ Some other = slice_get_read ips _ c.args.first other refl c.in-Some.ensures.lookup.3.0 c.in-Some.ensures.lookup.1 in
    sym (stands_at ips c.args.first c.args.ip (at ∙ ap Some is) c.requires)
