use Rattle.std.proofs.Common.{◌++◌, codes}
use Rattle.he_addr.specs.declared.ip.Family.TheVariants as families
use Rattle.he_summary.specs.Json.{lookups_json}
use Rattle.he_summary.proofs.Joined.{joined}
use Rattle.he_summary.proofs.json.write_all_lookups.Goals as goal

pub returns : goal.returns
returns g c =
    joined (codes ",\"lookups\":{\"aaaa\":") (lookups_json families.V6 c.args.kept.now ++ (codes "},\"a\":" ++ (lookups_json families.V4 c.args.kept.now ++ codes "}}"))) c.args.text.now.items c.extend_from_slice.new.self.items c.extend_from_slice-3.new.self.items c.in_ok-extend_from_slice.ensures.items
    (joined (lookups_json families.V6 c.args.kept.now) (codes "},\"a\":" ++ (lookups_json families.V4 c.args.kept.now ++ codes "}}")) c.extend_from_slice.new.self.items c.write_lookups.new.text.items c.extend_from_slice-3.new.self.items c.in_ok-write_lookups.ensures
    (joined (codes "},\"a\":") (lookups_json families.V4 c.args.kept.now ++ codes "}}") c.write_lookups.new.text.items c.extend_from_slice-2.new.self.items c.extend_from_slice-3.new.self.items c.in_ok-extend_from_slice-2.ensures.items
    (joined (lookups_json families.V4 c.args.kept.now) (codes "}}") c.extend_from_slice-2.new.self.items c.write_lookups-2.new.text.items c.extend_from_slice-3.new.self.items c.in_ok-write_lookups-2.ensures c.in_ok-extend_from_slice-3.ensures.items)))
