use Rattle.std.proofs.Common.{◌++◌, [], ◌∷◌, codes}
use Rattle.he_summary.specs.Members.{members_text}
use Rattle.he_summary.proofs.Joined.{joined}
use Rattle.he_summary.proofs.metrics.write_delays.Goals as goal

pub returns : goal.returns
returns g c =
    joined (codes "\n# TYPE he_resolution_delays counter") (codes "\n# HELP he_resolution_delays Races whose IPv4 attempt started without the AAAA answer." ++ (members_text ((codes "\nhe_resolution_delays_total ", c.args.waited) ∷ []) ++ codes "\n")) c.args.text.now.items c.extend_from_slice.new.self.items c.extend_from_slice-3.new.self.items c.in_ok-extend_from_slice.ensures.items
    (joined (codes "\n# HELP he_resolution_delays Races whose IPv4 attempt started without the AAAA answer.") (members_text ((codes "\nhe_resolution_delays_total ", c.args.waited) ∷ []) ++ codes "\n") c.extend_from_slice.new.self.items c.extend_from_slice-2.new.self.items c.extend_from_slice-3.new.self.items c.in_ok-extend_from_slice-2.ensures.items
    (joined (members_text ((codes "\nhe_resolution_delays_total ", c.args.waited) ∷ [])) (codes "\n") c.extend_from_slice-2.new.self.items c.write_members.new.text.items c.extend_from_slice-3.new.self.items c.in_ok-write_members.ensures c.in_ok-extend_from_slice-3.ensures.items))
