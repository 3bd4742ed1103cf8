use Rattle.std.proofs.Common.{◌≡◌, ◌++◌, drop}
use Rattle.std.specs.List.{flat_map}
use Rattle.he_summary.specs.Members.{member_text}
use Rattle.he_summary.proofs.members.write_members.Given as goal

abbrev pub invariant-loop-member : goal.invariant-loop-member
invariant-loop-member g l =
    l.text.items ++ flat_map member_text (drop l.member-index l.members) ≡ l.fn.text.items ++ flat_map member_text l.members
