use Rattle.std.proofs.Common.{◌≡◌, ◌++◌, [], drop, map}
use Rattle.he_json.specs.Json.{member_text, parted}
use Rattle.he_json.proofs.members.write_members.Given as goal

abbrev pub invariant-loop-member : goal.invariant-loop-member
invariant-loop-member g l =
    l.text.items ++ parted l.gap (map member_text (drop l.member-index l.members))
    ≡ l.initial.text.items ++ parted [] (map member_text l.members)
