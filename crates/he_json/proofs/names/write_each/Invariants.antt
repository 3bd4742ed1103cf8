use Rattle.std.proofs.Common.{◌≡◌, ◌++◌, [], drop, map}
use Rattle.he_json.specs.Json.{address_text, parted}
use Rattle.he_json.proofs.names.write_each.Given as goal

abbrev pub invariant-loop-ip : goal.invariant-loop-ip
invariant-loop-ip g l =
    l.text.items ++ parted l.gap (map address_text (drop l.ip-index l.ips)) ≡ l.initial.text.items ++ parted [] (map address_text l.ips)
