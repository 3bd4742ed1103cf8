use Rattle.std.proofs.Common.{◌≡◌, ◌++◌, [], drop, map}
use Rattle.he_json.specs.Json.{parted}
use Rattle.he_json.proofs.recorded.write_parted.Given as goal

abbrev pub invariant-loop-object : goal.invariant-loop-object
invariant-loop-object g l =
    l.text.items ++ parted l.gap (map (λ o. o.items) (drop l.object-index l.objects))
    ≡ l.initial.text.items ++ parted [] (map (λ o. o.items) l.objects)
