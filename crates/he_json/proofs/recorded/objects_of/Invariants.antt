use Rattle.std.proofs.Common.{◌≡◌, ◌++◌, drop, map}
use Rattle.std.specs.List.{flat_map}
use Rattle.he_record.specs.Left.{said_of}
use Rattle.he_json.specs.Recorded.{object_texts}
use Rattle.he_json.proofs.recorded.objects_of.Given as goal

abbrev pub invariant-loop-line : goal.invariant-loop-line
invariant-loop-line g l =
    map (λ o. o.items) l.objects.items ++ flat_map (object_texts l.listing) (map said_of (drop l.line-index l.lines))
    ≡ flat_map (object_texts l.listing) (map said_of l.lines)
