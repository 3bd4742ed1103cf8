use Rattle.std.proofs.Common.{◌≡◌, ◌+◌, ◌≤◌, drop}
use Rattle.he_front.specs.Http.{count_named}
use Rattle.he_front.proofs.http.count_named.Given as goal

-- those that were counted and those among the fields that are left are all of this name
abbrev pub invariant-loop-field : goal.invariant-loop-field
invariant-loop-field l =
    (l.count + count_named l.octets l.name (drop l.field-index l.fields) ≡ count_named l.octets l.name l.fields)
    × (l.count ≤ l.field-index)
