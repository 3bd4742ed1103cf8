use Rattle.std.proofs.Common.{◌≡◌, drop}
use Rattle.he_front.specs.Http.{field_named}
use Rattle.he_front.proofs.http.field_named.Given as goal

-- the first one of this name among those that are left is the first of all
abbrev pub invariant-loop-field : goal.invariant-loop-field
invariant-loop-field l =
    field_named l.octets l.name (drop l.field-index l.fields) ≡ field_named l.octets l.name l.fields
