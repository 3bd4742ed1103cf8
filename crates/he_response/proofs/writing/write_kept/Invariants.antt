use Rattle.std.proofs.Common.{◌≡◌, ◌++◌, take}
use Rattle.he_response.specs.Written.{kept_text}
use Rattle.he_response.proofs.writing.write_kept.Given as goal

abbrev pub invariant-loop-field : goal.invariant-loop-field
invariant-loop-field l = l.out.items ≡ l.fn.out.items ++ kept_text l.octets l.fields (take l.field-index l.fields)
