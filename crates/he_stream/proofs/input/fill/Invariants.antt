use Rattle.std.proofs.Common.{◌≤◌, take, vec_len}
use Rattle.std.specs.Io.{StartsWith, appended_bytes}
use Rattle.std.specs.Io.KnownBytes.{Consumes}
use Rattle.he_stream.specs.Input.{TakesOn}
use Rattle.he_stream.specs.Runs.{StepsOn}
use Rattle.he_stream.proofs.input.fill.Given as goal

-- what is filled are the bytes that stood there and those that the input lost, and each step so far went on
abbrev pub invariant-loop-steps : goal.invariant-loop-steps
invariant-loop-steps g l =
    (l.filled ≤ vec_len l.bytes) × StartsWith (take l.filled l.bytes.items) l.fn.bytes.items
    × Consumes (g.S.InputStream.remaining l.fn.input) (g.S.InputStream.remaining l.input)
    (appended_bytes l.fn.bytes.items (take l.filled l.bytes.items))
    × StepsOn g.S.InputStream.takes TakesOn l._steps l.fn.input l.input
