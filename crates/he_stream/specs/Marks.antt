-- How the steps of a reader and of a writer change their error and flush marks.
use Rattle.std.specs.Prelude.{◌≡◌, Bool, IsSome, Option, true}
use Rattle.he_stream.specs.declared.answer.Flushed.{Flushed}
use Rattle.he_stream.specs.declared.answer.Flushed.TheVariants as flushed
use Rattle.he_stream.specs.declared.answer.Put.{Put}
use Rattle.he_stream.specs.declared.answer.Put.TheVariants as put
use Rattle.he_stream.specs.declared.answer.Taken.{Taken}
use Rattle.he_stream.specs.declared.answer.Taken.TheVariants as taken

-- the error of the last failed step, before and after: a failed step sets it, every other one keeps it
abbrev pub MarksTake : {E : Type 0} → Taken → Option E → Option E → Type 0
MarksTake taken.Failed before after = IsSome after
MarksTake (taken.Bytes count) before after = after ≡ before
MarksTake taken.End before after = after ≡ before
MarksTake taken.Interrupted before after = after ≡ before

-- a step that failed or took no byte sets it, every other one keeps it
abbrev pub MarksPut : {E : Type 0} → Put → Option E → Option E → Type 0
MarksPut put.Failed before after = IsSome after
MarksPut put.Full before after = IsSome after
MarksPut (put.Bytes count) before after = after ≡ before
MarksPut put.Interrupted before after = after ≡ before

-- the error of the last failed step, and whether a flush is done, before and after
abbrev pub MarksFlush : {E : Type 0} → Flushed → Option E → Bool → Option E → Bool → Type 0
MarksFlush flushed.Done failed done failed' done' = (failed' ≡ failed) × (done' ≡ true)
MarksFlush flushed.Interrupted failed done failed' done' = (failed' ≡ failed) × (done' ≡ done)
MarksFlush flushed.Failed failed done failed' done' = IsSome failed' × (done' ≡ done)
