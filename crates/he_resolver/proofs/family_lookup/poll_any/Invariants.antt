use Rattle.std.specs.Prelude.{◌≡◌, ℕ, ◌<◌, slice_index_or, vec_len}
use Rattle.futures.specs.Task.{Hears, IsArmed, Keeps}
use Rattle.he_asking.specs.Needs.{query_needs}
use Rattle.he_resolver.proofs.family_lookup.poll_any.Given as goal

abbrev pub invariant-loop-at : goal.invariant-loop-at
invariant-loop-at g l =
    (vec_len l.queries ≡ vec_len l.initial.queries) × Keeps l.initial.cx l.cx × (0 < l.at → IsArmed l.cx)
    × ((k : ℕ) (d : _) (s : ℕ) → k < l.at → query_needs (slice_index_or l.queries.items k d) s → Hears l.cx s)
