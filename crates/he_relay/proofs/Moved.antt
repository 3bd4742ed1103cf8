-- Steps of one way add up.
use Rattle.std.proofs.Common.{◌≡◌, ℕ, ◌+◌, ◌-◌, ◌^◌, ◌≤◌, min, true, false, List, [], ◌++◌, length, take, drop, refl, sym, ap, ◌∙◌, subst, inl, inr, arith, append_assoc, append-nil, length-take}
use Rattle.tokio.specs.Io.Copying.{count_after}
use Rattle.tokio.specs.Io.Moved.{Passes, PassesNothing, PassesInOrder}
use Rattle.tokio.proofs.IoLemmas.{count_after-append, slice_range_split}
use Rattle.he_relay.specs.declared.way.Way.{Way}
use Rattle.he_relay.specs.Ways.{IsAfter, Moves, held}

module _ {R W : Type 0} (reads : Passes R) (writes : Passes W) (is_at_end : R → Type 0) where
  -- a step that reads nothing
  pub one_put : PassesNothing reads → (old new : Way) (reader : R) (writer writer' : W) (put : List ℕ) → new.has_ended ≡ old.has_ended
      → writes writer put writer' → held old ≡ put ++ held new → new.moved ≡ count_after old.moved put
      → Moves reads writes is_at_end old reader writer new reader writer'
  one_put nothing old new reader writer writer' put same written left counted =
      record {
        got = [];
        put = put;
        read = nothing reader;
        written = written;
        in_order = append-nil (held old) ∙ left;
        counted = counted;
        stays_ended = λ was. (same ∙ was, refl, refl);
        gets_ended = λ is. inl (sym same ∙ is);
      }

  pub no_step : PassesNothing reads → PassesNothing writes → (way : Way) (reader : R) (writer : W) → Moves reads writes is_at_end way reader writer way reader writer
  no_step reads_nothing writes_nothing way reader writer =
      one_put reads_nothing way way reader writer writer [] refl (writes_nothing writer) refl (omega (arith, way.fits))

  pub put_counted : PassesNothing reads → (count : ℕ) (old new : Way) (reader : R) (writer writer' : W)
      → writes writer (take count (held old)) writer' → count ≤ length (held old) → IsAfter count old new
      → Moves reads writes is_at_end old reader writer new reader writer'
  put_counted nothing count old new reader writer writer' written few (room, from, to, same, moved) =
      let whole : length (take count (held old)) ≡ count = omega (arith, few, length-take count (held old)) in
      let within : old.from + count ≤ old.to = omega (arith, few, old.within.0, length-take (old.to - old.from) (drop old.from old.room.items)) in
      one_put nothing old new reader writer writer' (take count (held old)) same written
      (rw (room, from, to) (slice_range_split old.room.items old.from old.to count within))
      (moved ∙ ap (λ n. min (old.moved + n) (2 ^ 64 - 1)) (sym whole))

  -- a step that reads where nothing is held
  pub one_take : PassesNothing writes → (old new : Way) (reader reader' : R) (writer : W) (got : List ℕ) → old.from ≡ old.to → old.has_ended ≡ false
      → reads reader got reader' → held new ≡ got → new.moved ≡ old.moved → (new.has_ended ≡ true → is_at_end reader')
      → Moves reads writes is_at_end old reader writer new reader' writer
  one_take nothing old new reader reader' writer got empty reading read kept moved end =
      let none : old.to - old.from ≡ 0 = omega arith in
      record {
        got = got;
        put = [];
        read = read;
        written = nothing writer;
        in_order = ap (λ n. take n (drop old.from old.room.items) ++ got) none ∙ sym kept;
        counted = omega (arith, old.fits);
        stays_ended = λ was. cc;
        gets_ended = λ is. inr (end is);
      }

  pub one_step_more : PassesInOrder reads → PassesInOrder writes → (a b c : Way) (reader reader' reader'' : R) (writer writer' writer'' : W)
      → Moves reads writes is_at_end a reader writer b reader' writer' → Moves reads writes is_at_end b reader' writer' c reader'' writer''
      → Moves reads writes is_at_end a reader writer c reader'' writer''
  one_step_more read_order write_order a b c reader reader' reader'' writer writer' writer'' p q =
      record {
        got = p.got ++ q.got;
        put = p.put ++ q.put;
        read = read_order reader p.got reader' q.got reader'' p.read q.read;
        written = write_order writer p.put writer' q.put writer'' p.written q.written;
        in_order =
            sym (append_assoc (held a) p.got q.got) ∙ ap (λ ws. ws ++ q.got) p.in_order ∙ append_assoc p.put (held b) q.got
            ∙ ap (λ ws. p.put ++ ws) q.in_order ∙ sym (append_assoc p.put q.put (held c));
        counted = q.counted ∙ ap (λ n. count_after n q.put) p.counted ∙ count_after-append a.moved p.put q.put;
        stays_ended = λ ended.
            let first = p.stays_ended ended in
            let second = q.stays_ended first.0 in
            (second.0, second.1 ∙ first.1, rw (first.2, second.2));
        gets_ended = λ ended. elim (q.gets_ended ended) [
          | inl before ↦ elim (p.gets_ended before) [
            | inl earlier ↦ inl earlier
            | inr end ↦ inr (subst is_at_end (sym (q.stays_ended before).1) end)
          ]
          | inr end ↦ inr end
        ];
      }
