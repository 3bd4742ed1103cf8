use Rattle.std.proofs.Common.{◌≡◌, ℕ, ◌+◌, ◌<◌, List, Option, None, Some, IfNone, drop, get_or, length, set, take, ap, sym, add-zero, arith, ◌∙◌, rules}
use Rattle.std.proofs.lemmas.List.Elements.{All-push, All-set, AllWithin-more_set, AllZip-push}
use Rattle.std.proofs.lemmas.List.{drop-drop, drop-set-lt, get_or-drop, take_more, take_more_set}
use Rattle.std.proofs.Math.Seq.{map-set_same}
use Rattle.std.specs.List.{AllWithin, AllZip}
use Rattle.futures.specs.Task.{Keeps}
use Rattle.futures.specs.declared.task.context.Context.{Context}
use Rattle.he_turns.specs.declared.connector.Connector.{Ghosts as ConnectorOf}
use Rattle.he_turns.specs.declared.trial.Trial.{Ghosts as TrialOf}
use Rattle.he_probe.specs.Probing.{AllWait, IsClosed, IsReady, SomePoll, Waits, ip_of}
use Rattle.he_probe.specs.declared.probe.Probe.{Probe}
use Rattle.he_probe.proofs.Kept.{all_kept}
use Rattle.he_probe.proofs.probing.poll_all.Goals as goal
use Rattle.he_probe.proofs.probing.poll_all.Goals.{in-Some, in-None}

-- if none was open before, and the next one is closed, none is
closed_too : {X : Type 0} (P : X → Type 0) (next : Option ℕ) (ys : List X) (i : ℕ) (v : X) → i < length ys
    → IfNone next (AllWithin P ys 0 i) → P v → IfNone next (AllWithin P (set ys i v) 0 (i + 1))
closed_too P None ys i v below before here = AllWithin-more_set ys i v below P before here
closed_too P (Some due) ys i v below before here = tt

more_zipped : {X : Type 0} (R : X → X → Type 0) (olds ys : List X) (i : ℕ) (x v : X) → i < length olds → i < length ys
    → AllZip R (take i olds) (take i ys) → drop i ys ≡ drop i olds → x ≡ get_or ys i x → R x v
    → AllZip R (take (i + 1) olds) (take (i + 1) (set ys i v)) × (drop (i + 1) (set ys i v) ≡ drop (i + 1) olds)
more_zipped {X} R olds ys i x v here there zipped rest is step =
    let head_of : (xs : List X) → get_or (drop i xs) 0 x ≡ get_or xs i x = λ xs. get_or-drop i xs 0 x ∙ ap (λ k. get_or xs k x) (add-zero i) in
    let same : get_or olds i x ≡ x = sym (head_of olds) ∙ ap (λ zs. get_or zs 0 x) (sym rest) ∙ head_of ys ∙ sym is in
    let zipped' = AllZip-push R (take i olds) (take i ys) x v zipped step in (
      rw (take_more olds i x here) (rw (take_more_set ys i v there) (rw same zipped')),
      drop-set-lt (i + 1) ys i v (omega arith) ∙ sym (drop-drop 1 i ys) ∙ ap (λ zs. drop 1 zs) rest ∙ drop-drop 1 i olds,
    )

-- one more waits, after those before it
more_wait : {C Conn Run : Type 0} (connector : ConnectorOf C Conn Run) (trial : TrialOf Run Conn) (old new : Context)
    (ys : List (Probe C Conn Run)) (i : ℕ) (v : Probe C Conn Run) → i < length ys → Keeps old new
    → AllWait connector trial old (take i ys) → Waits connector trial new v
    → AllWait connector trial new (take (i + 1) (set ys i v))
more_wait connector trial old new ys i v below keeps before here =
    rw (take_more_set ys i v below)
    (All-push (Waits connector trial new) (take i ys) v (all_kept connector trial old new (take i ys) keeps before) here)

pub loop-i-preserved : goal.loop-i-preserved
loop-i-preserved g c =
    let more = more_zipped (SomePoll g.C.Connector g.C.Run.Trial c.args.now) c.args.probes.now.items c.loop-i.probes.items
    c.loop-i.i c.index_mut.result.now c.poll_probe.new.self (search rules) (search rules) c.loop-i.invariant.each
    c.loop-i.invariant.rest c.index_mut.ensures.value
    (c.loop-i.connector, c.poll_probe.new.connector, c.poll_probe.ensures.polls) in
    record {
      ready = All-set (IsReady g.C.Connector g.C.Run.Trial) _ _ _ c.poll_probe.ensures.ready c.loop-i.invariant.ready;
      ips = map-set_same ip_of c.loop-i.probes.items c.loop-i.i c.poll_probe.new.self c.index_mut.result.now
          (c.poll_probe.ensures.ip ∙ ap ip_of c.index_mut.ensures.value) ∙ c.loop-i.invariant.ips;
      count = c.loop-i.invariant.count;
      each = more.0;
      rest = more.1;
      closed = elim c.match-poll_probe.branch [
        | in-Some w ↦ rw w.next-is tt
        | in-None w ↦ rw w.next-is (closed_too IsClosed c.loop-i.next c.loop-i.probes.items c.loop-i.i
            c.poll_probe.new.self (search rules) c.loop-i.invariant.closed
            (rw w.in-None.is at c.poll_probe.ensures.closed))
      ];
      waits = more_wait g.C.Connector g.C.Run.Trial c.loop-i.cx c.poll_probe.new.cx c.loop-i.probes.items c.loop-i.i
          c.poll_probe.new.self (search rules) c.poll_probe.ensures.kept c.loop-i.invariant.waits
          c.poll_probe.ensures.waits;
      kept = λ fact h. c.poll_probe.ensures.kept fact (c.loop-i.invariant.kept fact h);
    }
