-- Where the countdown is due it answers `Err`, and elsewhere what the inner allocator answers. Assumes `Logic`.
use Rattle.std.proofs.Common.{◌≡◌, ℕ, ◌^◌, ◌<◌, Bool, true, false, List, [], ◌∷◌, Ok, Err, refl, w64, Bor}
use seplogic.Ra.Ura.{Ura}
use mir.Syntax.{Ty, Args, Fn, a_type, dnil, dcons}
use mir.Val.{Val, vbool, vint, vptr}
use mir.MapTy.{inst_fn}
use base.Logic.{SProp, ent}
use base.Fml.{Lft, Share, ftrue, flft}
use prog.Memory.{Memory, size, align, capped}
use prog.Routine.{Routine}
use prog.Wp.{WpFn, Tables}
use types.Logic.{Logic}
use contract.BorrowLft.{◌⊑◌, ⊑_trans}
use contract.Monad.{Fun, fact}
use contract.Running.{tables, tables_of}
use sound.WpLaws.{fm_of, WpFn-mono}
use types.Kit.{‵, raw, ◌⊛◌, some, later, given, learn, prop, at_ret, Sq, ◌$◌, ◌∵◌, !, qed, move, keep, drop, use0, use1, use2, split, join, pick, fsplit, fjoin, suffices, await, done}
use types.Part.{agg}
use types.Run.{stop, fld, lit, addr, no_more, and_then, first, branches, skips, exec, returns, returns_within, enter}
use types.ByLocal.{alloc_all, pass_all, free_all, look_at, get, through, sets, lands_as, env}
use denote.Exit.{yes}
use denote.RattleType.{owns}
use denote.RawPtr.{block_ptr}
use denote.Ref.{shr_vals}
use denote.Builtin.{usize, RefOf}
use denote.Memory.{hidden_shr}
use denote.Param.{bounded}
use denote.Plain.{uint_vals, uint_Tells}
use denote.Signature.{Slot, plain, types_at}
use denote.Steps.{heard, nothing}
use denote.Triple.Call.{calls_at}
use denote.Triple.Clauses.{Ended, Clauses}
use denote.Triple.Spec.{triple_of}
use denote.Triple.Statement.{Triple}
use denote.Triple.Table.{entered, cited}
use denote.Triple.Walked.{Stays, stay_dropped, walk_of, ends_at, walked, Goes-dropped, walk_Meets}
use Rattle.std.proofs.VecSteps.Shapes.{after}
use Rattle.std.proofs.alloc.Calls.{Al, seen, Answer, answer_val, Answer-typed, Answer-Ok, Answer-err, takes_key, Takes, at_takes, Answered, Takes-goes, Takes-gives, answers}
use Rattle.refusing.proofs.Lent.{Countdown, Refusing, inner_at, countdown_at, parts, Asks, asking, asks, is_told}
use Rattle.refusing.proofs.countdown.Countdown.is_due.Symbol as question
use Rattle.refusing.proofs.countdown.Countdown.is_due.Met as question_met
use Rattle.refusing.specs.contracts.heap.RefusingAllocator.allocate as allocate
use Rattle.refusing.specs.contracts.heap.RefusingAllocator.allocate.Key as key
use Rattle.refusing.proofs.heap.RefusingAllocator.allocate.Statement.{statement}
use Rattle.refusing.proofs.heap.RefusingAllocator.allocate.Code as code

module _ (Z : Al) where
  abbrev args : Args
  args = bounded (a_type ∷ []) (Z.row, tt) (dcons Z.d (dcons Z.drops dnil))

  abbrev body : Fn
  body = inst_fn args code.function

  abbrev self : Slot 2
  self = RefOf (0 ∷ []) tt (plain (λ _. Refusing Z)) (λ _. tt)

  abbrev word : Slot 2
  word = plain (λ _. usize)

  abbrev ended : Ended
  ended = allocate.ended Z.row Z.g Z.d Z.drops

  abbrev stays : Stays ended.signature.params ended.kept
  stays = (stay_dropped self yes, (stay_dropped word yes, (stay_dropped word yes, tt)))

module _ (Z : Al) {M : Type 1} {𝓤 : Ura M} (𝓛 : Logic 𝓤) (at_mem : Memory → SProp 𝓤) (run : Routine → Fun 𝓤) (𝓣 : Tables 𝓤 𝓛.H)
    (inner : Triple 𝓤 (𝓣.C (takes_key Z)) (Takes Z 𝓛 at_mem run)) (due : Triple 𝓤 (𝓣.C question.name) (Asks 𝓛 at_mem run)) where
  open 𝓛 use {H}

  abbrev clauses : Clauses 𝓤 (ended Z)
  clauses = allocate.clauses Z.row Z.g Z.d Z.drops 𝓛 at_mem run

  module _ (κ κ' : Lft) (q q' : Share) (within : κ ⊑ κ') (r : Bor (Refusing Z).Denot) (n a : ℕ) (τ : Ty) where
    abbrev bound : (walk_of 𝓛 (ended Z) (stays Z) clauses).Ghost
    bound = (((κ, (κ', tt)), (q, (q', tt)), (within, tt), (r, (n, (a, tt))), (shr_vals r, (vint w64 n ∷ [], (vint w64 a ∷ [], tt)))), τ)

    abbrev passed : List Val
    passed = vptr r.ref_ptr.0 r.ref_ptr.1 ∷ vint w64 n ∷ vint w64 a ∷ []

    abbrev Post : Val → SProp 𝓤
    Post = (walk_of 𝓛 (ended Z) (stays Z) clauses).post bound

    walk : n < 2 ^ 64 → a < 2 ^ 64 → ent 𝓤 ((walk_of 𝓛 (ended Z) (stays Z) clauses).pre bound) (WpFn 𝓤 H 𝓣.C 𝓣.Λ (body Z) passed Post)
    walk size_fits align_fits =
        let h : Z.row.Denot = r.now.inner in
        let p : ℕ × ℕ = inner_at Z r.ref_ptr in
        let c : ℕ × ℕ = countdown_at Z r.ref_ptr in
        let y : (Takes Z 𝓛 at_mem run).Ghost = at_takes Z 𝓛 at_mem run κ q p h n a τ in
        let z : (Asks 𝓛 at_mem run).Ghost = asking 𝓛 at_mem run κ q c r.now.countdown in
        let none : Sq 𝓛 (‵ (flft κ q) ∷ (‵ (flft κ' q') ⊛ ‵ ftrue) ∷ []) (prop (Post (answer_val false 0 0))) =
        nothing ! $ suffices ! _ (ends_at 𝓛 (ended Z) (stays Z) clauses bound (answer_val false 0 0) (Err (record {})) (tt, (tt, (tt, tt))) (tt, (tt, (tt, tt)))) $
        use0 𝓛 (‵ (Answer.own_val (Err (record {})) (answer_val false 0 0 ∷ []))) (Answer-err 𝓛) $ nothing ! $ nothing ! $ fjoin ! $ nothing ! $ fjoin ! $ nothing ! $ fjoin ! $ join ! $
        move ! (2 ∷ 3 ∷ []) $ join ! $ join ! $ done ! in
        let Asked : Type 0 = (capped (size τ) ≡ n) × (capped (align τ) ≡ a) in
        qed 𝓛 (((‵ (flft κ q) ⊛ ‵ (flft κ' q') ⊛ ‵ ftrue) ⊛ ‵ (owns (types_at (ended Z).signature.params bound.0.0) bound.0.3 bound.0.4)) ∷ (raw (fact 𝓤 (κ' ⊑ Z.row.lives)) ⊛ raw (fact 𝓤 Asked)) ∷ []) ∵
        move ! (1 ∷ []) $ split ! $ heard ! (κ' ⊑ Z.row.lives) (λ lives. heard ! Asked (λ asked.
        split ! $ split ! $ move ! (2 ∷ []) $ fsplit ! $ fsplit ! $ move ! (1 ∷ []) $
        use1 𝓛 (‵ (seen Z κ p h) ⊛ ‵ (hidden_shr Countdown κ r.now.countdown c.0 c.1)) (parts 𝓛 Z κ r.ref_ptr r.now) $ split ! $ keep ! (1 ∷ 4 ∷ 0 ∷ 5 ∷ []) $
        -- [the countdown; the token of κ; the handle; the token of κ', and no more]
        enter ! 𝓣.C 𝓣.Λ (body Z) passed Post $ alloc_all ! (λ l. pass_all ! refl ((tt, tt), ((tt, record { fits = size_fits }), ((tt, record { fits = align_fits }), tt))) $
        sets ! (addr ! (through ! refl (fld ! refl (stop !)))) refl (tt, tt) $
        use2 𝓛 (raw ((Asks 𝓛 at_mem run).pre z)) (asks 𝓛 at_mem run κ q c r.now.countdown) $
        calls_at ! (fm_of 𝓤 H 𝓛.laws 𝓣) (Asks 𝓛 at_mem run) due z (and_then ! (get ! refl) (no_more !)) (λ v.
        use1 𝓛 (later (some (λ (b : Bool). given (v ≡ vbool b) (‵ (flft κ q))))) (is_told 𝓛 at_mem run κ q c r.now.countdown v) $ await ! tt $ pick ! (λ b. learn ! (λ told.
        lands_as ! told refl (tt, tt) $
        first ! $ branches ! (get ! refl)
        (λ is_due.
        sets ! (agg ! (no_more !)) refl (tt, tt) $
        sets ! (agg ! (and_then ! (lit ! tt) (and_then ! (get ! refl) (no_more !)))) refl (Answer-typed false 0 0) $
        returns_within ! Post refl (look_at ! 0 refl) $ free_all ! refl $ move ! (1 ∷ []) $ drop ! $ none)
        (λ not_due.
        skips ! $ exec ! 𝓣.C 𝓣.Λ (env (body Z).locals l) (after 3 (body Z).body) (at_ret (env (body Z).locals l) Post) $ move ! (1 ∷ []) $
        sets ! (addr ! (through ! refl (fld ! refl (stop !)))) refl (tt, tt) $
        use2 𝓛 (raw ((Takes Z 𝓛 at_mem run).pre y)) (Takes-goes Z 𝓛 at_mem run κ q p h (⊑_trans κ κ' Z.row.lives within lives) n a τ asked.0 asked.1 size_fits align_fits) $
        calls_at ! (fm_of 𝓤 H 𝓛.laws 𝓣) (Takes Z 𝓛 at_mem run) inner y (and_then ! (get ! refl) (and_then ! (get ! refl) (and_then ! (get ! refl) (no_more !)))) (λ w.
        use1 𝓛 (later (raw (Answered Z 𝓛 at_mem run h τ w) ⊛ ‵ (flft κ q))) (Takes-gives Z 𝓛 at_mem run κ q p h n a τ w) $ await ! tt $ split ! $
        answers Z ! at_mem run h τ w
        (λ b' o is_block. fjoin ! $ lands_as ! is_block refl (Answer-typed true b' o) $ returns ! (look_at ! 0 refl) $ free_all ! refl $
        suffices ! _ (ends_at 𝓛 (ended Z) (stays Z) clauses bound (answer_val true b' o) (Ok (block_ptr b' o)) (tt, (tt, (tt, tt))) (tt, (tt, (tt, tt)))) $
        use0 𝓛 (‵ (Answer.own_val (Ok (block_ptr b' o)) (answer_val true b' o ∷ []))) (Answer-Ok 𝓛 b' o) $ nothing ! $ nothing ! $ fjoin ! $ nothing ! $ fjoin ! $ nothing ! $ fjoin ! $ join ! $
        move ! (2 ∷ 3 ∷ []) $ join ! $ join ! $ done !)
        (λ is_none. lands_as ! is_none refl (Answer-typed false 0 0) $ returns ! (look_at ! 0 refl) $ free_all ! refl $ none)))))))))

pub allocate_spec : {M : Type 1} → statement M
unfolding tables_of
allocate_spec 𝓤 𝓛 𝓜 𝓡 wired Y L g d d' met _ =
    let Z : Al = record { row = Y; laws = L; g = g; d = d; drops = d' } in
    let 𝓣 : Tables 𝓤 𝓛.H = tables_of 𝓤 𝓛.H 𝓜 (tables 𝓤 𝓛.H 𝓜 𝓡 𝓡.env) in
    let run = WpFn 𝓤 𝓛.H 𝓣.C 𝓣.Λ (body Z) in
    let c = allocate.clauses Y g d d' 𝓛 𝓜.mem 𝓡.returns in
    let due = cited 𝓤 𝓛.H _ 𝓜 𝓡 𝓡.env question.name (𝓡.env question.name) refl (question_met.met 𝓤 𝓛 𝓜 𝓡 (code.calls-refusing::countdown::Countdown::is_due 𝓡.env wired)) in
    entered 𝓤 𝓛.H (triple_of 𝓛 (allocate.signature Y) (allocate.spec Y g d d' 𝓛 𝓜.mem 𝓡.returns)) 𝓣.C 𝓣.Λ (key.name (args Z)) (body Z) (code.unfolded 𝓤 𝓛.H 𝓜 𝓡 wired (Y, tt) d d')
    (walk_Meets 𝓛 (ended Z) (stays Z) (Goes-dropped 𝓛 2 (self Z) yes (λ κs x f. refl), (Goes-dropped 𝓛 2 (word Z) yes (λ κs x f. refl), (Goes-dropped 𝓛 2 (word Z) yes (λ κs x f. refl), tt))) c run (WpFn-mono 𝓤 𝓛.H 𝓛.laws 𝓣 (body Z))
    (walked 𝓛 (ended Z) (stays Z) c run (λ κs. (shr_vals, (uint_vals w64, (uint_vals w64, tt)))) (λ κs. ((λ r vs s. s.0), (uint_Tells w64, (uint_Tells w64, tt))))
    (λ κs qs bounds a τ are. walk Z 𝓛 𝓜.mem 𝓡.returns 𝓣 (met.allocate d') due κs.0 κs.1.0 qs.0 qs.1.0 bounds.0 a.0 a.1.0 a.1.1.0 τ are.1.0.1 are.1.1.0.1)))
