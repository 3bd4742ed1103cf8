-- A lent `Refusing`: its two parts, and the countdown's question at a call. Assumes `Logic`.
use Rattle.std.proofs.Common.{◌≡◌, ℕ, ◌+◌, List, [], ◌∷◌, Bool, refl, ap}
use seplogic.Ra.Ura.{Ura}
use mir.Val.{Val, vbool, vptr}
use base.Logic.{SProp, ent, sep, ex, guard, id⊢}
use base.Fml.{Lft, Share, ftrue, fsep, flft}
use prog.Memory.{Memory, size, align, up}
use prog.Routine.{Routine}
use types.Logic.{Logic, sem}
use contract.Monad.{Fun}
use types.Kit.{‵, raw, ◌⊛◌, some, later, ◌$◌, ◌∵◌, !, qed, move, keep, use1, split, join, pick, fsplit, fjoin, feq_i, feq_l, check, show, await, updating, now as at_once, done}
use denote.RattleType.{RattleType}
use denote.Memory.{hidden_shr}
use denote.Builtin.{bool}
use denote.Opens.{unhide}
use denote.Param.{param}
use denote.Steps.{nothing, only}
use denote.Triple.Statement.{Contract}
use denote.Triple.Spec.{triple_of}
use Rattle.std.proofs.alloc.Calls.{Al, α, seen}
use Rattle.refusing.specs.contracts.heap.Refusing as heap
use Rattle.refusing.specs.contracts.countdown.Countdown as countdown
use Rattle.refusing.specs.contracts.countdown.Countdown.is_due as question

abbrev pub Countdown : RattleType
Countdown = countdown.the_row

module _ (Z : Al) where
  abbrev pub Refusing : RattleType
  Refusing = heap.the_row (param 0 Z.row)

  -- where the handle and the countdown lie, in a `Refusing` at p
  abbrev pub inner_at : ℕ × ℕ → ℕ × ℕ
  inner_at p = (p.0, p.1 + up (align (α Z)) 0)

  abbrev pub countdown_at : ℕ × ℕ → ℕ × ℕ
  countdown_at p = (p.0, p.1 + up 8 (up (align (α Z)) 0 + size (α Z)))

module _ {M : Type 1} {𝓤 : Ura M} (𝓛 : Logic 𝓤) where
  abbrev pub counting : Lft → ℕ × ℕ → Countdown.Denot → SProp 𝓤
  counting κ p c = sem 𝓛 (hidden_shr Countdown κ c p.0 p.1)

  pub parts : (Z : Al) (κ : Lft) (p : ℕ × ℕ) (h : (Refusing Z).Denot)
      → ent 𝓤 (sem 𝓛 (hidden_shr (Refusing Z) κ h p.0 p.1)) (sep 𝓤 (sem 𝓛 (seen Z κ (inner_at Z p) h.inner)) (counting κ (countdown_at Z p) h.countdown))
  parts Z κ p h =
      qed 𝓛 (‵ (hidden_shr (Refusing Z) κ h p.0 p.1) ∷ []) ∵ unhide ! $ fsplit ! $ fsplit ! $ move ! (1 ∷ []) $ fsplit ! $ keep ! (0 ∷ 2 ∷ []) $
      use1 𝓛 (‵ (hidden_shr Countdown κ h.countdown (countdown_at Z p).0 (countdown_at Z p).1)) (id⊢ 𝓤 _) $ move ! (1 ∷ []) $
      use1 𝓛 (‵ (seen Z κ (inner_at Z p) h.inner)) (id⊢ 𝓤 _) $ join ! $ done !

module _ {M : Type 1} {𝓤 : Ura M} (𝓛 : Logic 𝓤) (at_mem : Memory → SProp 𝓤) (run : Routine → Fun 𝓤) where
  abbrev pub Asks : Contract 𝓤
  Asks = triple_of 𝓛 question.signature (question.spec 𝓛 at_mem run)

module _ {M : Type 1} {𝓤 : Ura M} (𝓛 : Logic 𝓤) (at_mem : Memory → SProp 𝓤) (run : Routine → Fun 𝓤) (κ : Lft) (q : Share) (p : ℕ × ℕ) (c : Countdown.Denot) where
  open 𝓛 use {H, A}

  -- the call at a countdown c that lies at p and is lent for κ
  abbrev pub asking : (Asks 𝓛 at_mem run).Ghost
  asking = (((κ, tt), (q, tt), tt, (record { ref_ptr = p; now = c }, tt), (vptr p.0 p.1 ∷ [], tt)), tt)

  pub asks : ent 𝓤 (sep 𝓤 (counting 𝓛 κ p c) (A.lft κ q)) ((Asks 𝓛 at_mem run).pre asking)
  asks =
      qed 𝓛 (‵ (hidden_shr Countdown κ c p.0 p.1) ∷ ‵ (flft κ q) ∷ []) ∵
      feq_i ! (List Val) (vptr p.0 p.1 ∷ []) (vptr p.0 p.1 ∷ []) refl $ fjoin ! $ nothing ! $ move ! (1 ∷ []) $ fjoin ! $
      nothing ! $ move ! (2 ∷ []) $ join ! $ join ! $ nothing ! $ move ! (1 ∷ []) $ done !

  -- it answers a bool, and the token comes back
  pub is_told : (v : Val) → ent 𝓤 ((Asks 𝓛 at_mem run).post asking v) (H.⇛ (ex 𝓤 (λ (b : Bool). guard 𝓤 (v ≡ vbool b) (A.lft κ q))))
  is_told v =
      qed 𝓛 (raw ((Asks 𝓛 at_mem run).post asking v) ∷ []) ∵ updating ! $
      use1 𝓛 (later (some (λ (b : Bool). ((‵ (flft κ q) ⊛ ‵ ftrue) ⊛ ‵ (bool.own_val b (v ∷ []))) ⊛ some (λ (ws : Unit {0} × Unit {0}). ‵ (fsep ftrue ftrue) ⊛ ‵ ftrue)))) (id⊢ 𝓤 _) $
      await ! tt $ pick ! (λ b. split ! $ split ! $ move ! (1 ∷ []) $ feq_l ! (λ e. split ! $ keep ! (0 ∷ []) $ at_once ! $
      show ! (λ (y : Bool). guard 𝓤 (v ≡ vbool y) (A.lft κ q)) b $ check ! (ap only e) $ done !))
