-- How a client comes to the stage of its request.
use Rattle.std.proofs.Common.{◌≡◌, ℕ, List, [], ◌++◌, take, refl, sym, ap, ◌∙◌, subst, append_assoc}
use Rattle.std.proofs.lemmas.List.{take-append-drop}
use Rattle.tokio.specs.Io.Moved.{Passes}
use Rattle.he_front.specs.declared.socks.Method.{Method}
use Rattle.he_front.specs.declared.socks.Method.TheVariants as ways
use Rattle.he_users.specs.declared.users.Users.{Users}
use Rattle.he_sessions.proofs.Talking.{talks_as, talks_more}
use Rattle.he_handshake.specs.Asks.{LeadsTo, method_of, stage_by}
use Rattle.he_handshake.specs.Replies.{step_reply}
use Rattle.he_sessions.specs.Sessions.{IsAdvanced, IsAsking, MayAnswer}
use Rattle.he_sessions.specs.Talks.{HasGreeted, Talks, welcome}
use Rattle.he_handshake.specs.declared.asking.Ask.TheVariants as asks
use Rattle.he_handshake.specs.declared.asking.Stage.{Stage}
use Rattle.he_handshake.specs.declared.asking.Stage.TheVariants as stages
use Rattle.he_sessions.specs.declared.states.Asking.{Asking}

-- the answer to a greeting leads neither back nor past the password
not_new : (method : Method) → stages.New ≡ stage_by method → ⊥
not_new ways.Open same = cc
not_new ways.Password same = cc

not_admitted : (method : Method) → stages.Admitted ≡ stage_by method → ⊥
not_admitted ways.Open same = cc
not_admitted ways.Password same = cc

no_stage : (stage : Stage) → stage ≡ stages.Admitted → (stages.Admitted ≡ stage → ⊥) → ⊥
no_stage stage same other = other (sym same)

-- the octets of the message are the last ones before the next stage
greeted_on : (users : Users) (stage next : Stage) (greeting come : List ℕ) (len : ℕ) → HasGreeted users stage greeting
    → LeadsTo users stage come next len → HasGreeted users next (greeting ++ take len come)
greeted_on users stages.New stages.New greeting come len none leads = absurd (not_new (method_of users) leads.1)
greeted_on users stages.New stages.Greeted greeting come len none leads =
    record { come = come; len = len; begins = leads; front = ap (λ xs. xs ++ take len come) none }
greeted_on users stages.New stages.Authenticating greeting come len none leads =
    record { come = come; len = len; begins = leads; front = ap (λ xs. xs ++ take len come) none }
greeted_on users stages.New stages.Admitted greeting come len none leads = absurd (not_admitted (method_of users) leads.1)
greeted_on users stages.Greeted next greeting come len before leads = absurd leads
greeted_on users stages.Authenticating stages.New greeting come len before leads = absurd (no_stage stages.New leads.1 (λ same. cc))
greeted_on users stages.Authenticating stages.Greeted greeting come len before leads =
    absurd (no_stage stages.Greeted leads.1 (λ same. cc))
greeted_on users stages.Authenticating stages.Authenticating greeting come len before leads =
    absurd (no_stage stages.Authenticating leads.1 (λ same. cc))
greeted_on users stages.Authenticating stages.Admitted greeting come len before leads =
    (greeting, take len come, before, record { come = come; len = len; begins = leads; front = refl }, refl)
greeted_on users stages.Admitted next greeting come len before leads = absurd leads

-- the answers so far and the next one are those before the next stage
welcome_on : (users : Users) (stage next : Stage) (come : List ℕ) (len : ℕ) → LeadsTo users stage come next len
    → welcome stage ++ step_reply next ≡ welcome next
welcome_on users stages.New stages.New come len leads = refl
welcome_on users stages.New stages.Greeted come len leads = refl
welcome_on users stages.New stages.Authenticating come len leads = refl
welcome_on users stages.New stages.Admitted come len leads = absurd (not_admitted (method_of users) leads.1)
welcome_on users stages.Greeted next come len leads = absurd leads
welcome_on users stages.Authenticating stages.New come len leads = absurd (no_stage stages.New leads.1 (λ same. cc))
welcome_on users stages.Authenticating stages.Greeted come len leads = absurd (no_stage stages.Greeted leads.1 (λ same. cc))
welcome_on users stages.Authenticating stages.Authenticating come len leads =
    absurd (no_stage stages.Authenticating leads.1 (λ same. cc))
welcome_on users stages.Authenticating stages.Admitted come len leads = refl
welcome_on users stages.Admitted next come len leads = absurd leads

module _ {S : Type 0} (reads writes : Passes S) (first : S) where
  -- the answer to the message is written next
  pub is_advanced : (users : Users) (asking next : Asking S) (stage : Stage) (len : ℕ) → MayAnswer users asking (asks.Step stage len)
      → IsAdvanced stage len asking next → IsAsking reads writes first users asking → IsAsking reads writes first users next
  is_advanced users asking next stage len may after at =
      let message = take len asking.come.items in
      let said : at.greeting ++ asking.come.items ≡ (at.greeting ++ message) ++ next.come.items =
      ap (λ xs. at.greeting ++ xs) (sym (take-append-drop len asking.come.items) ∙ ap (λ xs. message ++ xs) (sym after.rest))
      ∙ sym (append_assoc at.greeting message next.come.items) in
      record {
        greeting = at.greeting ++ message;
        greeted = subst (λ (s : Stage). HasGreeted users s (at.greeting ++ message)) (sym after.stage)
            (greeted_on users asking.stage stage at.greeting asking.come.items len at.greeted may.asks);
        talks = talks_as reads writes first _ _ _ _ _ _ _ _ said (sym after.client) (sym after.reply)
            (welcome_on users asking.stage stage asking.come.items len may.asks ∙ ap welcome (sym after.stage))
            (talks_more reads writes first _ _ _ (step_reply stage)
            (talks_as reads writes first _ _ _ _ _ _ _ _ refl refl may.told refl at.talks));
      }

  -- it was asked for its name and password
  pub asked_for : (users : Users) (asking : Asking S) → asking.reply.items ≡ [] → asking.stage ≡ stages.Authenticating
      → (at : IsAsking reads writes first users asking)
      → Talks reads writes first (at.greeting ++ asking.come.items) asking.client [] (welcome stages.Authenticating)
  asked_for users asking written here at =
      talks_as reads writes first _ _ _ _ _ _ _ _ refl refl written (ap welcome here) at.talks
