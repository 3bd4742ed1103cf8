-- How a response goes on, step by step.
use Rattle.std.proofs.Common.{◌≡◌, ◌⊎◌, inl, inr, ℕ, ◌+◌, ◌-◌, ◌≤◌, Bool, true, false, List, [], ◌++◌, Option, None, Some, length, take, drop, refl, sym, ◌∙◌, ap, subst, append_assoc, arith}
use Rattle.std.proofs.lemmas.List.{append-nil, drop-drop, length-drop, length-take-le, take-append-drop, take-append-le, take-take, take_all}
use Rattle.tokio.specs.Io.Moved.{Passes}
use Rattle.std.specs.List.{slice_range}
use Rattle.he_body.specs.Bodies.{IsBody}
use Rattle.he_body.specs.Steps.{after, begun}
use Rattle.he_body.specs.declared.body.Body.{Body}
use Rattle.he_body.specs.declared.body.Body.TheVariants.{Over, Broken}
use Rattle.he_body.specs.declared.body.Framing.{Framing}
use Rattle.he_body.proofs.Sound.{is_body}
use Rattle.he_bounded.proofs.Within.{nothing_after}
use Rattle.he_bounded.specs.Goes.{Goes}
use Rattle.he_bounded.specs.InOrder.{goes_counted, goes_on}
use Rattle.he_response.specs.Answers.{EndsWhole, Follows, GoesOn, IsBegun, IsFinal, IsInCounted, IsInRest, NothingAfterTheBody, Stands, held, no_more, one_more}
use Rattle.he_response.specs.Responses.{Reads}
use Rattle.he_response.specs.Returns.{Returns}
use Rattle.he_response.specs.declared.answer.Answer.{Answer}
use Rattle.he_response.specs.declared.part.Part.{Part}
use Rattle.he_response.specs.declared.part.Part.TheVariants as parts
use Rattle.he_response.specs.declared.response.ReadResponse.TheVariants.{Whole}
use Rattle.he_response.specs.declared.response.Response.{Response}
use Rattle.he_response.specs.declared.returned.Returned.{Returned}

-- what follows, at another part and other octets that are equal to these
follows_as : (to_head : Bool) (part part' : Part) (come come' rest text : List ℕ) → part' ≡ part → come' ≡ come → Follows to_head part come rest text
    → Follows to_head part' come' rest text
follows_as to_head part part' come come' rest text p c is =
    subst (λ (q : Part). Follows to_head q come' rest text) (sym p) (subst (λ (t : List ℕ). Follows to_head part t rest text) (sym c) is)

pub begins : (to_head : Bool) (answer : Answer) → answer.to_head ≡ to_head → answer.part ≡ parts.Head → answer.come.items ≡ [] → held answer ≡ []
    → Stands to_head [] [] answer
begins to_head answer asked head nothing empty = record {
  asked = asked;
  interim_came = [];
  interim_gave = [];
  interim = no_more;
  rest = [];
  text = [];
  follows = follows_as to_head parts.Head answer.part [] answer.come.items [] [] head nothing (refl, refl);
  came_is = refl;
  gave_is = empty;
}

-- octets that were moved from the front of those held
pub gave_all : (out room copied : List ℕ) (given count : ℕ) → given ≤ length out → count ≤ length out - given → copied ≡ slice_range out given (given + count)
    → drop given out ≡ take count (copied ++ drop count room) ++ drop (given + count) out
gave_all out room copied given count within few same =
    let front : copied ≡ take count (drop given out) = same ∙ ap (λ k. take k (drop given out)) (omega arith) in
    let held_len : length (drop given out) ≡ length out - given = length-drop given out in
    let len : length copied ≡ count = ap length front ∙ length-take-le count (drop given out) (omega (arith, held_len)) in
    let moved : take count (copied ++ drop count room) ≡ copied = take-append-le count copied (drop count room) (omega arith) ∙ take_all count copied (omega arith) in
    sym (take-append-drop count (drop given out)) ∙ ap (λ t. t ++ drop count (drop given out)) (sym front ∙ sym moved)
    ∙ ap (λ t. take count (copied ++ drop count room) ++ t) (drop-drop count given out)

-- the octets from this one on
pub tail_all : (octets : List ℕ) (len : ℕ) → take (length octets - len) (drop len octets) ≡ drop len octets
tail_all octets len = take_all (length octets - len) (drop len octets) (let n = length-drop len octets in omega arith)

-- octets that were read and counted
pub returns_counted : {R : Type 0} (reads : Passes R) (old new : Returned R) (room : List ℕ) (read taken : ℕ)
    → reads old.inner (take read room) new.inner → read ≤ length room → taken ≤ length (take read room)
    → GoesOn (take read room) (take taken (take read room)) old.answer new.answer → Returns reads old (take taken room) new
returns_counted reads old new room read taken came bound within goes =
    let len : length (take read room) ≡ read = length-take-le read room bound in
    record {
      came = take read room;
      read = came;
      goes_on = subst (λ (t : List ℕ). GoesOn (take read room) t old.answer new.answer) (take-take taken read room (omega arith)) goes;
    }

module _ (old new : Answer) (asked : new.to_head ≡ old.to_head) where
  -- held octets are given
  pub gives : (given : List ℕ) → new.part ≡ old.part → new.come.items ≡ old.come.items → held old ≡ given ++ held new
      → GoesOn [] given old new
  gives given part come moves to_head came gave is = record {
    asked = asked ∙ is.asked;
    interim_came = is.interim_came;
    interim_gave = is.interim_gave;
    interim = is.interim;
    rest = is.rest;
    text = is.text;
    follows = follows_as to_head old.part new.part old.come.items new.come.items is.rest is.text part come is.follows;
    came_is = append-nil came ∙ is.came_is;
    gave_is = append_assoc gave given (held new) ∙ ap (λ t. gave ++ t) (sym moves) ∙ is.gave_is;
  }

  module _ (head : old.part ≡ parts.Head) where
    at_head : (to_head : Bool) (rest text : List ℕ) → Follows to_head old.part old.come.items rest text → (rest ≡ old.come.items) × (text ≡ [])
    at_head to_head rest text is = subst (λ (q : Part). Follows to_head q old.come.items rest text) head is

    -- octets of no response came
    pub breaks : (octets : List ℕ) → new.part ≡ parts.Broken → held new ≡ held old → GoesOn octets [] old new
    breaks octets part same to_head came gave is =
        let at = at_head to_head is.rest is.text is.follows in
        record {
          asked = asked ∙ is.asked;
          interim_came = is.interim_came;
          interim_gave = is.interim_gave;
          interim = is.interim;
          rest = is.rest ++ octets;
          text = [];
          follows = follows_as to_head parts.Broken new.part new.come.items new.come.items (is.rest ++ octets) [] part refl refl;
          came_is = ap (λ t. t ++ octets) is.came_is ∙ append_assoc is.interim_came is.rest octets;
          gave_is = ap (λ t. t ++ held new) (append-nil gave) ∙ ap (λ t. gave ++ t) same ∙ is.gave_is ∙ ap (λ t. is.interim_gave ++ t) at.1;
        }

    -- octets of a head came
    pub hears : (octets : List ℕ) → new.part ≡ parts.Head → new.come.items ≡ old.come.items ++ octets → held new ≡ held old
        → GoesOn octets [] old new
    hears octets part come same to_head came gave is =
        let at = at_head to_head is.rest is.text is.follows in
        record {
          asked = asked ∙ is.asked;
          interim_came = is.interim_came;
          interim_gave = is.interim_gave;
          interim = is.interim;
          rest = is.rest ++ octets;
          text = [];
          follows = follows_as to_head parts.Head new.part (old.come.items ++ octets) new.come.items (is.rest ++ octets) [] part come
              (ap (λ t. t ++ octets) at.0, refl);
          came_is = ap (λ t. t ++ octets) is.came_is ∙ append_assoc is.interim_came is.rest octets;
          gave_is = ap (λ t. t ++ held new) (append-nil gave) ∙ ap (λ t. gave ++ t) same ∙ is.gave_is ∙ ap (λ t. is.interim_gave ++ t) at.1;
        }

    module _ (response : Response) (nothing : held old ≡ []) (reads : Reads old.to_head old.come.items (Whole response)) where
      -- all that was held is given
      all_given : (to_head : Bool) (came gave : List ℕ) (is : Stands to_head came gave old) → gave ≡ is.interim_gave
      all_given to_head came gave is =
          let at = at_head to_head is.rest is.text is.follows in
          sym (append-nil gave) ∙ ap (λ t. gave ++ t) (sym nothing) ∙ is.gave_is ∙ ap (λ t. is.interim_gave ++ t) at.1
          ∙ append-nil is.interim_gave

      reads_as : (to_head : Bool) → old.to_head ≡ to_head → Reads to_head old.come.items (Whole response)
      reads_as to_head same = subst (λ (b : Bool). Reads b old.come.items (Whole response)) same reads

      -- an interim response came
      pub passes : response.is_final ≡ false → new.part ≡ parts.Head → new.come.items ≡ drop response.len old.come.items
          → held new ≡ response.head.items → GoesOn [] [] old new
      passes interim part come text to_head came gave is =
          let at = at_head to_head is.rest is.text is.follows in
          let octets : List ℕ = old.come.items in
          record {
            asked = asked ∙ is.asked;
            interim_came = is.interim_came ++ take response.len octets;
            interim_gave = is.interim_gave ++ response.head.items;
            interim = one_more is.interim_came is.interim_gave octets response is.interim (reads_as to_head is.asked) interim;
            rest = drop response.len octets;
            text = [];
            follows = follows_as to_head parts.Head new.part (drop response.len octets) new.come.items (drop response.len octets) [] part come (refl, refl);
            came_is = append-nil came ∙ is.came_is ∙ ap (λ t. is.interim_came ++ t) (at.0 ∙ sym (take-append-drop response.len octets))
                ∙ sym (append_assoc is.interim_came (take response.len octets) (drop response.len octets));
            gave_is = ap (λ t. t ++ held new) (append-nil gave) ∙ ap (λ t. gave ++ t) text
                ∙ ap (λ t. t ++ response.head.items) (all_given to_head came gave is)
                ∙ sym (append-nil (is.interim_gave ++ response.head.items));
          }

      finals : (to_head : Bool) (framing : Option Framing) → old.to_head ≡ to_head → response.is_final ≡ true → response.framing ≡ framing
          → IsFinal to_head framing (take response.len old.come.items) response.head.items
      finals to_head framing same final framed = record {
        octets = old.come.items;
        response = response;
        reads = reads_as to_head same;
        final = final;
        framed = framed;
        came_is = refl;
        gave_is = refl;
      }

      whole : take response.len old.come.items ++ drop response.len old.come.items ≡ old.come.items
      whole = take-append-drop response.len old.come.items

      -- the body as it begins
      begun_by : (to_head : Bool) (framing : Option Framing) (part : Part) (count : ℕ) → old.to_head ≡ to_head → response.is_final ≡ true
          → response.framing ≡ framing → IsBegun framing (drop response.len old.come.items) part count
          → Follows to_head part new.come.items old.come.items (response.head.items ++ take count (drop response.len old.come.items))
      begun_by to_head None part count same final framed is =
          let rest : List ℕ = drop response.len old.come.items in
          let all : take count rest ≡ rest = take_all count rest (let n = is.1 in omega arith) in
          follows_as to_head parts.Rest part new.come.items new.come.items old.come.items (response.head.items ++ take count rest) is.0 refl
          (record {
            head = take response.len old.come.items;
            text = response.head.items;
            final = finals to_head None same final framed;
            passed = rest;
            came_is = sym whole;
            gave_is = ap (λ t. response.head.items ++ t) all;
          })
      begun_by to_head (Some framing) part count same final framed (body, at, counts) =
          let rest : List ℕ = drop response.len old.come.items in
          follows_as to_head (parts.Body body) part new.come.items new.come.items old.come.items (response.head.items ++ take count rest) at refl
          (record {
            framing = framing;
            head = take response.len old.come.items;
            text = response.head.items;
            final = finals to_head (Some framing) same final framed;
            passed = take count rest;
            dropped = drop count rest;
            goes = goes_counted (begun framing) body rest count counts;
            came_is = sym whole ∙ ap (λ t. take response.len old.come.items ++ t) (sym (take-append-drop count rest));
            gave_is = refl;
          })

      -- the final response came
      pub opens : (part : Part) (count : ℕ) → response.is_final ≡ true → IsBegun response.framing (drop response.len old.come.items) part count
          → new.part ≡ part → held new ≡ response.head.items ++ take count (drop response.len old.come.items) → GoesOn [] [] old new
      opens part count final begun_is same text to_head came gave is =
          let at = at_head to_head is.rest is.text is.follows in
          let out : List ℕ = response.head.items ++ take count (drop response.len old.come.items) in
          record {
            asked = asked ∙ is.asked;
            interim_came = is.interim_came;
            interim_gave = is.interim_gave;
            interim = is.interim;
            rest = old.come.items;
            text = out;
            follows = follows_as to_head part new.part new.come.items new.come.items old.come.items out same refl
                (begun_by to_head response.framing part count is.asked final refl begun_is);
            came_is = append-nil came ∙ is.came_is ∙ ap (λ t. is.interim_came ++ t) at.0;
            gave_is = ap (λ t. t ++ held new) (append-nil gave) ∙ ap (λ t. gave ++ t) text
                ∙ ap (λ t. t ++ out) (all_given to_head came gave is);
          }

  -- octets of the body came, of which the first ones are given
  in_body : (to_head : Bool) (body body' : Body) (rest text passed dropped : List ℕ) → IsInCounted to_head body rest text → Goes body passed dropped body'
      → IsInCounted to_head body' (rest ++ (passed ++ dropped)) (text ++ passed)
  in_body to_head body body' rest text passed dropped at goes =
      let on = goes_on (begun at.framing) body body' at.passed passed at.dropped dropped at.goes goes in
      record {
        framing = at.framing;
        head = at.head;
        text = at.text;
        final = at.final;
        passed = at.passed ++ passed;
        dropped = on.0;
        goes = on.2;
        came_is = ap (λ t. t ++ (passed ++ dropped)) at.came_is ∙ append_assoc at.head (at.passed ++ at.dropped) (passed ++ dropped)
            ∙ ap (λ t. at.head ++ t) on.1;
        gave_is = ap (λ t. t ++ passed) at.gave_is ∙ append_assoc at.text at.passed passed;
      }

  pub counts : (body body' : Body) (octets passed dropped : List ℕ) → old.part ≡ parts.Body body → new.part ≡ parts.Body body' → held old ≡ []
      → held new ≡ [] → octets ≡ passed ++ dropped → Goes body passed dropped body' → GoesOn octets passed old new
  counts body body' octets passed dropped was part nothing empty parted goes to_head came gave is =
      let at : IsInCounted to_head body is.rest is.text = subst (λ (q : Part). Follows to_head q old.come.items is.rest is.text) was is.follows in
      let on : IsInCounted to_head body' (is.rest ++ octets) (is.text ++ passed) =
      subst (λ (t : List ℕ). IsInCounted to_head body' (is.rest ++ t) (is.text ++ passed)) (sym parted)
      (in_body to_head body body' is.rest is.text passed dropped at goes) in
      let given : gave ≡ is.interim_gave ++ is.text = sym (append-nil gave) ∙ ap (λ t. gave ++ t) (sym nothing) ∙ is.gave_is in
      record {
        asked = asked ∙ is.asked;
        interim_came = is.interim_came;
        interim_gave = is.interim_gave;
        interim = is.interim;
        rest = is.rest ++ octets;
        text = is.text ++ passed;
        follows = follows_as to_head (parts.Body body') new.part new.come.items new.come.items (is.rest ++ octets) (is.text ++ passed) part refl on;
        came_is = ap (λ t. t ++ octets) is.came_is ∙ append_assoc is.interim_came is.rest octets;
        gave_is = ap (λ t. (gave ++ passed) ++ t) empty ∙ append-nil (gave ++ passed) ∙ ap (λ t. t ++ passed) given
            ∙ append_assoc is.interim_gave is.text passed;
      }

-- octets of a body without an end came, and all are given
pub goes_through : (answer : Answer) (octets : List ℕ) → answer.part ≡ parts.Rest → held answer ≡ [] → GoesOn octets octets answer answer
goes_through answer octets part empty to_head came gave is =
    let at : IsInRest to_head is.rest is.text = subst (λ (q : Part). Follows to_head q answer.come.items is.rest is.text) part is.follows in
    let given : gave ≡ is.interim_gave ++ is.text = sym (append-nil gave) ∙ ap (λ t. gave ++ t) (sym empty) ∙ is.gave_is in
    record {
      asked = is.asked;
      interim_came = is.interim_came;
      interim_gave = is.interim_gave;
      interim = is.interim;
      rest = is.rest ++ octets;
      text = is.text ++ octets;
      follows = follows_as to_head parts.Rest answer.part answer.come.items answer.come.items (is.rest ++ octets) (is.text ++ octets) part refl
          (record {
            head = at.head;
            text = at.text;
            final = at.final;
            passed = at.passed ++ octets;
            came_is = ap (λ t. t ++ octets) at.came_is ∙ append_assoc at.head at.passed octets;
            gave_is = ap (λ t. t ++ octets) at.gave_is ∙ append_assoc at.text at.passed octets;
          });
      came_is = ap (λ t. t ++ octets) is.came_is ∙ append_assoc is.interim_came is.rest octets;
      gave_is = ap (λ t. (gave ++ octets) ++ t) empty ∙ append-nil (gave ++ octets) ∙ ap (λ t. t ++ octets) given
          ∙ append_assoc is.interim_gave is.text octets;
    }

-- no body begins with what came
pub goes_broken : (body : Body) (octets : List ℕ) → Goes body [] octets Broken
goes_broken body octets = record { counted = inr refl; sound = λ not. not; kept = inr refl; shut = λ _. (refl, refl) }

over_by : (framing : Framing) (passed : List ℕ) → (Over ≡ after (begun framing) passed) ⊎ (Over ≡ Broken)
    → IsBody framing passed
over_by framing passed (inl counted) = is_body framing passed (sym counted)
over_by framing passed (inr broken) = cc

pub ends_whole : EndsWhole
ends_whole to_head came gave answer is over =
    let at : IsInCounted to_head Over is.rest is.text = subst (λ (q : Part). Follows to_head q answer.come.items is.rest is.text) over.0 is.follows in
    let given : gave ≡ is.interim_gave ++ is.text = sym (append-nil gave) ∙ ap (λ t. gave ++ t) (sym over.1) ∙ is.gave_is in
    record {
      interim_came = is.interim_came;
      interim_gave = is.interim_gave;
      interim = is.interim;
      framing = at.framing;
      head = at.head;
      text = at.text;
      final = at.final;
      body = at.passed;
      is_body = over_by at.framing at.passed at.goes.counted;
      dropped = at.dropped;
      came_is = is.came_is ∙ ap (λ t. is.interim_came ++ t) at.came_is;
      gave_is = given ∙ ap (λ t. is.interim_gave ++ t) at.gave_is;
    }

pub nothing_after_it : NothingAfterTheBody
nothing_after_it to_head body came gave is = nothing_after is.framing is.passed is.dropped body is.goes
