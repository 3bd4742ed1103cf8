-- The addresses that are written.
use Rattle.std.proofs.Common.{◌≡◌, ◌⊎◌, ◌∙◌, ◌++◌, ℕ, Bool, List, [], false, true, ap, inl, inr, ne_eqb, refl, subst, sym}
use Rattle.std.specs.Global.{Vec}
use Rattle.std.specs.Prelude.{◌==◌, IfOk, Result}
use Rattle.he_addr.specs.declared.ip.Family.TheVariants as families
use Rattle.he_addr.specs.declared.ip.Ip.{Ip}
use Rattle.he_inputs.specs.declared.stream_fault.StreamFault.{StreamFault}
use Rattle.he_json.specs.Names.{names_text}
use Rattle.he_names.specs.Answers.{Answers, answer_of}
use Rattle.he_request.specs.declared.names.Names.{Names}
use Rattle.he_stream.specs.declared.stream.OutputStream as outputs
use Rattle.he_tasks.specs.declared.reports.TheConstants.{DONE, FAULT}
use Rattle.he_command.specs.Names.{ShowsNames, names_output}
use Rattle.he_command.specs.Objects.{ShowsMade}
use Rattle.he_command.specs.declared.names.NamesEnd.{NamesEnd}
use Rattle.he_command.proofs.Shown.{shows_such}

pub not_done : (n : ℕ) → (n ≡ 0 → ⊥) → false ≡ (n == DONE)
not_done n other = sym (ne_eqb n 0 other)

pub is_done : (n : ℕ) → n ≡ 0 → true ≡ (n == DONE)
is_done n is = subst (λ (m : ℕ). true ≡ (m == DONE)) (sym is) refl

-- the status after a text that was written
pub then_status : (shown status : ℕ) → shown ≡ 0 → (status ≡ DONE) ⊎ (status ≡ FAULT) → (status ≡ shown) ⊎ (status ≡ FAULT)
then_status shown status is (inl done) = inl (done ∙ sym is)
then_status shown status is (inr fault) = inr fault

pub shows_names : {O : Type 0} (output : outputs.Ghosts O) (names : Names) (found : Answers) (made : Result (Vec ℕ) StreamFault) (before after : O) (shown : ℕ) (end : NamesEnd)
    → IfOk made (λ text. text.items ≡ names_output names.is_json names.host.now found) → ShowsMade output made before after shown
    → end.is_found ≡ (shown == DONE) → (end.status ≡ shown) ⊎ (end.status ≡ FAULT) → ShowsNames output names found before after end
shows_names output names found made before after shown end is took found_so status_is =
    (shown, shows_such output (λ text. text ≡ names_output names.is_json names.host.now found) made before after shown is took, found_so, status_is)

pub names_object : (is_json : Bool) (host : List ℕ) (found : Answers) (aaaa a : ℕ × List Ip) (empty new : List ℕ)
    → is_json ≡ true → aaaa ≡ answer_of families.V6 found → a ≡ answer_of families.V4 found → empty ≡ []
    → new ≡ empty ++ names_text host aaaa a → new ≡ names_output is_json host found
names_object is_json host found aaaa a empty new json six four none is =
    subst (λ (b : Bool). new ≡ names_output b host found) (sym json)
    (subst (λ (one : ℕ × List Ip). new ≡ names_text host one (answer_of families.V4 found)) six
    (subst (λ (other : ℕ × List Ip). new ≡ names_text host aaaa other) four
    (is ∙ ap (λ before. before ++ names_text host aaaa a) none)))
