-- The results of a call: the text in the caller's buffer, the details, and the answer.
use Rattle.std.specs.Prelude.{ℕ, ◌≡◌, ◌++◌, List, length, drop, if◌then◌else◌, nat_le, Option, Some, None}
use Rattle.he_c.specs.declared.answer.CallDetails.{CallDetails}
use Rattle.he_c.specs.declared.codes.TheConstants.{DONE, FAULT, BUFFER_TOO_SMALL, NO_KIND, HEADER, WORD, NUMBER, ADDRESS, PREFIX, REPEATED, RANGE, TOO_MANY, UNFINISHED, NO_DEFAULT_ROW, NO_MAPPED_ROW, SHARED_PRECEDENCE}
use Rattle.he_select.specs.declared.policy.PolicyFault.{PolicyFault}
use Rattle.he_select.specs.declared.policy.PolicyFault.TheVariants as policies
use Rattle.he_words.specs.declared.fault.TextKind.{TextKind}
use Rattle.he_words.specs.declared.fault.TextKind.TheVariants as kinds
use Rattle.he_inputs.specs.declared.input_fault.InputFault.{InputFault}
use Rattle.he_inputs.specs.declared.input_fault.InputFault.TheVariants.{Text, Read}

-- the number of a policy fault; no text has one of the other causes as a fault, which have the number of none
abbrev pub policy_code : PolicyFault → ℕ
policy_code policies.NoDefault = NO_DEFAULT_ROW
policy_code policies.NoMapped = NO_MAPPED_ROW
policy_code (policies.SharedPrecedence row later) = SHARED_PRECEDENCE
policy_code policies.Size = NO_KIND
policy_code (policies.Repeated row) = NO_KIND
policy_code policies.Memory = NO_KIND

-- the number of a kind of fault
abbrev pub kind_code : TextKind → ℕ
kind_code kinds.Header = HEADER
kind_code kinds.Word = WORD
kind_code kinds.Number = NUMBER
kind_code kinds.Address = ADDRESS
kind_code kinds.Prefix = PREFIX
kind_code kinds.Repeated = REPEATED
kind_code kinds.Range = RANGE
kind_code kinds.TooMany = TOO_MANY
kind_code kinds.Unfinished = UNFINISHED
kind_code (kinds.Policy fault) = policy_code fault
kind_code kinds.Memory = NO_KIND

-- the number of the kind, 0 without a fault; an input in memory doesn't break off
abbrev pub fault_kind : Option InputFault → ℕ
fault_kind None = NO_KIND
fault_kind (Some Read) = UNFINISHED
fault_kind (Some (Text fault)) = kind_code fault.kind

-- the line, 0 without a fault
abbrev pub fault_line : Option InputFault → ℕ
fault_line None = 0
fault_line (Some Read) = 0
fault_line (Some (Text fault)) = fault.line

-- the details of a text and a fault: the length of the text, and the fault's line and kind
abbrev pub details_of : List ℕ → Option InputFault → CallDetails
details_of text fault = record { length = length text; line = fault_line fault; kind = fault_kind fault }

-- no details
abbrev pub no_details : CallDetails
no_details = record { length = 0; line = 0; kind = 0 }

abbrev pub answer_by : Option InputFault → ℕ
answer_by None = DONE
answer_by (Some fault) = FAULT

-- a buffer that is too small goes before a fault
abbrev pub answer_of : List ℕ → List ℕ → Option InputFault → ℕ
answer_of buffer text fault = if nat_le (length text) (length buffer) then answer_by fault else BUFFER_TOO_SMALL

-- the buffer with the text at its front, or unchanged if the text doesn't fit
abbrev pub put_front : List ℕ → List ℕ → List ℕ
put_front text buffer = if nat_le (length text) (length buffer) then text ++ drop (length text) buffer else buffer

-- the text was copied into the buffer, and its details and the fault's are reported
pub record Leaves (text : List ℕ) (fault : Option InputFault) (old new : List ℕ) (details : CallDetails)
    (answer : ℕ) : Type 0 where
  pub put : new ≡ put_front text old
  pub tells : details ≡ details_of text fault
  pub answers : answer ≡ answer_of old text fault

-- the buffer is unchanged, and there are no details
pub record LeavesNothing (old new : List ℕ) (details : CallDetails) : Type 0 where
  pub same : new ≡ old
  pub tells : details ≡ no_details
