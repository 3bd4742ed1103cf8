-- The numbers that `he_next` returns for a step.
use Rattle.std.specs.Prelude.{ℕ, ◌≡◌, ◌++◌, List, Option, Some, None, replicate}
use Rattle.std.specs.Int.{w32, w128, to_be_bytes}
use Rattle.he_addr.specs.declared.ip.Ip.{Ip}
use Rattle.he_addr.specs.declared.ip.Ip.TheVariants as families
use Rattle.he_next.specs.declared.fault.NextFault.TheVariants as faults
use Rattle.he_next.specs.declared.step.Action.{Action}
use Rattle.he_next.specs.declared.step.Action.TheVariants as actions
use Rattle.he_next.specs.declared.step.Pause.{Pause}
use Rattle.he_next.specs.declared.step.Step.{Step}
use Rattle.he_next.specs.Faults.{IsNextFault}
use Rattle.he_next.specs.Steps.{IsStep}
use Rattle.he_inputs.specs.declared.input_fault.InputFault.{InputFault}
use Rattle.he_c.specs.Answers.{fault_kind, fault_line, no_details}
use Rattle.he_c.specs.declared.answer.CallDetails.{CallDetails}
use Rattle.he_c.specs.declared.codes.TheConstants.{START, WAIT, WON, EXHAUSTED, LIMIT}
use Rattle.he_c.specs.declared.step.StepNumbers.{StepNumbers}

abbrev pub family_of : Ip → ℕ
family_of (families.V4 bits) = 4
family_of (families.V6 bits) = 6

-- the bytes of an address, the first byte first; an IPv4 address is filled up with 12 zeros
abbrev pub bytes_of : Ip → List ℕ
bytes_of (families.V4 bits) = to_be_bytes w32 bits ++ replicate 12 0
bytes_of (families.V6 bits) = to_be_bytes w128 bits

abbrev pub no_address : List ℕ
no_address = replicate 16 0

-- an action that starts no attempt has neither family nor address
abbrev pub StartsNone : StepNumbers → Type 0
StartsNone step = (step.family ≡ 0) × (step.address ≡ no_address)

-- the numbers of an action; those that it doesn't have are 0
abbrev pub ActsAs : Action → StepNumbers → Type 0
ActsAs (actions.Start place tick ip) step =
    (step.action ≡ START) × (step.place ≡ place) × (step.tick ≡ tick) × (step.family ≡ family_of ip)
    × (step.address ≡ bytes_of ip)
ActsAs (actions.Wait tick) step = (step.action ≡ WAIT) × (step.place ≡ 0) × (step.tick ≡ tick) × StartsNone step
ActsAs (actions.Won place tick) step =
    (step.action ≡ WON) × (step.place ≡ place) × (step.tick ≡ tick) × StartsNone step
ActsAs (actions.Exhausted tick) step =
    (step.action ≡ EXHAUSTED) × (step.place ≡ 0) × (step.tick ≡ tick) × StartsNone step
ActsAs (actions.Limit tick) step = (step.action ≡ LIMIT) × (step.place ≡ 0) × (step.tick ≡ tick) × StartsNone step

-- the numbers of a pause; both are 0 if there is none
abbrev pub PausesAs : Option Pause → StepNumbers → Type 0
PausesAs None step = (step.pause_from ≡ 0) × (step.pause_until ≡ 0)
PausesAs (Some pause) step = (step.pause_from ≡ pause.from) × (step.pause_until ≡ pause.until)

-- no step
abbrev pub no_step : StepNumbers
no_step = record {
  action = 0;
  family = 0;
  place = 0;
  tick = 0;
  pause_from = 0;
  pause_until = 0;
  address = no_address;
}

-- the numbers are those of the record's step
pub record LeavesStep (record_text : List ℕ) (started now : ℕ) (numbers : StepNumbers)
    (details : CallDetails) : Type 0 where
  pub step : Step
  pub is : IsStep record_text started now step
  pub pauses : PausesAs step.pause numbers
  pub acts : ActsAs step.action numbers
  pub tells : details ≡ no_details

-- the details have the reason that the record has no step
pub record LeavesFault (record_text : List ℕ) (started now : ℕ) (details : CallDetails) : Type 0 where
  pub fault : InputFault
  pub is : IsNextFault record_text started now (faults.Record fault)
  pub tells : details ≡ record { length = 0; line = fault_line (Some fault); kind = fault_kind (Some fault) }
