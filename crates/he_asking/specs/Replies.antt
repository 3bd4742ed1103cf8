-- The reply that a message makes to a question, by he_dns.
use Rattle.std.specs.Prelude.{◌≡◌, ◌<◌, ◌⊎◌, ◌==◌, ⊤, ℕ, true, List, [], Option, Some, None, length, if◌then◌else◌}
use Rattle.std.specs.Global.{Global}
use Rattle.he_addr.specs.declared.ip.Family.{Family}
use Rattle.he_dns.specs.declared.answer.Answer.{Answer}
use Rattle.he_dns.specs.declared.fault.AnswerFault.{AnswerFault}
use Rattle.he_dns.specs.declared.fault.AnswerFault.TheVariants as answers
use Rattle.he_dns.specs.Answers.{Answers, HasFault}
use Rattle.he_dns.specs.Codes.{IsRefusal}
use Rattle.he_dns.specs.Header.{IsLame}
use Rattle.he_dns.specs.Ttls.{MayKeep}
use Rattle.he_settings.specs.Faults.{is_of_room}
use Rattle.he_settings.specs.declared.failure.Failure.{Failure}
use Rattle.he_settings.specs.declared.failure.Failure.TheVariants as failures
use Rattle.he_asking.specs.declared.replies.Reply.{Reply}
use Rattle.he_asking.specs.declared.replies.Reply.TheVariants as replies

-- the failure of a response code (RFC 1035 section 4.1.1, RFC 6891 section 9)
abbrev pub failure_of : ℕ → Failure
failure_of code = if code == 1 then failures.FormatError
    else if code == 2 then failures.ServerFailure
    else if code == 4 then failures.NotImplemented
    else if code == 5 then failures.Refused
    else if code == 16 then failures.BadVersion
    else failures.Code code

-- a server that answers that it can't read a query with an OPT record is asked without one from then on
abbrev pub LeavesOut : Reply → Option ℕ → Option ℕ → Type 0
LeavesOut (replies.Failure failure) (Some room) left = is_of_room failure ≡ true → left ≡ None
LeavesOut reply room left = ⊤

-- a truncated answer is asked for again; there is no such name; otherwise the server failed
abbrev pub fault_reply : AnswerFault → Reply
fault_reply answers.Truncated = replies.Truncated
fault_reply answers.NoSuchName = replies.NoSuchName
fault_reply answers.Memory = replies.Memory
fault_reply answers.ServerFailure = replies.Failure failures.ServerFailure
fault_reply answers.Refused = replies.Failure failures.Refused
fault_reply (answers.OtherCode code) = replies.Failure (failure_of code)
fault_reply answers.ChainTooLong = replies.Failure failures.Aliases
fault_reply fault = replies.Failure failures.Malformed

-- the addresses; or that there are none, unless the server is lame
abbrev pub TellsAnswer : List ℕ → Answer Global → Reply → Type 0
TellsAnswer message answer (replies.Addresses told) = (told ≡ answer) × (0 < length answer.addresses.items)
TellsAnswer message answer replies.NoAddress = (answer.addresses.items ≡ []) × (IsLame message → ⊥)
TellsAnswer message answer (replies.Failure failure) =
    (answer.addresses.items ≡ []) × IsLame message × (failure ≡ failures.Lame)
TellsAnswer message answer other = ⊥

-- a message for another question, or without one, is ignored, unless the server refuses without repeating the
-- question
abbrev pub StrangeReply : List ℕ → ℕ → Option Reply → Type 0
StrangeReply message id None = (code : ℕ) → IsRefusal message id code → ⊥
StrangeReply message id (Some reply) =
    (code : ℕ) × IsRefusal message id code × (reply ≡ replies.Failure (failure_of code))

abbrev pub FaultReply : List ℕ → ℕ → AnswerFault → Option Reply → Type 0
FaultReply message id answers.NotOurs reply = StrangeReply message id reply
FaultReply message id fault reply = reply ≡ Some (fault_reply fault)

-- the message has addresses, or a fault
abbrev pub ComesTo : List ℕ → ℕ → List ℕ → Family → Option Reply → Type 0
ComesTo message id name family reply =
    ((answer : Answer Global) × (told : Reply) × Answers message id name family answer.addresses.items
    × MayKeep message id name family answer.ttl × TellsAnswer message answer told × (reply ≡ Some told))
    ⊎ ((fault : AnswerFault) × HasFault message id name family fault × FaultReply message id fault reply)
