-- The code of a response: RCODE (RFC 1035 section 4.1.1), with the upper 8 bits from an OPT record (RFC 6891).
use Rattle.std.specs.Prelude.{◌≡◌, ◌≢◌, ◌⊎◌, ◌+◌, ◌*◌, ◌==◌, ℕ, List, [], ◌∷◌, Option, Some, None, if◌then◌else◌, filter, length}
use Rattle.he_dns.specs.declared.fault.AnswerFault.{AnswerFault}
use Rattle.he_dns.specs.declared.fault.AnswerFault.TheVariants as faults
use Rattle.he_dns.specs.declared.records.Record.{Record}
use Rattle.he_dns.specs.Header.{IsHeader, qr_and_opcode_of, rcode_of, tc_of}
use Rattle.he_dns.specs.Numbers.{IsWordAt, header_len, type_opt}
use Rattle.he_dns.specs.Records.{AreRecords}

-- the records of the additional section, after those of the answer section, which begins at this place, and of the
-- authority section. NSCOUNT is at 8, ARCOUNT at 10 (RFC 1035 section 4.1.1)
pub record AreAdditional (message : List ℕ) (answers at : ℕ) (additional : List Record) : Type 0 where
  pub answer : List Record
  pub authority : List Record
  pub answer_end : ℕ
  pub begin : ℕ
  pub end : ℕ
  pub answer_stand : AreRecords message at answer answer_end
  pub authority_stand : AreRecords message answer_end authority begin
  pub additional_stand : AreRecords message begin additional end
  pub ancount : length answer ≡ answers
  pub nscount : IsWordAt message 8 (length authority)
  pub arcount : IsWordAt message 10 (length additional)

abbrev pub opts_in : List Record → List Record
opts_in records = filter (λ r. r.kind == type_opt) records

-- EXTENDED-RCODE, the first octet of an OPT record's TTL (RFC 6891 section 6.1.3); 0 if there is no such record.
-- There is at most one, and its name is the root's (sections 6.1.1 and 6.1.2)
abbrev pub IsExtension : List Record → ℕ → Type 0
IsExtension [] extension = extension ≡ 0
IsExtension (opt ∷ []) extension = (opt.owner ≡ []) × (extension ≡ opt.ttl_first)
IsExtension more extension = ⊥

abbrev pub HasExtension : List ℕ → ℕ → ℕ → ℕ → Type 0
HasExtension message answers at extension =
    (additional : List Record) × AreAdditional message answers at additional
    × IsExtension (opts_in additional) extension

-- an error code other than 3 (no such name)
abbrev pub IsFailure : ℕ → Type 0
IsFailure code = (code ≢ 0) × (code ≢ 3)

-- the 12-bit code of a response (section 6.1.3). If its upper bits can't be determined, the code of its header counts
-- only if it is a failure
abbrev pub HasCode : List ℕ → ℕ → ℕ → ℕ → ℕ → Type 0
HasCode message flags answers at code =
    ((extension : ℕ) × HasExtension message answers at extension × (code ≡ extension * 16 + rcode_of flags))
    ⊎ (((extension : ℕ) → HasExtension message answers at extension → ⊥) × IsFailure code × (code ≡ rcode_of flags))

-- why a response with this code has no answer; None for code 0
abbrev pub code_fault : ℕ → Option AnswerFault
code_fault code = if code == 0 then None
    else if code == 2 then Some faults.ServerFailure
    else if code == 3 then Some faults.NoSuchName
    else if code == 5 then Some faults.Refused
    else Some (faults.OtherCode code)

-- the response is whole, and its code is 0
abbrev pub IsFine : List ℕ → ℕ → ℕ → ℕ → Type 0
IsFine message flags answers at = (tc_of flags ≢ 1) × HasCode message flags answers at 0

-- the response is cut off; or it is whole, with an error code; or its code can't be determined
abbrev pub HasNoAnswer : List ℕ → ℕ → ℕ → ℕ → AnswerFault → Type 0
HasNoAnswer message flags answers at faults.Truncated = tc_of flags ≡ 1
HasNoAnswer message flags answers at faults.Malformed =
    (tc_of flags ≢ 1) × ((code : ℕ) → HasCode message flags answers at code → ⊥)
HasNoAnswer message flags answers at fault =
    (tc_of flags ≢ 1) × ((code : ℕ) × HasCode message flags answers at code × (code_fault code ≡ Some fault))

-- a response to the query with this id, without a question and with a code other than 0 and 3: the server refuses
pub record IsRefusal (message : List ℕ) (id code : ℕ) : Type 0 where
  pub flags : ℕ
  pub answers : ℕ
  pub header : IsHeader message id flags 0 answers
  pub standard : qr_and_opcode_of flags ≡ 16
  pub says : HasCode message flags answers header_len code
  pub fails : IsFailure code
