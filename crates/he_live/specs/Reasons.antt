-- Why attempts of a live race failed, and the lines that report them.
use Rattle.std.specs.Prelude.{ℕ, ◌≡◌, ◌==◌, ◌+◌, ◌++◌, Bool, true, false, if◌then◌else◌, List, [], ◌∷◌, map, filter, flat_map, codes, decimal, ℤ, unsigned_abs, Option, Some, None}
use Rattle.std.specs.IoError.{error_kind, raw_os_error}
use Rattle.std.specs.declared.io.Error.{Error}
use Rattle.std.specs.declared.io.ErrorKind.{ErrorKind}
use Rattle.std.specs.declared.io.ErrorKind.TheVariants as kinds
use Rattle.he_addr.specs.Printing.{printed}
use Rattle.he_addr.specs.declared.ip.Ip.{Ip}
use Rattle.he_plan.specs.declared.transcript.Line.{Line}
use Rattle.he_plan.specs.declared.transcript.Mark.{Mark}
use Rattle.he_plan.specs.declared.transcript.Mark.TheVariants as marks
use Rattle.he_live.specs.declared.failures.FailedAttempt.{FailedAttempt}
use Rattle.he_live.specs.declared.reason.Reason.{Reason}
use Rattle.he_live.specs.declared.reason.Reason.TheVariants.{Refused, Reset, Aborted, TimedOut, HostUnreachable, NetworkUnreachable, NetworkDown, AddressNotAvailable, NoFamily, TooManyFiles, TooManyFilesInSystem, OutOfMemory, NoBuffers, Prohibited, Other, Unknown}

-- the errors of Linux with words of their own, by their numbers on x86-64 and aarch64
abbrev pub numbered : List (ℕ × Reason)
numbered =
    (1, Prohibited) ∷ (12, OutOfMemory) ∷ (13, Prohibited) ∷ (23, TooManyFilesInSystem) ∷ (24, TooManyFiles)
    ∷ (97, NoFamily) ∷ (99, AddressNotAvailable) ∷ (100, NetworkDown) ∷ (101, NetworkUnreachable) ∷ (103, Aborted)
    ∷ (104, Reset) ∷ (105, NoBuffers) ∷ (110, TimedOut) ∷ (111, Refused) ∷ (112, HostUnreachable)
    ∷ (113, HostUnreachable) ∷ []

abbrev pub reason_in : List (ℕ × Reason) → ℕ → Reason
reason_in [] number = Other number
reason_in (row ∷ rows) number = if number == row.0 then row.1 else reason_in rows number

abbrev pub reason_of_number : ℕ → Reason
reason_of_number number = reason_in numbered number

abbrev pub reason_without_number : ErrorKind → Reason
reason_without_number kinds.OutOfMemory = OutOfMemory
reason_without_number kind = Other 0

abbrev pub reason_of_numbered : Option ℤ → ErrorKind → Reason
reason_of_numbered (Some number) kind = reason_of_number (unsigned_abs number)
reason_of_numbered None kind = reason_without_number kind

-- why an attempt failed with the error
abbrev pub reason_of : Error → Reason
reason_of error = reason_of_numbered (raw_os_error error) (error_kind error)

-- this machine could not make a socket, for lack of descriptors, memory, buffers or the address family, which is no
-- fault of the address. An error that a router or a route caused does not count: connect(2) gives EACCES and EPERM
-- for those and for local ones
abbrev pub is_local : Reason → Bool
is_local NoFamily = true
is_local TooManyFiles = true
is_local TooManyFilesInSystem = true
is_local OutOfMemory = true
is_local NoBuffers = true
is_local reason = false

abbrev pub words_of : Reason → List ℕ
words_of Refused = codes "refused"
words_of Reset = codes "reset"
words_of Aborted = codes "aborted"
words_of TimedOut = codes "timed out"
words_of HostUnreachable = codes "unreachable"
words_of NetworkUnreachable = codes "network unreachable"
words_of NetworkDown = codes "network down"
words_of AddressNotAvailable = codes "address not available"
words_of NoFamily = codes "address family not supported"
words_of TooManyFiles = codes "too many open files"
words_of TooManyFilesInSystem = codes "too many open files in system"
words_of OutOfMemory = codes "out of memory"
words_of NoBuffers = codes "no buffer space"
words_of Prohibited = codes "prohibited"
words_of (Other number) = codes "system error "
words_of Unknown = codes "unknown reason"

abbrev pub reason_text : Reason → List ℕ
reason_text (Other number) = words_of (Other number) ++ decimal number
reason_text reason = words_of reason

-- attempts are printed from 1
abbrev pub place_text : ℕ → List ℕ
place_text place = codes "he: attempt " ++ decimal (place + 1)

abbrev pub at_text : Ip → List ℕ
at_text ip = codes " at " ++ printed ip

-- he: attempt PLACE at ADDRESS
abbrev pub start_text : FailedAttempt → List ℕ
start_text x = place_text x.place ++ at_text x.ip

abbrev pub fault_text : Reason → List ℕ
fault_text reason = if is_local reason then codes " could not begin: " else codes " failed: "

-- failed: WORDS, and a newline
abbrev pub why_text : Reason → List ℕ
why_text reason = fault_text reason ++ reason_text reason ++ 10 ∷ []

-- he: attempt PLACE at ADDRESS failed: WORDS
abbrev pub failure_line : FailedAttempt → List ℕ
failure_line x = start_text x ++ why_text x.reason

abbrev pub failure_lines : List FailedAttempt → List ℕ
failure_lines failed = flat_map failure_line failed

-- the first attempt that failed to start on this machine itself
abbrev pub first_local : List FailedAttempt → Option FailedAttempt
first_local [] = None
first_local (x ∷ failed) = if is_local x.reason then Some x else first_local failed

abbrev pub is_failure : Mark → Bool
is_failure (marks.Failed tick) = true
is_failure mark = false

abbrev pub has_failed : Line → Bool
has_failed line = is_failure line.mark

abbrev pub place_of : FailedAttempt → ℕ × Ip
place_of x = (x.place, x.ip)

abbrev pub place_of_line : Line → ℕ × Ip
place_of_line line = (line.place, line.ip)

-- these are the failed attempts by place, each with its address
abbrev pub AreFailed : List Line → List FailedAttempt → Type 0
AreFailed lines failed =
    map place_of failed ≡ map place_of_line (filter has_failed lines)
