-- Mirrors the code: the rest of a line while it is read, and the contents of a line of the program.
use Rattle.std.specs.Prelude.{ℕ, ◌≡◌, ◌==◌, ◌||◌, Bool, true, List, [], ◌∷◌, Option, Some, None, Result, Ok, Err}
use Rattle.std.specs.Borrow.{Bor}
use Rattle.he_words.specs.Ranges.{line_end, token_end}
use Rattle.he_words.specs.declared.fault.TextKind.{TextKind}
use Rattle.he_reading.specs.Parts.{tokens_of}
use Rattle.he_addr.specs.Prefix.{PrefixBits}
use Rattle.he_record.specs.declared.line.RecordLine.{RecordLine}
use Rattle.he_record.specs.declared.line.RecordLine.TheVariants as lines
use Rattle.he_record.specs.declared.nat64.Nat64Prefix.{Nat64Prefix}
use Rattle.he_record.specs.declared.tokens.Tokens.{Tokens}
use Rattle.he_record.specs.Said.{Said, AtSaid, ToSaid, FromSaid, LookupSaid, Nat64Said, ServerSaid, AttemptSaid, UntriedSaid, EndSaid}

abbrev pub tokens_in : Option (Bor (List ℕ)) → List (List ℕ)
tokens_in None = []
tokens_in (Some rest) = tokens_of rest.now

abbrev pub tokens_left : Tokens → List (List ℕ)
tokens_left tokens = tokens_in tokens.rest

-- whether a token ends before these bytes
abbrev pub ends_token : List ℕ → Bool
ends_token [] = true
ends_token (byte ∷ more) = byte == token_end || byte == line_end

-- the prefix of a line of the program
abbrev pub parts_of : Nat64Prefix → PrefixBits
parts_of prefix = record { bits = prefix.bits; len = prefix.len }

-- the contents of a line of the program
abbrev pub said_of : RecordLine → Said
said_of (lines.At moment) = AtSaid moment
said_of (lines.To host port) = ToSaid host.now port
said_of (lines.From ip) = FromSaid ip
said_of (lines.Lookup family reason) = LookupSaid family reason
said_of (lines.Nat64 prefix) = Nat64Said (parts_of prefix)
said_of (lines.Server ip reason ticks) = ServerSaid ip reason ticks
said_of (lines.Attempt ip reason) = AttemptSaid ip reason
said_of (lines.Untried ip) = UntriedSaid ip
said_of (lines.End end) = EndSaid end

-- a line of the program was read by the form, or has its fault
abbrev pub IsFormOf : (List (List ℕ) → Result Said TextKind) → List (List ℕ) → Result RecordLine TextKind → Type 0
IsFormOf form tokens (Ok line) = form tokens ≡ Ok (said_of line)
IsFormOf form tokens (Err kind) = form tokens ≡ Err kind

abbrev pub target_shown : Option (Bor (List ℕ) × ℕ) → Option (List ℕ × ℕ)
target_shown None = None
target_shown (Some target) = Some (target.0.now, target.1)
