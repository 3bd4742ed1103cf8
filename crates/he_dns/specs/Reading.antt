-- Mirrors the code: the results of the readers, as functions on lists. `Names`, `Header`, `Records`, `Chains` and
-- `Answers` define the parts of a message.
use Rattle.std.specs.Prelude.{◌≡◌, ℕ, zero, suc, ◌+◌, ◌-◌, ◌*◌, ◌<◌, ◌/◌, ◌==◌, ◌&&◌, Bool, List, [], ◌∷◌, ◌++◌, Option, Some, None, Result, Ok, Err, length, min, slice_index, slice_range, take, drop, nat_lt, nat_le, false, is_none, not, if◌then◌else◌}
use Rattle.std.specs.Int.{w32, w128, from_be_bytes}
use Rattle.std.specs.Option.{option_and_then, option_map, option_map_or, option_or, unwrap_or}
use Rattle.he_addr.specs.declared.ip.Family.{Family}
use Rattle.he_addr.specs.declared.ip.Family.TheVariants as families
use Rattle.he_addr.specs.declared.ip.Ip.{Ip}
use Rattle.he_addr.specs.declared.ip.Ip.TheVariants.{V4, V6}
use Rattle.he_dns.specs.declared.entries.Content.{Content}
use Rattle.he_dns.specs.declared.entries.Content.TheVariants.{Alias, Address, Other}
use Rattle.he_dns.specs.declared.entries.Entry.{Entry}
use Rattle.he_dns.specs.declared.fault.AnswerFault.{AnswerFault}
use Rattle.he_dns.specs.declared.fault.AnswerFault.TheVariants as faults
use Rattle.he_dns.specs.declared.fault.NameFault.{NameFault}
use Rattle.he_dns.specs.declared.fault.NameFault.TheVariants as names
use Rattle.he_dns.specs.declared.header.Header.{Header}
use Rattle.he_dns.specs.declared.parts.NamePart.{NamePart}
use Rattle.he_dns.specs.declared.parts.NamePart.TheVariants.{Root, Label, Pointer}
use Rattle.he_dns.specs.declared.records.Record.{Record}
use Rattle.he_dns.specs.Chains.{address_for, addresses_of, alias_of}
use Rattle.he_dns.specs.Codes.{code_fault}
use Rattle.he_dns.specs.Header.{is_lame_by, rcode_of, tc_of}
use Rattle.he_dns.specs.Names.{is_same}
use Rattle.he_dns.specs.Numbers.{class_in, counted_ttl, type_cname, type_of, type_opt}
use Rattle.he_dns.specs.Ttls.{alias_ttl}

infixl 10 ◌>>=◌
abbrev pub ◌>>=◌ : {A B : Type 0} → Option A → (A → Option B) → Option B
o >>= f = option_and_then f o

-- the fault of a label, and the first fault of some labels
abbrev pub label_fault : List ℕ → Option NameFault
label_fault label =
    if length label == 0 then Some names.EmptyLabel else if nat_lt 63 (length label) then Some names.LongLabel
    else None

abbrev pub labels_fault : List (List ℕ) → Option NameFault
labels_fault [] = None
labels_fault (label ∷ more) = option_or (label_fault label) (labels_fault more)

-- an octet, and a word of two
unfoldable pub octet_at : List ℕ → ℕ → Option ℕ
octet_at message at = if nat_lt at (length message) then Some (slice_index message at) else None

unfoldable pub word_at : List ℕ → ℕ → Option ℕ
word_at message at =
    if nat_lt (at + 1) (length message) then Some (slice_index message at * 256 + slice_index message (at + 1))
    else None

-- a TTL
unfoldable pub ttl_at : List ℕ → ℕ → Option ℕ
ttl_at message at = word_at message at >>= λ high. word_at message (at + 2) >>= λ low.
    Some (counted_ttl (high * 65536 + low))

-- the part of a name at a place
unfoldable pub label_at : List ℕ → ℕ → ℕ → Option NamePart
label_at message at len = if nat_lt (at + len) (length message) then Some (Label len) else None

unfoldable pub part_at : List ℕ → ℕ → Option NamePart
part_at message at = octet_at message at >>= λ first.
    if first == 0 then Some Root
    else if nat_le first 63 then label_at message at first
    else if nat_lt first 192 then None
    else octet_at message (at + 1) >>= λ second. Some (Pointer ((first - 192) * 256 + second))

-- the part is inside a message of this length
abbrev pub IsWithin : ℕ → ℕ → NamePart → Type 0
IsWithin len at Root = at < len
IsWithin len at (Label n) = at + n < len
IsWithin len at (Pointer to) = at + 1 < len

-- a value for each kind of part
abbrev pub by_part : {A : Type 0} → Option NamePart → A → A → (ℕ → A) → (ℕ → A) → A
by_part None none root label pointer = none
by_part (Some Root) none root label pointer = root
by_part (Some (Label len)) none root label pointer = label len
by_part (Some (Pointer to)) none root label pointer = pointer to

-- the name with these octets read up to this place, and `left` parts yet to read; the end is known after the first
-- pointer
unfoldable pub name_from : ℕ → List ℕ → ℕ → ℕ → Option ℕ → List ℕ → Option (List ℕ × ℕ)
name_from zero message begin place end octets = None
name_from (suc left) message begin place end octets = by_part (part_at message place) None
    (Some (octets, unwrap_or end (place + 1)))
    (λ len. if nat_lt 254 (length octets + (1 + len)) then None
    else name_from left message begin (place + (1 + len)) end (octets ++ take (1 + len) (drop place message)))
    (λ to. if nat_lt to begin then name_from left message to to (Some (unwrap_or end (place + 2))) octets else None)

unfoldable pub name_at : List ℕ → ℕ → Option (List ℕ × ℕ)
name_at message at = name_from 255 message at at None []

-- the header, and the place after the question, of a response to this query
unfoldable pub header_at : List ℕ → Option Header
header_at message = if nat_lt (length message) 12 then None
    else word_at message 0 >>= λ id. word_at message 2 >>= λ flags. word_at message 4 >>=
    λ questions. word_at message 6 >>= λ answers.
    Some (record { id = id; flags = flags; questions = questions; answers = answers })

abbrev pub responds : Header → ℕ → Bool
responds header id = header.id == id && header.flags / 2048 == 16 && header.questions == 1

abbrev pub responds_bare : Header → ℕ → Bool
responds_bare header id = header.id == id && header.flags / 2048 == 16 && header.questions == 0

unfoldable pub lame_in : List ℕ → Bool
lame_in message = option_map_or (λ header. is_lame_by header.flags) (header_at message) false

unfoldable pub behind_question : List ℕ → List ℕ → Family → Option ℕ
behind_question message name family =
    name_at message 12 >>= λ asked. word_at message asked.1 >>= λ kind. word_at message (asked.1 + 2) >>= λ class.
    if is_same asked.0 name && kind == type_of family && class == class_in then Some (asked.1 + 4) else None

unfoldable pub response_in : List ℕ → ℕ → List ℕ → Family → Option (Header × ℕ)
response_in message id name family = header_at message >>= λ header.
    if responds header id then option_map (λ at. (header, at)) (behind_question message name family) else None

-- the record at a place
unfoldable pub record_at : List ℕ → ℕ → Option Record
record_at message at =
    name_at message at >>= λ owner. word_at message owner.1 >>= λ kind. word_at message (owner.1 + 2) >>= λ class.
    ttl_at message (owner.1 + 4) >>= λ ttl. octet_at message (owner.1 + 4) >>= λ ttl_first.
    word_at message (owner.1 + 8) >>= λ size.
    if nat_lt (length message) (owner.1 + 10 + size) then None
    else Some (record {
      owner = owner.0;
      kind = kind;
      class = class;
      ttl = ttl;
      ttl_first = ttl_first;
      place = owner.1 + 10;
      size = size;
    })

-- the end of `count` records
unfoldable pub behind_records : ℕ → List ℕ → ℕ → Option ℕ
behind_records zero message at = Some at
behind_records (suc count) message at =
    record_at message at >>= λ r. behind_records count message (r.place + r.size)

-- the upper bits of a code, after one more record, and after several
abbrev pub extended : Option ℕ → Record → Option (Option ℕ)
extended found r =
    if r.kind == type_opt
    then if is_none found && length r.owner == 0 then Some (Some r.ttl_first) else None
    else Some found

unfoldable pub extension_from : ℕ → List ℕ → Option ℕ → ℕ → Option ℕ
extension_from zero message found at = Some (unwrap_or found 0)
extension_from (suc count) message found at =
    record_at message at >>= λ r. extended found r >>= λ more. extension_from count message more (r.place + r.size)

unfoldable pub extension_in : List ℕ → ℕ → ℕ → Option ℕ
extension_in message answers at =
    word_at message 8 >>= λ authorities. word_at message 10 >>= λ additionals.
    behind_records answers message at >>= λ behind_answers. behind_records authorities message behind_answers >>=
    λ begin. extension_from additionals message None begin

-- the code of a response
abbrev pub code_by : ℕ → Option ℕ → Option ℕ
code_by low (Some extension) = Some (extension * 16 + low)
code_by low None = if not (low == 0) && not (low == 3) then Some low else None

abbrev pub code_in : List ℕ → ℕ → ℕ → ℕ → Option ℕ
code_in message flags answers at = code_by (rcode_of flags) (extension_in message answers at)

abbrev pub response_fault : List ℕ → ℕ → ℕ → ℕ → Option AnswerFault
response_fault message flags answers at =
    if tc_of flags == 1 then Some faults.Truncated
    else option_map_or code_fault (code_in message flags answers at) (Some faults.Malformed)

abbrev pub failure_by : ℕ → Option ℕ
failure_by code = if not (code == 0) && not (code == 3) then Some code else None

unfoldable pub refusal_in : List ℕ → ℕ → Option ℕ
refusal_in message id = header_at message >>= λ header.
    if responds_bare header id then option_and_then failure_by (code_in message header.flags header.answers 12) else None

-- the content of a record
unfoldable pub alias_at : List ℕ → ℕ → ℕ → Option Content
alias_at message place size =
    name_at message place >>= λ target. if target.1 == place + size then Some (Alias target.0) else None

unfoldable pub address_of : List ℕ → Family → Option Content
address_of octets families.V4 = if length octets == 4 then Some (Address (V4 (from_be_bytes w32 octets))) else None
address_of octets families.V6 = if length octets == 16 then Some (Address (V6 (from_be_bytes w128 octets))) else None

unfoldable pub content_of : List ℕ → Family → Record → Option Content
content_of message family r =
    if r.class == class_in then
    (if r.kind == type_cname then alias_at message r.place r.size
    else if r.kind == type_of family then address_of (slice_range message r.place (r.place + r.size)) family
    else Some Other)
    else Some Other

unfoldable pub entry_at : List ℕ → Family → ℕ → Option (Entry × ℕ)
entry_at message family at = record_at message at >>= λ r. content_of message family r >>= λ content.
    Some (record { owner = r.owner; ttl = r.ttl; content = content }, r.place + r.size)

-- the contents of `count` records from a place on
unfoldable pub entries_from : ℕ → List ℕ → Family → ℕ → Option (List Entry)
entries_from zero message family at = Some []
entries_from (suc count) message family at =
    entry_at message family at >>=
    λ first. option_map (λ more. first.0 ∷ more) (entries_from count message family first.1)

-- the name at the end of the chain, if at most this number of names are looked up
unfoldable pub chain_end : ℕ → List Entry → List ℕ → Result (List ℕ) AnswerFault
chain_end zero entries name = Err faults.ChainTooLong
chain_end (suc left) entries name =
    option_map_or (λ target. chain_end left entries target) (alias_of entries name) (Ok name)

-- the lesser of two TTLs, or the only one
abbrev pub lesser : Option ℕ → Option ℕ → Option ℕ
lesser None other = other
lesser (Some ttl) None = Some ttl
lesser (Some ttl) (Some other) = Some (min ttl other)

-- the least TTL of the aliases of the chain, and of the addresses at its end
unfoldable pub chain_ttl : ℕ → List Entry → List ℕ → Option ℕ
chain_ttl zero entries name = None
chain_ttl (suc left) entries name =
    option_map_or (λ target. lesser (alias_ttl entries name) (chain_ttl left entries target)) (alias_of entries name)
    None

abbrev pub address_ttl : List ℕ → Entry → Option ℕ
address_ttl host entry = option_map (λ ip. entry.ttl) (address_for host entry)

abbrev pub addresses_ttl : List Entry → List ℕ → Option ℕ
addresses_ttl [] host = None
addresses_ttl (entry ∷ more) host = lesser (address_ttl host entry) (addresses_ttl more host)

abbrev pub ttl_at_end : List Entry → List ℕ → Result (List ℕ) AnswerFault → Option ℕ
ttl_at_end entries name (Ok host) = lesser (chain_ttl 17 entries name) (addresses_ttl entries host)
ttl_at_end entries name (Err fault) = None

unfoldable pub section_ttl : List ℕ → Header → ℕ → List ℕ → Family → Option ℕ
section_ttl message header at name family =
    entries_from header.answers message family at >>= λ entries. ttl_at_end entries name (chain_end 17 entries name)

unfoldable pub ttl_of : List ℕ → ℕ → List ℕ → Family → Option ℕ
ttl_of message id name family =
    response_in message id name family >>= λ response. section_ttl message response.0 response.1 name family

-- the addresses at the end of the chain
abbrev pub addresses_at : List Entry → Result (List ℕ) AnswerFault → Result (List Ip) AnswerFault
addresses_at entries (Ok host) = Ok (addresses_of entries host)
addresses_at entries (Err fault) = Err fault

unfoldable pub chain_addresses : List Entry → List ℕ → Result (List Ip) AnswerFault
chain_addresses entries name = addresses_at entries (chain_end 17 entries name)

unfoldable pub section_addresses : List ℕ → Header → ℕ → List ℕ → Family → Result (List Ip) AnswerFault
section_addresses message header at name family =
    option_map_or (λ entries. chain_addresses entries name) (entries_from header.answers message family at)
    (Err faults.Malformed)

unfoldable pub answer_of : List ℕ → ℕ → List ℕ → Family → Result (List Ip) AnswerFault
answer_of message id name family = option_map_or
    (λ response. option_map_or (λ fault. Err fault)
    (response_fault message response.0.flags response.0.answers response.1)
    (section_addresses message response.0 response.1 name family))
    (response_in message id name family) (Err faults.NotOurs)

-- the meaning of a fault in reading an answer section
abbrev pub Refuses : Option (List Entry) → AnswerFault → Type 0
Refuses expected faults.Malformed = expected ≡ None
Refuses expected fault = fault ≡ faults.Memory
