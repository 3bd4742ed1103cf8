-- Headers of messages (RFC 1035 section 4.1.1) and their first question (section 4.1.2).
use Rattle.std.specs.Prelude.{◌≡◌, ℕ, ◌+◌, ◌/◌, ◌%◌, ◌^◌, ◌≤◌, ◌==◌, ◌&&◌, Bool, List, IsTrue, length}
use Rattle.he_addr.specs.declared.ip.Family.{Family}
use Rattle.he_dns.specs.Names.{IsNameAt, is_same}
use Rattle.he_dns.specs.Numbers.{IsWordAt, class_in, header_len, type_of}

-- the bits of the header's second word: QR and OPCODE, TC, and RCODE
abbrev pub qr_and_opcode_of : ℕ → ℕ
qr_and_opcode_of flags = flags / 2 ^ 11

abbrev pub tc_of : ℕ → ℕ
tc_of flags = flags / 2 ^ 9 % 2

abbrev pub rcode_of : ℕ → ℕ
rcode_of flags = flags % 16

-- ID, the flags, QDCOUNT and ANCOUNT of a message
pub record IsHeader (message : List ℕ) (id flags questions answers : ℕ) : Type 0 where
  pub whole : header_len ≤ length message
  pub id_word : IsWordAt message 0 id
  pub flags_word : IsWordAt message 2 flags
  pub questions_word : IsWordAt message 4 questions
  pub answers_word : IsWordAt message 6 answers

-- the question after the header asks for the family's addresses of this name; it ends here
pub record Asks (message : List ℕ) (name : List ℕ) (family : Family) (end : ℕ) : Type 0 where
  pub asked : List ℕ
  pub after : ℕ
  pub stands : IsNameAt message header_len asked after
  pub same : IsTrue (is_same asked name)
  pub kind : IsWordAt message after (type_of family)
  pub class : IsWordAt message (after + 2) class_in
  pub ends : end ≡ after + 4

-- a response to our query: it has the same id, QR 1 and OPCODE 0 (a standard query), and one question, which is ours.
-- With its flags, the number of its answer records, and their start
pub record Responds (message : List ℕ) (id : ℕ) (name : List ℕ) (family : Family) (flags answers at : ℕ) : Type 0 where
  pub header : IsHeader message id flags 1 answers
  pub standard : qr_and_opcode_of flags ≡ 16
  pub question : Asks message name family at

-- the bits for an authority for the name (AA), and for a recursive server (RA)
abbrev pub aa_of : ℕ → ℕ
aa_of flags = flags / 2 ^ 10 % 2

abbrev pub ra_of : ℕ → ℕ
ra_of flags = flags / 2 ^ 7 % 2

abbrev pub is_lame_by : ℕ → Bool
is_lame_by flags = aa_of flags == 0 && ra_of flags == 0

-- the server that sent the message is neither an authority nor recursive
pub record IsLame (message : List ℕ) : Type 0 where
  pub id : ℕ
  pub flags : ℕ
  pub questions : ℕ
  pub answers : ℕ
  pub header : IsHeader message id flags questions answers
  pub lame : IsTrue (is_lame_by flags)
