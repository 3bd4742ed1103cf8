-- The bytes of a query (RFC 1035 section 4.1).
use Rattle.std.specs.Prelude.{ℕ, List, [], ◌∷◌, ◌++◌, Option, Some, None}
use Rattle.std.specs.Int.{w16, to_be_bytes}
use Rattle.he_addr.specs.declared.ip.Family.{Family}
use Rattle.he_dns.specs.Numbers.{class_in, type_of, type_opt}

-- the header's flags of a query: only RD (section 4.1.1)
abbrev pub recursion_desired : ℕ
recursion_desired = 0x0100

-- the additional section: empty, or an OPT record (RFC 6891 section 6.1.1), with the root's name, the room as its
-- class (section 6.2.3), TTL 0 and no RDATA
abbrev pub additional_of : Option ℕ → List ℕ
additional_of None = []
additional_of (Some room) = 0 ∷ 0 ∷ type_opt ∷ [] ++ to_be_bytes w16 room ++ 0 ∷ 0 ∷ 0 ∷ 0 ∷ 0 ∷ 0 ∷ []

abbrev pub arcount_of : Option ℕ → ℕ
arcount_of None = 0
arcount_of (Some room) = 1

-- the header: ID, the flags, QDCOUNT 1, ANCOUNT and NSCOUNT 0, ARCOUNT (section 4.1.1); the question: QNAME, whose
-- labels the root's empty one follows, QTYPE and QCLASS IN (section 4.1.2); then the additional section
abbrev pub query_of : ℕ → List ℕ → Family → Option ℕ → List ℕ
query_of id name family room =
    to_be_bytes w16 id ++ to_be_bytes w16 recursion_desired ++ 0 ∷ 1 ∷ 0 ∷ 0 ∷ 0 ∷ 0 ∷ []
    ++ to_be_bytes w16 (arcount_of room)
    ++ name ++ 0 ∷ [] ++ to_be_bytes w16 (type_of family) ++ to_be_bytes w16 class_in ++ additional_of room
