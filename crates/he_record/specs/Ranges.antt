-- The numbers of record lines. The law `laws::ranges` ties the constants of the program to them.
use Rattle.std.specs.Prelude.{ℕ}

-- the maximum length of a host, in bytes; the minimum is 1
abbrev pub most_host_bytes : ℕ
most_host_bytes = 255

abbrev pub least_port : ℕ
least_port = 1

-- the maximum number of lines of each kind that a record has once
abbrev pub most_once : ℕ
most_once = 1

-- the maximum number of NAT64 prefixes of a record
abbrev pub most_prefixes : ℕ
most_prefixes = 8

-- the maximum number of name servers of a record
abbrev pub most_servers : ℕ
most_servers = 8

-- the maximum number of attempts of a record, and of untried addresses: those of two answers of 256 addresses each
abbrev pub most_told : ℕ
most_told = 512
