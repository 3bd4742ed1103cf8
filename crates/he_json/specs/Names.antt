-- The object of the addresses of a host.
use Rattle.std.specs.Prelude.{ℕ, ◌++◌, List, [], codes, decimal, map}
use Rattle.he_addr.specs.declared.ip.Ip.{Ip}
use Rattle.he_print.specs.Escaping.{string_text}
use Rattle.he_json.specs.Json.{address_text, parted}

abbrev pub addresses_text : List Ip → List ℕ
addresses_text ips = codes "[" ++ (parted [] (map address_text ips) ++ codes "]")

-- the answer of a family: its tick, and its addresses
abbrev pub answer_text : ℕ × List Ip → List ℕ
answer_text answer =
    codes "{\"tick\":" ++ (decimal answer.0 ++ (codes ",\"addresses\":" ++ (addresses_text answer.1 ++ codes "}")))

abbrev pub names_text : List ℕ → ℕ × List Ip → ℕ × List Ip → List ℕ
names_text host aaaa a =
    codes "{\"host\":" ++ (string_text host ++ (codes ",\"aaaa\":" ++ (answer_text aaaa
    ++ (codes ",\"a\":" ++ (answer_text a ++ codes "}\n")))))
