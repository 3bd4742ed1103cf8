-- The clause after the sentence of a fault: the likely meaning.
use Rattle.std.specs.Prelude.{ℕ, ◌++◌, List, [], ◌∷◌, codes, Option, Some, None}
use Rattle.he_faults.specs.declared.meant.Meant.{Meant}
use Rattle.he_faults.specs.declared.meant.Meant.TheVariants.{Comment, Tab, Capitals, Zone, Brackets, Comma, Name, DefaultRoute, IpOutput, Device, Unit, Sign, Packed, Wide, Capture, Json}

abbrev pub meaning_of : Meant → List ℕ
meaning_of Comment = codes "a text has no comments: leave out `#` and what follows it"
meaning_of Tab = codes "separate words with a space, not a tab"
meaning_of Capitals = codes "words are written in small letters"
meaning_of Zone = codes "an address has no zone: leave out `%` and what follows it, as source and route lines have the interface's number"
meaning_of Brackets = codes "write the address without brackets and without a port"
meaning_of Comma = codes "separate addresses with a space, not a comma; a number has no comma"
meaning_of Name =
    codes "names are not looked up here: write the addresses, which `he names NAME` finds, or see `he connect`"
meaning_of DefaultRoute = codes "`default` is written as the prefix 0.0.0.0/0 or ::/0"
meaning_of IpOutput =
    codes "`ip` prints this: write the lines that `he host` prints"
meaning_of Device = codes "write the interface's number, not its name: `ip address` prints `2: eth0`"
meaning_of Unit = codes "write `20`, not `20ms`: times are in milliseconds, without a unit"
meaning_of Sign = codes "a number has no sign"
meaning_of Packed = codes "the input is compressed: unpack it first, as `gunzip`, `xz -d` and `zstd -d` do"
meaning_of Wide = codes "the input is UTF-16: make ASCII of it first, as `iconv -f UTF-16 -t ASCII` does"
meaning_of Capture = codes "the input is a packet capture: tools/from-capture makes a timeline of it"
meaning_of Json = codes "the input is JSON, which `he` writes and does not read"

-- ; and the likely meaning
abbrev pub meant_text : Option Meant → List ℕ
meant_text None = []
meant_text (Some meant) = codes "; " ++ meaning_of meant

-- the clause, and a line end
abbrev pub clause_text : Option Meant → List ℕ
clause_text meant = meant_text meant ++ 10 ∷ []
