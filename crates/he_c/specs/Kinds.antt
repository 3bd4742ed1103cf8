-- The words of the kinds of faults, by their numbers.
use Rattle.std.specs.Prelude.{ℕ, if◌then◌else◌, List, [], codes, eqb}
use Rattle.he_c.specs.declared.codes.TheConstants.{HEADER, WORD, NUMBER, ADDRESS, PREFIX, REPEATED, RANGE, TOO_MANY, UNFINISHED, NO_DEFAULT_ROW, NO_MAPPED_ROW, SHARED_PRECEDENCE}

-- those that the program prints for a fault of this kind, without the rows of a policy table
abbrev pub kind_words : ℕ → List ℕ
kind_words kind =
    if eqb kind HEADER then codes "header"
    else if eqb kind WORD then codes "word"
    else if eqb kind NUMBER then codes "number"
    else if eqb kind ADDRESS then codes "address"
    else if eqb kind PREFIX then codes "prefix"
    else if eqb kind REPEATED then codes "repeated"
    else if eqb kind RANGE then codes "range"
    else if eqb kind TOO_MANY then codes "too many"
    else if eqb kind UNFINISHED then codes "unfinished"
    else if eqb kind NO_DEFAULT_ROW then codes "policy has no ::/0"
    else if eqb kind NO_MAPPED_ROW then codes "policy has no ::ffff:0:0/96"
    else if eqb kind SHARED_PRECEDENCE then codes "policy rows share a precedence"
    else []
