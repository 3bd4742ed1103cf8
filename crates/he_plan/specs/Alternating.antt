-- Mirrors the code: the interlaced list as the code makes it. The law `interlaced_by_keys` shows that it is the list
-- of `Interlacing`.
use Rattle.std.specs.Prelude.{ℕ, ◌++◌, not, List, [], ◌∷◌, filter, take, drop}
use Rattle.he_addr.specs.declared.ip.Family.{Family}
use Rattle.he_addr.specs.declared.ip.Ip.{Ip}
use Rattle.he_addr.specs.Ip.{family_of}
use Rattle.he_timeline.specs.Timeline.{is_of}

-- one of each in turn; when one list runs out, the rest of the other follows
abbrev pub alternate : {X : Type 0} → List X → List X → List X
alternate [] ys = ys
alternate (x ∷ xs) [] = x ∷ xs
alternate (x ∷ xs) (y ∷ ys) = x ∷ y ∷ alternate xs ys

-- the leading family's first `count` members come first; then the families alternate, the other one next, each in the
-- order of the list
abbrev pub interlace_by : Family → List Ip → ℕ → List Ip
interlace_by family ips count =
    take count (filter (is_of family) ips)
    ++ alternate (filter (λ ip. not (is_of family ip)) ips) (drop count (filter (is_of family) ips))

-- the family of the first address leads
abbrev pub interlace : List Ip → ℕ → List Ip
interlace [] count = []
interlace (first ∷ ips) count = interlace_by (family_of first) (first ∷ ips) count
