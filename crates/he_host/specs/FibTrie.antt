-- /proc/net/fib_trie: the IPv4 routing tables, each as a tree after its heading. In the table `Local:` an address of
-- the host is a leaf, a line `|-- ADDRESS`, with a line `/32 host LOCAL` among those after it.
use Rattle.std.specs.Prelude.{ℕ, ◌++◌, ◌||◌, ◌&&◌, Bool, true, false, codes, List, [], ◌∷◌, Option, Some, None, if◌then◌else◌}
use Rattle.std.specs.Str.{bytes_eq}
use Rattle.he_addr.specs.declared.ip.Ip.{Ip}
use Rattle.he_addr.specs.declared.ip.Family.TheVariants as families
use Rattle.he_addr.specs.Reading.{◌>>=◌, ip_of_in}
use Rattle.he_host.specs.declared.fib_trie.OwnAddress.{OwnAddress}
use Rattle.he_host.specs.declared.fib_trie.TrieLine.{TrieLine}
use Rattle.he_host.specs.declared.fib_trie.TrieLine.TheVariants.{Heading, Leaf, Own, Other}
use Rattle.he_host.specs.declared.fib_trie.TrieState.{TrieState}
use Rattle.he_kernel.specs.Parts.{field_of}

-- the line is `/32 host LOCAL`; none if it has fewer fields
unfoldable pub is_own : List ℕ → Option Bool
is_own line = do
  len ← field_of 0 line
  scope ← field_of 1 line
  kind ← field_of 2 line
  Some (bytes_eq len (codes "/32") && bytes_eq scope (codes "host") && bytes_eq kind (codes "LOCAL"))

-- the address of a leaf
unfoldable pub leaf_of : List ℕ → Option Ip
leaf_of line = do
  text ← field_of 1 line
  ip_of_in families.V4 text

abbrev pub own_or_other : Option Bool → TrieLine
own_or_other (Some true) = Own
own_or_other (Some false) = Other
own_or_other None = Other

abbrev pub line_by : List ℕ → Option (List ℕ) → TrieLine
line_by line None = Other
line_by line (Some first) =
    if bytes_eq first (codes "|--") then Leaf (leaf_of line)
    else (if bytes_eq first (codes "Local:") then Heading true
    else (if bytes_eq first (codes "Main:") || bytes_eq first (codes "Id") then Heading false
    else own_or_other (is_own line)))

-- the meaning of a line, by its first field
unfoldable pub trie_line : List ℕ → TrieLine
trie_line line = line_by line (field_of 0 line)

-- the state after a line: a heading begins a table, a leaf is current until the next one
abbrev pub step : TrieState → TrieLine → TrieState
step walk (Heading is_local) = record { is_local = is_local; leaf = None }
step walk (Leaf leaf) = record { is_local = walk.is_local; leaf = leaf }
step walk Own = walk
step walk Other = walk

-- the line means that the leaf is an address of this machine
abbrev pub told : TrieState → TrieLine → Bool
told walk Own = walk.is_local
told walk (Heading is_local) = false
told walk (Leaf leaf) = false
told walk Other = false

-- the addresses in the lines, from this state on
abbrev pub own_from : TrieState → List (ℕ × List ℕ) → List OwnAddress
own_from walk [] = []
own_from walk (line ∷ lines) =
    (if told walk (trie_line line.1) then record { line = line.0; ip = walk.leaf } ∷ [] else [])
    ++ own_from (step walk (trie_line line.1)) lines

abbrev pub nowhere : TrieState
nowhere = record { is_local = false; leaf = None }

-- the addresses in all lines
unfoldable pub own_addresses : List (ℕ × List ℕ) → List OwnAddress
own_addresses lines = own_from nowhere lines
