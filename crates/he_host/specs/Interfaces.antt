-- The interfaces of this machine.
use Rattle.std.specs.Prelude.{ℕ, ◌==◌, ◌&&◌, not, List, [], ◌∷◌, Option, Some, None, if◌then◌else◌}
use Rattle.std.specs.Str.{bytes_eq}
use Rattle.he_addr.specs.Reading.{◌>>=◌}
use Rattle.he_host.specs.declared.interface.Interface.{Interface}
use Rattle.he_kernel.specs.declared.link.Link.{Link}
use Rattle.he_kernel.specs.Parts.{field_of}

-- the first interface with this name that is up and has an index
abbrev pub link_of : List ℕ → List Interface → Option Link
link_of name [] = None
link_of name (x ∷ xs) =
    if bytes_eq x.name.now name && x.link.up && not (x.link.number == 0) then Some x.link else link_of name xs

-- the link of the interface named in the field of a line at this place
unfoldable pub link_at : List Interface → ℕ → List ℕ → Option Link
link_at interfaces place line = do
  name ← field_of place line
  link_of name interfaces

-- the first loopback interface that is up and has an index
abbrev pub loopback_of : List Interface → Option Link
loopback_of [] = None
loopback_of (x ∷ xs) = if x.link.loopback && x.link.up && not (x.link.number == 0) then Some x.link else loopback_of xs
