-- The proxy's own pages, and which requests get them.
use Rattle.std.specs.Prelude.{◌≡◌, ◌⊎◌, ℕ, List, Option, Some, None, codes, map}
use Rattle.std.specs.Char.{to_ascii_lowercase}
use Rattle.std.specs.Borrow.{Bor}
use Rattle.std.specs.Option.{option_map}
use Rattle.he_addr.specs.declared.ip.Ip.{Ip}
use Rattle.he_addr.specs.declared.ip.Ip.TheVariants.{V4, V6}
use Rattle.he_addr.specs.Text.{Spells}
use Rattle.he_front.specs.Authority.{IsAuthority}
use Rattle.he_front.specs.declared.pages.Page.{Page}
use Rattle.he_front.specs.declared.pages.Page.TheVariants as pages

-- the paths of the proxy auto-config text
abbrev pub IsConfigPath : List ℕ → Type 0
IsConfigPath target = (target ≡ codes "/proxy.pac") ⊎ (target ≡ codes "/wpad.dat")

-- the paths (origin form, RFC 9112 section 3.2.1)
abbrev pub IsPath : Page → List ℕ → Type 0
IsPath pages.Config target = IsConfigPath target
IsPath pages.Races target = target ≡ codes "/"
IsPath pages.Metrics target = target ≡ codes "/metrics"
IsPath pages.Health target = target ≡ codes "/healthz"

-- the address is 127.0.0.1, ::1 or the one that the client reached
abbrev pub IsOwnIp : Ip → Ip → Type 0
IsOwnIp own ip = (ip ≡ own) ⊎ ((ip ≡ V4 0x7f00_0001) ⊎ (ip ≡ V6 1))

abbrev pub SpellsOwn : Ip → List ℕ → Type 0
SpellsOwn own host = (ip : Ip) × Spells host ip × IsOwnIp own ip

-- the host is `localhost`, compared case-insensitively (RFC 6761 section 6.3), or spells such an address
abbrev pub IsOwnHost : Ip → List ℕ → Type 0
IsOwnHost own host = (map to_ascii_lowercase host ≡ codes "localhost") ⊎ SpellsOwn own host

-- the value of a field Host names the proxy itself, and its port (RFC 9110 section 7.2)
abbrev pub IsOwn : Ip → ℕ → List ℕ → Type 0
IsOwn own port value = (host : List ℕ) × IsAuthority value host port × IsOwnHost own host

-- the page is requested by its path, of the proxy itself
abbrev pub Asks : Ip → ℕ → List ℕ → Option (List ℕ) → Page → Type 0
Asks own port target None page = ⊥
Asks own port target (Some host) page = IsPath page target × IsOwn own port host

abbrev pub AsksNone : Ip → ℕ → List ℕ → Option (List ℕ) → Type 0
AsksNone own port target host = (page : Page) → Asks own port target host page → ⊥

abbrev pub host_of : Option (Bor (List ℕ)) → Option (List ℕ)
host_of host = option_map (λ value. value.now) host
