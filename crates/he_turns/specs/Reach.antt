-- Where connections go: the clauses of `Trial` and `Connector` cite it.
use Rattle.he_addr.specs.declared.ip.Ip.{Ip}

-- each connection of the first set is in the second
abbrev pub AreAmong : {Conn : Type 0} → (Conn → Type 0) → (Conn → Type 0) → Type 0
AreAmong {Conn} first second = (conn : Conn) → first conn → second conn

-- both relate each address to the same connections
abbrev pub ReachAlike : {Conn : Type 0} → (Ip → Conn → Type 0) → (Ip → Conn → Type 0) → Type 0
ReachAlike {Conn} reaches others = (ip : Ip) → AreAmong (reaches ip) (others ip) × AreAmong (others ip) (reaches ip)
