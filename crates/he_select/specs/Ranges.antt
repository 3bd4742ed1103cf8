-- The maximum sizes of a policy table and of a host, and the first interface number. A law shows that the code's
-- limits equal these.
use Rattle.std.specs.Prelude.{ℕ}

abbrev pub most_rows : ℕ
most_rows = 64

abbrev pub most_sources : ℕ
most_sources = 64

abbrev pub most_routes : ℕ
most_routes = 64

abbrev pub least_interface : ℕ
least_interface = 1
