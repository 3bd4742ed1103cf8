-- The family that a line asks for alone.
use Rattle.std.specs.Prelude.{◌≡◌, Bool, true, false, Option, Some, None, codes}
use Rattle.clap.specs.declared.parser.matches.Found.{Found}
use Rattle.he_addr.specs.declared.ip.Family.{Family}
use Rattle.he_addr.specs.declared.ip.Family.TheVariants as families
use Rattle.he_options.specs.Words.{HasFlag}

-- by -4 and -6
abbrev pub only_of : Bool → Bool → Option Family
only_of true six = Some families.V4
only_of false true = Some families.V6
only_of false false = None

abbrev pub AsksFamily : Found → Option Family → Type 0
AsksFamily found only =
    (four six : Bool) × HasFlag found (codes "four") four × HasFlag found (codes "six") six × (only ≡ only_of four six)
