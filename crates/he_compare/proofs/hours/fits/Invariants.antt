use Rattle.std.proofs.Common.{◌≡◌, drop}
use Rattle.he_compare.specs.Hours.{fits}
use Rattle.he_compare.proofs.hours.fits.Given as goal

abbrev pub invariant-loop-at : goal.invariant-loop-at
invariant-loop-at l = fits (drop l.at l.form) (drop l.at l.text) ≡ fits l.form l.text
