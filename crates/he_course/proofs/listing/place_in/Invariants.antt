use Rattle.std.proofs.Common.{◌≡◌, ◌+◌, drop}
use Rattle.he_course.specs.Listing.{place_in}
use Rattle.he_course.proofs.listing.place_in.Given as goal

abbrev pub invariant-loop-place : goal.invariant-loop-place
invariant-loop-place l = place_in l.ip (drop l.place l.ips) + l.place ≡ place_in l.ip l.ips
