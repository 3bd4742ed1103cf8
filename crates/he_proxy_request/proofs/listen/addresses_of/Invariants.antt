use Rattle.std.proofs.Common.{◌≡◌, ◌++◌, drop}
use Rattle.std.specs.List.{flat_map}
use Rattle.he_proxy_request.specs.Listening.{addresses_of}
use Rattle.he_proxy_request.proofs.listen.addresses_of.Given as goal

abbrev pub invariant-loop-word : goal.invariant-loop-word
invariant-loop-word l = l.addresses.items ++ flat_map (addresses_of l.six) (drop l.word-index l.words) ≡ flat_map (addresses_of l.six) l.words
