use Rattle.he_streaming.specs.Output.{IsTextWith}
use Rattle.he_streaming.proofs.Known.{known}
use Rattle.he_streaming.proofs.laws.faults_are_known.Goals as goal

pub returns : goal.returns
returns c = λ content changes file. known c.faults_stand.ensures (IsTextWith content changes file)
