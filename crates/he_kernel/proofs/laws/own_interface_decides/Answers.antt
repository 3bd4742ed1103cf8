use Rattle.he_kernel.proofs.OwnInterfaces.{own_interface_law}
use Rattle.he_kernel.proofs.laws.own_interface_decides.Goals as goal

pub returns : goal.returns
returns c = own_interface_law
