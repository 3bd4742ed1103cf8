use Rattle.he_addr.specs.Ip.{mapped_of}
use Rattle.he_access.specs.Registries.{judged}
use Rattle.he_access.proofs.Tables.{table_says}
use Rattle.he_access.proofs.global.is_global.Goals as goal

pub returns : goal.returns
returns c =
    rw (c.first_says.ensures, c.judged.ensures, c.mapped.ensures) (table_says (judged (mapped_of c.args.ip)))
