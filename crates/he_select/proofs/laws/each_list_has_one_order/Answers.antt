use Rattle.he_addr.specs.Ip.{IsUsable}
use Rattle.he_select.proofs.Counting.{each-get}
use Rattle.he_select.proofs.Families.{parts_families}
use Rattle.he_select.proofs.Ordered.{one_order}
use Rattle.he_select.proofs.laws.each_list_has_one_order.Goals as goal

pub returns : goal.returns
returns c = λ input admitted ips usable. one_order input (parts_families input.rows admitted) ips (each-get IsUsable ips (λ i d lt. usable i d lt))
