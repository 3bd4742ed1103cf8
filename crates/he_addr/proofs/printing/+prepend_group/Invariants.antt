use Rattle.he_addr.proofs.printing.+prepend_group.Given as goal

abbrev pub decreases-prepend_group : goal.decreases-prepend_group
decreases-prepend_group l = l.group
