use Rattle.he_tasks.proofs.directories.+add_timelines.Given as goal

abbrev pub decreases-add_timelines : goal.decreases-add_timelines
decreases-add_timelines g l = l.depth
