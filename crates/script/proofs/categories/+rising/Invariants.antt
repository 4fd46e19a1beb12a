use Rattle.script.proofs.categories.+rising.Given as goal

abbrev pub decreases-rising : goal.decreases-rising
decreases-rising l = l.count
