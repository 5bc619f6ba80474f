-- The measure of the recursion is how many lists are below.
use Rattle.inode_setblock.proofs.+set_in.Given as goal

abbrev pub decreases-set_in : goal.decreases-set_in
decreases-set_in l = l.below
