-- The measure of the recursion is the level.
use Rattle.mapping.proofs.+resolve.Given as goal

abbrev pub decreases-resolve : goal.decreases-resolve
decreases-resolve l = l.level
