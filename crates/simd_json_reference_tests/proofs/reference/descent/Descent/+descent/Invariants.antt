use Rattle.std.proofs.Common.{◌+◌, ◌*◌}
use Rattle.simd_json_reference_tests.proofs.reference.descent.Descent.+descent.Given as goal

-- a container takes one level

abbrev pub decreases-value : goal.decreases-value
decreases-value l = 3 * l.levels

abbrev pub decreases-member : goal.decreases-member
decreases-member l = 3 * l.levels + 1

abbrev pub decreases-array : goal.decreases-array
decreases-array l = 3 * l.levels + 2

abbrev pub decreases-object : goal.decreases-object
decreases-object l = 3 * l.levels + 2
