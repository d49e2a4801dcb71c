use Rattle.std.proofs.Common.{◌<◌}
use Rattle.simd_json.specs.Iterated.{elements_left, pairs_left}
use Rattle.simd_json.specs.Sizes.{size, sizes, pair_sizes}
use Rattle.simd_json.specs.Viewed.{doc}
use Rattle.simd_json_tests.proofs.tests.pointer.walks.+depth.Given as goal

abbrev pub decreases-depth : goal.decreases-depth
decreases-depth l = size (doc l.value)

abbrev pub invariant-loop-element : goal.invariant-loop-element
invariant-loop-element l = sizes (elements_left l.element-iterator) < size (doc l.fn.value)

abbrev pub invariant-loop-member : goal.invariant-loop-member
invariant-loop-member l = pair_sizes (pairs_left l.member-iterator) < size (doc l.fn.value)
