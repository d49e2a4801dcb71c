use Rattle.std.proofs.Common.{◌<◌}
use Rattle.simd_json.specs.Iterated.{elements_left, values_left}
use Rattle.simd_json.specs.Sizes.{size, sizes}
use Rattle.simd_json.specs.Viewed.{doc}
use Rattle.simd_json_tests.proofs.tests.pointer.walks.+count.Given as goal

abbrev pub decreases-count : goal.decreases-count
decreases-count l = size (doc l.value)

abbrev pub invariant-loop-element : goal.invariant-loop-element
invariant-loop-element l = sizes (elements_left l.element-iterator) < size (doc l.fn.value)

abbrev pub invariant-loop-member : goal.invariant-loop-member
invariant-loop-member l = sizes (values_left l.member-iterator) < size (doc l.fn.value)
