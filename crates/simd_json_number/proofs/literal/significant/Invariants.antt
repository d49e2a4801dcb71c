use Rattle.std.proofs.Common.{◌≡◌, length}
use Rattle.std.specs.Int.Digits.{number_from_digits}
use Rattle.simd_json_number.specs.Numbers.{digits}
use Rattle.simd_json_number.proofs.literal.significant.Given as goal

abbrev pub invariant-loop-first : goal.invariant-loop-first
invariant-loop-first l = number_from_digits 10 (digits l.left) ≡ number_from_digits 10 (digits l.fn.significand)

abbrev pub decreases-loop-first : goal.decreases-loop-first
decreases-loop-first l = length l.left
