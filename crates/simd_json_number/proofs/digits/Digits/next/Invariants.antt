use Rattle.std.proofs.Common.{◌≡◌, length}
use Rattle.simd_json_number.specs.Numbers.{digits}
use Rattle.simd_json_number.proofs.digits.Digits.next.Given as goal

abbrev pub invariant-loop-first : goal.invariant-loop-first
invariant-loop-first l = record { kept : l.self ≡ l.fn.self; same : digits l.left ≡ digits l.fn.self.bytes.now }

abbrev pub decreases-loop-first : goal.decreases-loop-first
decreases-loop-first l = length l.left
