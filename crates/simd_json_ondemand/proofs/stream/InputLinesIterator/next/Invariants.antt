use Rattle.std.proofs.Common.{◌≡◌, length}
use Rattle.simd_json_ondemand.specs.Lines.{pieces_left, lines_left}
use Rattle.simd_json_ondemand.proofs.stream.InputLinesIterator.next.Given as goal

abbrev pub invariant-loop-line : goal.invariant-loop-line
invariant-loop-line l = lines_left l.fn.self ≡ lines_left l.self

abbrev pub decreases-loop-line : goal.decreases-loop-line
decreases-loop-line l = length (pieces_left l.self)
