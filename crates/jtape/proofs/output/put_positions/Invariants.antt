use Rattle.std.proofs.Common.{take}
use Rattle.simd_json_print.specs.Texts.{Adds}
use Rattle.jtape.specs.Lines.{number_lines}
use Rattle.jtape.proofs.output.put_positions.Given as goal

abbrev pub invariant-loop-position : goal.invariant-loop-position
invariant-loop-position g l = Adds g.T.Target.state l.fn.text l.text (number_lines (take l.position-index l.positions))
