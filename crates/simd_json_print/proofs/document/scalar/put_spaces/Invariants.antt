use Rattle.std.proofs.Common.{◌*◌, replicate}
use Rattle.simd_json_parts.specs.Bytes.{space}
use Rattle.simd_json_print.specs.Texts.{Adds}
use Rattle.simd_json_print.proofs.document.scalar.put_spaces.Given as goal

abbrev pub invariant-loop : goal.invariant-loop
invariant-loop g l = Adds g.T.Target.state l.fn.out l.out (replicate (32 * l.counter) space)
