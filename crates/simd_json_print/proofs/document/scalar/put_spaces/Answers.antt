use Rattle.simd_json_print.proofs.Lines.{more-spaces}
use Rattle.simd_json_print.proofs.Texts.{adds-none, adds-is, adds-then}
use Rattle.simd_json_print.proofs.document.scalar.put_spaces.Goals as goal

pub loop-init : goal.loop-init
loop-init g c = adds-none _ _

pub loop-preserved : goal.loop-preserved
loop-preserved g c = adds-is _ _ _ _ _ (more-spaces c.loop.counter) (adds-then _ _ _ _ _ _ c.loop.invariant c.put.ensures)
