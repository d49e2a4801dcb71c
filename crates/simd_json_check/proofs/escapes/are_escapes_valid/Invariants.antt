use Rattle.simd_json_stages.specs.EscapesAhead.{ArePassed}
use Rattle.simd_json_check.specs.Whole.{PassesFrom}
use Rattle.simd_json_check.proofs.escapes.are_escapes_valid.Given as goal

abbrev pub invariant-loop-block : goal.invariant-loop-block
invariant-loop-block l = ArePassed l.fn.input l.fn.blocks l.block-index l.at × PassesFrom l.fn.input 0 l.at
