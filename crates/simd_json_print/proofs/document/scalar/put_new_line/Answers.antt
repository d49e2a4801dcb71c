use Rattle.simd_json_print.proofs.Lines.{short-line, deep-line}
use Rattle.simd_json_print.proofs.Texts.{adds-is, adds-then}
use Rattle.simd_json_print.proofs.document.scalar.put_new_line.Goals as goal

pub returns-then-depth-ge16 : goal.returns-then-depth-ge16
returns-then-depth-ge16 g c = adds-is _ _ _ _ _ (deep-line c.args.depth) (adds-then _ _ _ _ _ _ c.put.ensures c.put_spaces.ensures)

pub returns-else-depth-ge16 : goal.returns-else-depth-ge16
returns-else-depth-ge16 g c = adds-is _ _ _ _ _ (short-line c.args.depth c.if-depth-ge16.false) c.put.ensures
