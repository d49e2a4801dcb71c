use Rattle.simd_json_print.proofs.Texts.{adds-then}
use Rattle.simd_json_print.proofs.text.Text.put_parts.Goals as goal

pub returns : goal.returns
returns g c = adds-then _ _ _ _ c.args.front.now _ c.put.ensures
    (adds-then _ _ _ _ c.args.bytes.now c.args.back.now c.put-2.ensures c.put-3.ensures)
