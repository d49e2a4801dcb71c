use Rattle.std.proofs.Common.{ap, flat_map}
use Rattle.simd_json_print.proofs.Texts.{adds-is, adds-then}
use Rattle.jpick.specs.Rows.{escaped}
use Rattle.jpick.proofs.fields.put_name.Goals as goal

pub returns : goal.returns
returns g c =
    let quote = c.quote-quote.ensures.string c.args.name.now in
    adds-then _ _ _ _ _ _ (adds-then _ _ _ _ _ _ (adds-is _ _ _ _ _ quote c.put.ensures)
    (adds-is _ _ _ _ _ (ap (flat_map (escaped c.args.layout)) c.as_bytes.ensures.value) c.put_escaped.ensures)) (adds-is _ _ _ _ _ quote c.put-2.ensures)
