use Rattle.std.proofs.Common.{ap, ap₂, sym}
use Rattle.std.specs.Prelude.{if◌then◌else◌}
use Rattle.simd_json.specs.Viewed.{doc}
use Rattle.simd_json_parts.specs.Printed.{text}
use Rattle.simd_json_print.proofs.Texts.{adds-is}
use Rattle.jpick.specs.Sorted.{sorted}
use Rattle.jpick.proofs.Putting.{begun-none, puts-err, puts-is, puts-whole}
use Rattle.jpick.proofs.fields.put_document.Goals as goal

pub returns-in_err-lengthen : goal.returns-in_err-lengthen
returns-in_err-lengthen g c = puts-err _ c.from_residual.result _ _ _ _ c.from_residual.ensures.1 (begun-none _ _ _)

pub returns-then-wanted : goal.returns-then-wanted
returns-then-wanted g c =
    let d = doc c.args.value in
    puts-is _ _ _ _ _ _
    (ap₂ (λ p e. text p e 0) c.laid_out-layout.ensures (ap (λ b. if b then sorted d else d) (sym c.if-wanted.true)))
    (puts-whole _ _ _ _ _ c.put_sorted.ensures.put c.put_sorted.ensures.failed)

pub returns : goal.returns
returns g c =
    let d = doc c.args.value in
    adds-is _ _ _ _ _
    (ap₂ (λ p e. text p e 0) c.laid_out-layout.ensures (ap (λ b. if b then sorted d else d) (sym c.if-wanted.false)))
    (c.put.ensures.given d c.nodes-nodes.ensures.listed)
