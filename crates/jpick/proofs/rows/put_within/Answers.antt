use Rattle.std.proofs.Common.{◌∙◌, [], ap, cond, sym}
use Rattle.simd_json.specs.Viewed.{doc}
use Rattle.simd_json_print.proofs.Texts.{adds-is, adds-none}
use Rattle.jpick.specs.Rows.{document_rows}
use Rattle.jpick.proofs.Putting.{puts-is}
use Rattle.jpick.proofs.rows.put_within.Goals as goal

pub returns-then-not-has_needed : goal.returns-then-not-has_needed
returns-then-not-has_needed g c =
    adds-is _ _ _ _ _ (ap (λ b. cond b (document_rows c.args.wanted.now (doc c.args.value)) [])
    (sym c.if-not-has_needed.true ∙ c.has_needed.ensures)) (adds-none _ _)

pub returns : goal.returns
returns g c =
    puts-is _ _ _ _ _ _ (ap (λ b. cond b (document_rows c.args.wanted.now (doc c.args.value)) [])
    (sym c.if-not-has_needed.false ∙ c.has_needed.ensures)) c.put_rows.ensures
