use Rattle.std.proofs.Common.{◌∙◌, sym}
use Rattle.simd_json.specs.Viewed.{doc}
use Rattle.simd_json_print.proofs.Texts.{adds-is, adds-none}
use Rattle.jpick.proofs.Putting.{puts-is}
use Rattle.jpick.proofs.Shown.{picked-needed, picked-none}
use Rattle.jpick.proofs.rows.put_picked.Goals as goal

pub returns-then-not-meets_all : goal.returns-then-not-meets_all
returns-then-not-meets_all g c =
    adds-is _ _ _ _ _ (sym (picked-none c.args.wanted.now (doc c.args.value) (sym c.meets_all.ensures ∙ c.if-not-meets_all.true)))
    (adds-none _ _)

pub returns : goal.returns
returns g c =
    puts-is _ _ _ _ _ _ (sym (picked-needed c.args.wanted.now (doc c.args.value) (sym c.meets_all.ensures ∙ c.if-not-meets_all.false)))
    c.put_needed.ensures
