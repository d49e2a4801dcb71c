use Rattle.std.proofs.Common.{◌∙◌, ap, sym, arith}
use Rattle.std.proofs.lemmas.List.{get_or_default}
use Rattle.jtape.specs.Lines.{number_line}
use Rattle.simd_json_print.proofs.Texts.{adds-is, adds-none}
use Rattle.jtape.proofs.Given.{adds-more, adds-all, adds-others}
use Rattle.jtape.proofs.output.put_positions.Goals as goal

pub loop-position-init : goal.loop-position-init
loop-position-init g c = adds-none _ _

pub returns-then-has_failed : goal.returns-then-has_failed
returns-then-has_failed g c =
    adds-others _ number_line c.args.positions.now c.loop-position.position-index _ _
    (sym c.has_failed.ensures ∙ c.if-has_failed.true) c.loop-position.invariant

pub loop-position-preserved : goal.loop-position-preserved
loop-position-preserved g c =
    let positions = c.args.positions.now in
    let i = c.loop-position.position-index in
    adds-more _ number_line positions i 0 _ _ _ c.loop-position-test.true c.loop-position.invariant
    (adds-is _ _ _ _ _ (ap number_line (get_or_default positions i _ 0 c.loop-position-test.true)) c.put_static.ensures)

pub returns : goal.returns
returns g c = adds-all _ number_line c.args.positions.now c.loop-position.position-index _ _ (omega arith) c.loop-position.invariant
