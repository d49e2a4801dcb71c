use Rattle.std.proofs.Common.{◌∙◌, eqb-true, subst, sym}
use Rattle.simd_json.specs.Viewed.{doc}
use Rattle.log_report.specs.Runs.{CountsMore}
use Rattle.log_report.proofs.Cuts.{label-full, label-short, on-ok, row-is}
use Rattle.log_report.proofs.lines.Lines.add_value.Goals as goal

pub returns-then-is_full : goal.returns-then-is_full
returns-then-is_full g c =
    let old = c.args.self.now in
    let row = c.append_row.new.row.items in
    let is = row-is _ row _ c.new-row.ensures c.is_full.ensures.fits c.in_ok-append_row.ensures in
    let file = c.others.ensures ∙ label-full old.wanted.now (doc c.args.value) row is
    (eqb-true _ _ (sym c.is_full.ensures.value ∙ c.if-is_full.true)) in
    on-ok c.add.result _ _ (λ added. subst (λ text. CountsMore old c.add.new.self text 1) file added) c.add.ensures

pub returns : goal.returns
returns g c =
    let old = c.args.self.now in
    let row = c.append_row.new.row.items in
    let is = row-is _ row _ c.new-row.ensures c.is_full.ensures.fits c.in_ok-append_row.ensures in
    let file = c.as_slice.ensures.value ∙ label-short old.wanted.now (doc c.args.value) row is c.is_full.ensures.fits
    (sym c.is_full.ensures.value ∙ c.if-is_full.false) in
    on-ok c.add-2.result _ _ (λ added. subst (λ text. CountsMore old c.add-2.new.self text 1) file added) c.add-2.ensures
