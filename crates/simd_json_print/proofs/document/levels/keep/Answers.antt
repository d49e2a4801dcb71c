use Rattle.std.proofs.Common.{◌∙◌, ap, sym, length, take, refl, arith}
use Rattle.simd_json_print.proofs.Levels.{put-back}
use Rattle.simd_json_print.proofs.document.levels.keep.Goals as goal

pub returns-clause-kept : goal.returns-clause-kept
returns-clause-kept g c =
    ap (take (length c.args.outer.now)) (sym (put-back _ c.store.new.levels _ _ refl (omega (arith, c.as_mut_slice.ensures.len)))) ∙
    c.store.ensures
