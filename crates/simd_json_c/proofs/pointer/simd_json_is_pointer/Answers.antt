use Rattle.std.proofs.Common.{◌∙◌, ap, sym, drop, ◌&&◌}
use Rattle.simd_json_parts.specs.Pointed.{is_pointer}
use Rattle.simd_json_parts.proofs.Pointers.Splitting.{formed-at}
use Rattle.simd_json_c.proofs.pointer.simd_json_is_pointer.Goals as goal

pub loop-token-preserved : goal.loop-token-preserved
loop-token-preserved c =
    let p = c.args.pointer.now in
    let l = c.loop-token in
    let end = c.in-Some.token.end in
    record {
      within = c.in-Some.ensures.0.within.1;
      formed =
          l.invariant.formed ∙ formed-at p l.followed end c.in-Some.ensures.0
          ∙ ap (λ b. b && is_pointer (drop end p)) (sym c.if-not-is_well_formed.ensures);
    }
