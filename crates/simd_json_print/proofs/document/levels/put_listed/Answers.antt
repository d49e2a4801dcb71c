use Rattle.std.proofs.Common.{map, sym, subst, length, refl, not, nat_eq, arith}
use Rattle.simd_json_parts.specs.Nodes.{item_of}
use Rattle.simd_json_print.specs.Frames.{IsAtValue, IsDeep, IsFurther, IsNext}
use Rattle.simd_json_print.specs.Texts.{Leads}
use Rattle.simd_json_print.proofs.Levels.{put-back}
use Rattle.simd_json_print.proofs.document.levels.put_listed.Goals as goal

pub returns : goal.returns
returns g c =
    let pretty = not (nat_eq g.row.PRETTY 0) in
    let p = c.put_from in
    let new = p.new.levels in
    let left = p.result.nodes.now in
    let value = c.args.value.nodes.now in
    let was = sym c.as_mut_slice.ensures.value in
    let back = put-back c.args.levels.now.len new new c.args.levels.now.items refl (omega (arith, c.as_mut_slice.ensures.len)) in
    record {
      further = subst (λ ls. IsFurther c.args.levels.now.items c.args.used.now (length value) ls p.new.used (length left)) back
          (subst (λ ls. IsFurther ls c.args.used.now (length value) new p.new.used (length left))
          c.as_mut_slice.ensures.value p.ensures.further);
      deep = subst (λ ls. IsDeep ls p.new.used (map item_of left)) back p.ensures.deep;
      put = subst (λ ls. Leads g.T.Target.state c.args.out.now p.new.out
          (IsAtValue pretty 0 c.args.levels.now.items c.args.used.now (map item_of value))
          (IsNext pretty 0 ls p.new.used (map item_of left))) back
          (subst (λ ls. Leads g.T.Target.state c.args.out.now p.new.out (IsAtValue pretty 0 ls c.args.used.now (map item_of value))
          (IsNext pretty 0 new p.new.used (map item_of left))) c.as_mut_slice.ensures.value p.ensures.put);
    }
