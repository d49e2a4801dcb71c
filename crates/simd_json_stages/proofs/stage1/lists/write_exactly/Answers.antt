use Rattle.std.proofs.Common.{◌≡◌, ◌∙◌, ◌+◌, ◌-◌, ap, sym, subst, take, arith}
use Rattle.std.specs.Int.RustNames.{count_ones}
use Rattle.simd_json_stages.specs.Words.{set_bits}
use Rattle.simd_json_stages.specs.Stored.{IsStored}
use Rattle.simd_json_stages.proofs.Scan.Bits.Writing.{stored-first, stored-more, stored-end, stored-all}
use Rattle.simd_json_stages.proofs.stage1.lists.write_exactly.Goals as goal

pub loop-rest-init : goal.loop-rest-init
loop-rest-init c =
    let xs = c.args.structural_indexes.now in
    let all = set_bits 64 c.args.base c.args.bits in
    let none : c.args.used - c.args.used ≡ 0 = omega arith in
    record {
      from = omega arith;
      few = omega arith;
      stored = subst (λ k. IsStored xs c.args.used all k c.args.base xs c.args.bits) (sym none)
          (stored-first xs c.args.used c.args.base c.args.bits c.ranges.bits.fits);
    }

pub store_lowest-rest-requires-clause-capacity : goal.store_lowest-rest-requires-clause-capacity
store_lowest-rest-requires-clause-capacity c =
    let i = c.loop-rest.invariant in
    omega (arith, stored-more _ _ _ c.args.bits _ _ _ c.ranges.bits.fits i.stored (omega arith), i.stored.len)

pub loop-rest-smaller : goal.loop-rest-smaller
loop-rest-smaller c = omega (arith, stored-more _ _ _ c.args.bits _ _ _ c.ranges.bits.fits c.loop-rest.invariant.stored (omega arith))

pub loop-rest-preserved : goal.loop-rest-preserved
loop-rest-preserved c =
    let l = c.loop-rest in
    let s = c.store_lowest-rest in
    let xs = c.args.structural_indexes.now in
    let all = set_bits 64 c.args.base c.args.bits in
    let at : l.end ≡ c.args.used + (l.end - c.args.used) = omega arith in
    let up : l.end - c.args.used + 1 ≡ l.end + 1 - c.args.used = omega arith in
    record {
      from = omega arith;
      few = omega (arith, stored-more _ _ _ c.args.bits _ _ _ c.ranges.bits.fits l.invariant.stored (omega arith));
      stored = subst (λ k. IsStored xs c.args.used all k c.args.base s.new.structural_indexes s.result) up
          (s.ensures xs c.args.used all (l.end - c.args.used) at l.invariant.stored);
    }

pub returns-clause-count : goal.returns-clause-count
returns-clause-count c = omega (arith, stored-end _ _ _ c.args.bits _ _ _ c.ranges.bits.fits c.loop-rest.invariant.stored (omega arith))

pub returns-clause-written : goal.returns-clause-written
returns-clause-written c =
    let l = c.loop-rest in
    let last = stored-end _ _ _ _ _ _ _ c.ranges.bits.fits l.invariant.stored (omega arith) in
    let at : l.end ≡ c.args.used + count_ones c.args.bits = omega arith in
    ap (λ n. take n l.structural_indexes) at ∙ stored-all _ _ _ _ _ _ _ c.ranges.bits.fits l.invariant.stored last
