use Rattle.std.proofs.Common.{◌≡◌, ◌+◌, arith}
use Rattle.simd_json_stages.proofs.Scan.ScanLaws.{IsPlaced-same}
use Rattle.simd_json_stages.proofs.stage1.scan.groups.place_group.Goals as goal

pub loop-k-init : goal.loop-k-init
loop-k-init c = record {
  to = omega arith;
  capacity = omega arith;
  few = omega arith;
  placed = λ b control parts. c.pass_group-k.ensures.placed b c.args.first c.args.structural_indexes.now control parts;
}

pub place_block-now-requires-clause-capacity : goal.place_block-now-requires-clause-capacity
place_block-now-requires-clause-capacity c = omega (arith, c.loop-k.invariant.capacity)

pub loop-k-preserved : goal.loop-k-preserved
loop-k-preserved c =
    let l = c.loop-k in
    let i = l.invariant in
    let next : c.args.first + l.k + 1 ≡ c.args.first + (l.k + 1) = omega arith in
    record {
      to = omega arith;
      capacity = omega arith;
      few = omega arith;
      placed = λ b control parts before. IsPlaced-same next
          (c.place_block-now.ensures.placed b (parts l.k (omega arith)) (control l.k (omega arith)) (i.placed b control parts before));
    }

pub returns-clause-placed : goal.returns-clause-placed
returns-clause-placed c =
    let l = c.loop-k in
    let e : c.args.first + l.k ≡ c.args.first + 8 = omega arith in
    λ b control parts before. IsPlaced-same e (l.invariant.placed b control parts before)
