use Rattle.std.proofs.Common.{◌+◌, ◌*◌, arith}
use Rattle.simd_json_stages.specs.Blocks.{AreParts}
use Rattle.simd_json_stages.proofs.Scan.GroupLaws.{words-set, each-next}
use Rattle.simd_json_stages.proofs.stage1.scan.groups.part_group.Goals as goal

pub loop-k-init : goal.loop-k-init
loop-k-init c = record {
  to = omega arith;
  words = record { first = omega arith; second = omega arith; third = omega arith; fourth = omega arith };
  found = λ b first classes k l. absurd (omega arith);
}

pub loop-k-preserved : goal.loop-k-preserved
loop-k-preserved c =
    let l = c.loop-k in
    let i = l.invariant in
    record {
      to = omega arith;
      words = words-set l.k _ _ _ _ i.words;
      found = λ b first classes. each-next
          (λ k p q s t. AreParts b (64 * (first + k)) (record { parity = p; plain = q; space = s; quote = t }))
          l.k _ _ _ _ i.words (omega arith) (i.found b first classes) (c.find_parts-found.ensures b _ (classes l.k (omega arith)));
    }

pub returns : goal.returns
returns c =
    let l = c.loop-k in
    λ b first classes k to. l.invariant.found b first classes k (omega arith)
