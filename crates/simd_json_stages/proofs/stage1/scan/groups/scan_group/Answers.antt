use Rattle.std.proofs.Common.{arith}
use Rattle.simd_json_stages.proofs.stage1.scan.groups.scan_group.Goals as goal

pub classify_group-classifying-requires-clause-within : goal.classify_group-classifying-requires-clause-within
classify_group-classifying-requires-clause-within c = c.requires.within

pub classify_group-classifying-requires-clause-short : goal.classify_group-classifying-requires-clause-short
classify_group-classifying-requires-clause-short c = c.requires.short

pub classify_group-classifying-requires-clause-capacity : goal.classify_group-classifying-requires-clause-capacity
classify_group-classifying-requires-clause-capacity c = c.requires.block_capacity

pub place_group-placing-requires-clause-short : goal.place_group-placing-requires-clause-short
place_group-placing-requires-clause-short c = c.requires.short

pub place_group-placing-requires-clause-capacity : goal.place_group-placing-requires-clause-capacity
place_group-placing-requires-clause-capacity c = omega (arith, c.requires.capacity)

pub returns : goal.returns
returns c = record {
  classifies = c.classify_group-classifying.ensures.classified;
  few = omega (arith, c.place_group-placing.ensures.few);
  placed = λ b blocks before.
      let classes = c.classify_group-classifying.ensures.classes b blocks before.classified in
      c.place_group-placing.ensures.placed b (λ k l. (classes k l).control) (c.part_group.ensures b _ classes) before.placed;
}
