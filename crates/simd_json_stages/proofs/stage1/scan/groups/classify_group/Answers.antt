use Rattle.std.proofs.Common.{◌≡◌, ◌+◌, ◌*◌, length, subst, arith}
use Rattle.simd_json_stages.specs.Blocks.{CanList, HasClasses}
use Rattle.simd_json_stages.specs.BlockScans.{Classifies}
use Rattle.simd_json_stages.proofs.Scan.BlockScanLaws.{Classifies-none, Classifies-one, Classifies-more, Classifies-same, CanList-after}
use Rattle.simd_json_stages.proofs.Scan.GroupLaws.{words-set, each-next}
use Rattle.simd_json_stages.proofs.stage1.scan.groups.classify_group.Goals as goal

pub loop-k-init : goal.loop-k-init
loop-k-init c =
    let first : c.args.first ≡ c.args.first + 0 = omega arith in
    record {
      to = omega arith;
      words = record { first = omega arith; second = omega arith; third = omega arith; fourth = omega arith };
      capacity = subst (λ n. CanList c.args.blocks.now n (c.args.first + 8) c.args.before.listed (length c.args.escape_blocks.now)) first
          c.requires.capacity;
      classified = Classifies-same first (Classifies-none _ _ _ _);
      classes = λ b blocks before k l. absurd (omega arith);
    }

pub loop-k-preserved : goal.loop-k-preserved
loop-k-preserved c =
    let l = c.loop-k in
    let i = l.invariant in
    let m = c.classify-found in
    let s = c.with_block-now in
    let next : c.args.first + l.k + 1 ≡ c.args.first + (l.k + 1) = omega arith in
    let one : Classifies c.args.blocks.now (c.args.first + l.k) (c.args.first + l.k + 1) l.now s.result l.escape_blocks
    s.new.escape_blocks = Classifies-one (λ b is. is (c.args.first + l.k) _ (omega arith)) m.ensures.classified s.ensures.few
    s.ensures.ascii s.ensures.classified in
    record {
      to = omega arith;
      words = words-set l.k _ _ _ _ i.words;
      capacity = CanList-after _ _ _ _ _ _ _ _ i.capacity (omega arith) (omega arith) (omega (arith, s.ensures.few)) (omega arith);
      classified = Classifies-same next (Classifies-more (omega arith) (omega arith) i.classified one);
      classes = λ b blocks before.
          let h = i.classified.classified b blocks before in
          let found = m.ensures.classified b _ (blocks (c.args.first + l.k) _ (omega arith)) h.escaped in
          each-next (λ k. HasClasses b (64 * (c.args.first + k))) l.k _ _ _ _ i.words (omega arith) (i.classes b blocks before)
          found.classes;
    }

pub returns-clause-classified : goal.returns-clause-classified
returns-clause-classified c =
    let e : c.args.first + c.loop-k.k ≡ c.args.first + 8 = omega arith in
    Classifies-same e c.loop-k.invariant.classified

pub returns-clause-classes : goal.returns-clause-classes
returns-clause-classes c = λ b blocks before k to. c.loop-k.invariant.classes b blocks before k (omega arith)
