use Rattle.std.proofs.Common.{◌≡◌, ◌+◌, ◌-◌, ◌*◌, ◌∙◌, ap, arith}
use Rattle.std.specs.Int.{from_bool}
use Rattle.simd_json_stages.specs.Blocks.{is_plain_before}
use Rattle.simd_json_stages.proofs.Scan.BlockWords.{plain-out}
use Rattle.simd_json_stages.proofs.Scan.InsideLaws.{IsPlaced-passed, IsPlaced-inside, passed-same}
use Rattle.simd_json_stages.proofs.stage1.scan.groups.pass_blocks.Goals as goal

pub loop-k-init : goal.loop-k-init
loop-k-init c = record {
  to = omega arith;
  placed = λ b first out control none before.
      let e : first ≡ first + 0 = omega arith in
      passed-same c.args.before e (IsPlaced-passed b first c.args.before out before);
}

pub loop-k-preserved : goal.loop-k-preserved
loop-k-preserved c =
    let l = c.loop-k in
    record {
      to = omega arith;
      placed = λ b first out control none before.
          let e : first + l.k + 1 ≡ first + (l.k + 1) = omega arith in
          passed-same c.args.before e
          (IsPlaced-inside b (first + l.k) c.args.before l.bad out _ c.requires.inside (control l.k (omega arith))
          (λ i from to. none i (omega arith) (omega arith)) (l.invariant.placed b first out control none before));
    }

pub returns-clause-placed : goal.returns-clause-placed
returns-clause-placed c =
    let l = c.loop-k in
    λ b first out control parts none before.
    let e : first + l.k ≡ first + c.args.end = omega arith in
    let end : 64 * (first + (c.args.end - 1)) + 64 ≡ 64 * (first + c.args.end) = omega arith in
    let plain = plain-out b (64 * (first + (c.args.end - 1))) _ (parts (c.args.end - 1) (omega arith))
    ∙ ap (λ n. from_bool (is_plain_before b n)) end in
    rw plain (passed-same c.args.before e (l.invariant.placed b first out control none before))
