use Rattle.std.proofs.Common.{◌≡◌, ◌+◌, ◌*◌, subst, arith}
use Rattle.simd_json_stages.specs.Groups.{HasNoQuotes}
use Rattle.simd_json_stages.proofs.Scan.ScanLaws.{or-none}
use Rattle.simd_json_stages.proofs.Scan.InsideLaws.{HasNoQuotes-block, HasNoQuotes-next}
use Rattle.simd_json_stages.proofs.stage1.scan.groups.quotes_before.Goals as goal

pub loop-k-init : goal.loop-k-init
loop-k-init c = record {
  to = omega arith;
  none = λ b first parts none i from to. absurd (omega arith);
}

pub loop-k-preserved : goal.loop-k-preserved
loop-k-preserved c =
    let l = c.loop-k in
    record {
      to = omega arith;
      none = λ b first parts none.
          let both = or-none l.quotes _ none in
          let end : 64 * (first + l.k) + 64 ≡ 64 * (first + (l.k + 1)) = omega arith in
          let here = HasNoQuotes-block b (64 * (first + l.k)) _ (parts l.k (omega arith)) both.1 in
          HasNoQuotes-next b (64 * first) (64 * (first + l.k)) _ (l.invariant.none b first parts both.0)
          (subst (λ n. HasNoQuotes b (64 * (first + l.k)) n) end here);
    }

pub returns : goal.returns
returns c =
    let l = c.loop-k in
    λ b first parts none.
    let e : 64 * (first + l.k) ≡ 64 * (first + c.args.end) = omega arith in
    subst (λ n. HasNoQuotes b (64 * first) n) e (l.invariant.none b first parts none)
