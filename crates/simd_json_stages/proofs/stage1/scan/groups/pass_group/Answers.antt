use Rattle.std.proofs.Common.{◌≡◌, ◌+◌, arith}
use Rattle.simd_json_stages.proofs.Scan.ScanLaws.{IsPlaced-same}
use Rattle.simd_json_stages.proofs.stage1.scan.groups.pass_group.Goals as goal

pub returns-then-quotes_before-eq0-2-clause-placed : goal.returns-then-quotes_before-eq0-2-clause-placed
returns-then-quotes_before-eq0-2-clause-placed c = λ b first out control parts.
    c.pass_blocks.ensures.placed b first out control parts
    (c.quotes_before-then-before-ne0.ensures b first parts c.if-quotes_before-eq0-2.true)

pub returns-then-before-ne0-clause-placed : goal.returns-then-before-ne0-clause-placed
returns-then-before-ne0-clause-placed c = λ b first out control parts.
    c.pass_blocks-then-before-ne0.ensures.placed b first out control parts
    (c.quotes_before.ensures b first parts c.if-quotes_before-eq0.true)

pub returns-clause-placed : goal.returns-clause-placed
returns-clause-placed c = λ b first out control parts.
    let e : first ≡ first + 0 = omega arith in
    IsPlaced-same e
