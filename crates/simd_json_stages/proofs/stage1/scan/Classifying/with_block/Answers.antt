use Rattle.std.proofs.Common.{arith}
use Rattle.std.proofs.lemmas.Nat.{le_or_l, le_or_r}
use Rattle.simd_json_stages.proofs.Scan.ScanLaws.{bool-small, listed-within, IsClassified-next}
use Rattle.simd_json_stages.proofs.stage1.scan.Classifying.with_block.Goals as goal

pub returns-clause-few : goal.returns-clause-few
returns-clause-few c = omega (arith, bool-small c.args.found.has_backslash, c.list_block.ensures.count)

pub returns-clause-ascii : goal.returns-clause-ascii
returns-clause-ascii c = λ none. (
  omega (arith, le_or_l c.args.self.high c.args.found.high),
  omega (arith, le_or_r c.args.self.high c.args.found.high),
)

pub returns-clause-classified : goal.returns-clause-classified
returns-clause-classified c =
    let m = c.args.found in
    let d = c.list_block in
    λ b found before. IsClassified-next b c.args.block c.args.self c.args.escape_blocks.now m _ d.new.escape_blocks d.result before found
    d.ensures.listed d.ensures.count
    (let within = listed-within m.has_backslash c.requires.capacity before.within d.ensures.count in omega arith)
