use Rattle.std.proofs.Common.{◌≡◌, sym, subst, arith}
use Rattle.simd_json_stages.specs.Blocks.{IsAscii}
use Rattle.simd_json_stages.proofs.Scan.EncodingLaws.{utf8-ascii}
use Rattle.simd_json_stages.proofs.stage1.encoding.check_window.Goals as goal

pub returns-then-checked-start-clause-utf8 : goal.returns-then-checked-start-clause-utf8
returns-then-checked-start-clause-utf8 c =
    let at : c.args.start ≡ c.args.checked = sym c.if-checked-start.true in (
      c.requires.end_within,
      utf8-ascii c.args.input.now c.args.checked c.args.end (omega arith) c.requires.end_within c.requires.checked.1
          (subst (λ i. IsAscii c.args.input.now i c.args.end) at (c.requires.ascii c.if-is_ascii.true)),
    )
