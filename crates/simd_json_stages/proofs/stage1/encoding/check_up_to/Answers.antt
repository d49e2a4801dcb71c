use Rattle.std.proofs.Common.{refl, arith}
use Rattle.simd_json_stages.proofs.Scan.EncodingLaws.{utf8-further, utf8-all}
use Rattle.simd_json_stages.proofs.stage1.encoding.check_up_to.Goals as goal

pub returns-then-is_utf8-clause-utf8 : goal.returns-then-is_utf8-clause-utf8
returns-then-is_utf8-clause-utf8 c = (
  omega arith,
  utf8-further c.args.input.now c.args.checked c.character_start-to.result (omega arith) c.requires.checked.1
      (c.if-is_utf8.ensures.0 refl),
)

pub returns-clause-utf8 : goal.returns-clause-utf8
returns-clause-utf8 c = utf8-all c.args.input.now c.check_rest.result c.check_rest.ensures.utf8
