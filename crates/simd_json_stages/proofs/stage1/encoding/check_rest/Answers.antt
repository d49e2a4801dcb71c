use Rattle.std.proofs.Common.{refl}
use Rattle.std.proofs.lemmas.Bool.{false≢true}
use Rattle.simd_json_stages.proofs.Scan.EncodingLaws.{utf8-whole, utf8-rest}
use Rattle.simd_json_stages.proofs.stage1.encoding.check_rest.Goals as goal

pub returns-then-is_utf8-clause-utf8 : goal.returns-then-is_utf8-clause-utf8
returns-then-is_utf8-clause-utf8 c = (refl, utf8-whole c.args.input.now c.args.checked c.requires.checked.1 (c.if-is_utf8.ensures.0 refl))

pub returns-else-is_utf8-clause-fault : goal.returns-else-is_utf8-clause-fault
returns-else-is_utf8-clause-fault c = (
  c.generic.ensures,
  λ all. false≢true (c.if-is_utf8.ensures.1
      (utf8-rest c.args.input.now c.args.checked c.requires.checked.0 c.requires.checked.1 all)),
)
