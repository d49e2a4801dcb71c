use Rattle.simd_json_ondemand.proofs.Keys.{none-differs, first-differs}
use Rattle.simd_json_ondemand.proofs.key.common.Goals as goal

pub returns-then-differ-eq0 : goal.returns-then-differ-eq0
returns-then-differ-eq0 c = none-differs c.args.bytes c.args.others c.fits-bytes.0 c.requires c.if-differ-eq0.true

pub returns : goal.returns
returns c = first-differs c.args.bytes c.args.others c.fits-bytes.0 c.requires c.if-differ-eq0.false
