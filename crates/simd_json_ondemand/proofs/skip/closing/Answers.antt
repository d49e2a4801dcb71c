use Rattle.simd_json_parts.specs.Bytes.{is_closing}
use Rattle.simd_json_ondemand.proofs.Groups.{compared, test_closing}
use Rattle.simd_json_ondemand.proofs.skip.closing.Goals as goal

pub returns : goal.returns
returns c = compared 125 is_closing c.args.bytes c.fits-bytes.0 c.fits-bytes.1 test_closing
