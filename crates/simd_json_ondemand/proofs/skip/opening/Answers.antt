use Rattle.simd_json_parts.specs.Bytes.{is_opening}
use Rattle.simd_json_ondemand.proofs.Groups.{compared, test_opening}
use Rattle.simd_json_ondemand.proofs.skip.opening.Goals as goal

pub returns : goal.returns
returns c = compared 123 is_opening c.args.bytes c.fits-bytes.0 c.fits-bytes.1 test_opening
