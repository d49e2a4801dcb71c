use Rattle.simd_json_ondemand.proofs.Several.{some-byte}
use Rattle.simd_json_ondemand.proofs.value.Value.key_byte.Goals as goal

pub bounds-bytes-1 : goal.bounds-bytes-1
bounds-bytes-1 c = some-byte c.args.self c.bytes.result.now c.bytes.ensures.bytes c.requires
