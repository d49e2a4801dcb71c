use Rattle.simd_json_parts.proofs.Pointers.Fronts.{plain-whole}
use Rattle.simd_json_parts.proofs.pointer.token.is_plain.Goals as goal

pub returns : goal.returns
returns c = plain-whole c.args.token.now _ c.front_len.ensures
