use Rattle.std.proofs.Common.{refl}
use Rattle.simd_json_parts.proofs.Pointers.Stripping.{no-key, whole-key}
use Rattle.simd_json_parts.proofs.pointer.key.is_key.Goals as goal

pub returns-in-Some : goal.returns-in-Some
returns-in-Some c = whole-key c.args.token.now c.args.key.now c.in-Some.rest.now c.is_empty.result c.is_empty.ensures c.in-Some.ensures

pub returns-in-None : goal.returns-in-None
returns-in-None c = no-key c.args.token.now c.args.key.now _ refl c.in-None.ensures
