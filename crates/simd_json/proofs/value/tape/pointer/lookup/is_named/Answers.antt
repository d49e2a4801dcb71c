use Rattle.std.proofs.Common.{◌∙◌, sym, length, eqb-true}
use Rattle.simd_json_parts.proofs.Pointers.Keys.{key-length}
use Rattle.simd_json.proofs.value.tape.pointer.lookup.is_named.Goals as goal

pub returns-else-key-len : goal.returns-else-key-len
returns-else-key-len c = (
  λ yes. absurd (c.if-key-len.false (eqb-true (length c.args.key.now) c.args.len yes)),
  λ is. absurd (c.if-key-len.false (key-length c.args.token.now c.args.key.now is ∙ sym c.requires)),
)
