use Rattle.std.proofs.Common.{arith, rules}
use Rattle.simd_json_query.proofs.Characters.{started-more}
use Rattle.simd_json_query.proofs.text.strings.string.Goals as goal

pub pieces-preserved : goal.pieces-preserved
pieces-preserved g c = (
  search rules,
  rw c.in_ok-push.ensures.bytes
      (started-more _ _ _ _ _ c.in_ok-character.character c.pieces.invariant.1 c.in_ok-character.ensures.piece),
  omega (arith, c.in_ok-character.ensures.shorter, c.pieces.invariant.2),
)
