use Rattle.std.proofs.Common.{◌∙◌, sym, arith, rules}
use Rattle.simd_json_query.proofs.Characters.{named-more}
use Rattle.simd_json_query.proofs.text.names.name.Goals as goal

pub name-preserved : goal.name-preserved
name-preserved g c = (
  search rules,
  rw c.in_ok-push-2.ensures.bytes
      (named-more _ _ _ _ _ c.in-Some.next c.name.invariant.1
      (sym c.is_in_name.ensures ∙ c.if-not-is_in_name.false) c.in-Some.ensures.character),
  omega (arith, c.in-Some.ensures.shorter, c.name.invariant.2),
)
