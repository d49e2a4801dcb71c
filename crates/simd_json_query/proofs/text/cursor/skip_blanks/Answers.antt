use Rattle.std.proofs.Common.{◌∙◌, sym, arith, rules}
use Rattle.simd_json_query.proofs.Runs.{blanks-more}
use Rattle.simd_json_query.proofs.text.cursor.skip_blanks.Goals as goal

pub blanks-preserved : goal.blanks-preserved
blanks-preserved c = (
  search rules,
  blanks-more _ _ _ c.in-Some.first c.blanks.invariant.1 (sym c.is_blank.ensures ∙ c.if-not-is_blank.false) c.in-Some.ensures.character,
  omega (arith, c.in-Some.ensures.shorter, c.blanks.invariant.2),
)
