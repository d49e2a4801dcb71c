use Rattle.std.proofs.Common.{◌∙◌, sym}
use Rattle.std.proofs.lemmas.Bool.{false≢true}
use Rattle.simd_json.specs.Viewed.{doc}
use Rattle.simd_json_parts.specs.Printed.{compact}
use Rattle.jpick.specs.Rows.{arranged}
use Rattle.jpick.proofs.Arrays.{no-escapes}
use Rattle.jpick.proofs.Putting.{begun-none, puts-err, puts-is}
use Rattle.jpick.proofs.fields.put_element.Goals as goal
use Rattle.jpick.proofs.fields.put_element.Goals.{in-Tabs, in_default}

pub returns-in_err-fill_compact : goal.returns-in_err-fill_compact
returns-in_err-fill_compact g c = puts-err _ c.from_residual.result _ _ _ _ c.from_residual.ensures.1 (begun-none _ _ _)

pub returns-then-matches : goal.returns-then-matches
returns-then-matches g c =
    let w = c.args.wanted.now in
    let us = compact (arranged w (doc c.args.value)) in
    elim c.match-matches.branch [
      | in-Tabs b ↦ puts-is _ _ _ _ _ _ (sym (no-escapes w.layout b.in-Tabs.is us)) c.put_document.ensures
      | in_default b ↦ absurd (false≢true (sym b.matches-is ∙ c.if-matches.true))
    ]
