use Rattle.std.proofs.Common.{◌∙◌, inl, ne_eqb}
use Rattle.simd_json_ondemand.specs.Docs.{text, index_of}
use Rattle.simd_json_ondemand.proofs.Standing.{no-string}
use Rattle.simd_json_ondemand.proofs.value.Value.as_str.Goals as goal

pub returns-then-first-ne34 : goal.returns-then-first-ne34
returns-then-first-ne34 c =
    let v = c.args.self in
    inl (no-string (text v.document) (index_of v) (ne_eqb _ 34 (λ e. c.if-first-ne34.true (c.first.ensures ∙ e))))
