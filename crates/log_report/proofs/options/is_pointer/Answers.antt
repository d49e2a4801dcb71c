use Rattle.std.proofs.Common.{◌∙◌, ap, sym}
use Rattle.std.proofs.lemmas.Bool.{eqb-true}
use Rattle.simd_json_parts.proofs.Pointers.Keys.{some-bytes}
use Rattle.simd_json_parts.specs.Pointed.{is_pointer}
use Rattle.log_report.proofs.Selectors.{no-byte, no-slash, slashed}
use Rattle.log_report.proofs.options.is_pointer.Goals as goal

pub returns-then-is_empty : goal.returns-then-is_empty
returns-then-is_empty c =
    no-byte c.as_bytes-bytes.result.now (eqb-true _ _ (sym c.is_empty.ensures ∙ c.if-is_empty.true))
    ∙ ap is_pointer c.as_bytes-bytes.ensures.value

pub returns-then-bytes-ne47 : goal.returns-then-bytes-ne47
returns-then-bytes-ne47 c =
    let bytes = c.as_bytes-bytes.result.now in
    no-slash bytes (some-bytes bytes c.if-is_empty.ensures) c.if-bytes-ne47.true ∙ ap is_pointer c.as_bytes-bytes.ensures.value

pub returns : goal.returns
returns c =
    let bytes = c.as_bytes-bytes.result.now in
    c.is_well_formed.ensures ∙ slashed bytes (some-bytes bytes c.if-is_empty.ensures) c.if-bytes-ne47.false
    ∙ ap is_pointer c.as_bytes-bytes.ensures.value
