use Rattle.std.proofs.Common.{◌∙◌, ap, sym, subst, flat_map, take}
use Rattle.simd_json.specs.Viewed.{doc}
use Rattle.simd_json_parts.specs.Printed.{compact}
use Rattle.log_report.specs.Rows.{Extends, most_bytes, tsv_byte}
use Rattle.log_report.proofs.Cuts.{extends-escaped, other-of, string-of}
use Rattle.log_report.proofs.rows.append_field.Goals as goal

pub returns-in-Some : goal.returns-in-Some
returns-in-Some c =
    subst (Extends c.args.row.now.items c.append_escaped.new.row.items)
    (ap (flat_map tsv_byte) c.as_bytes.ensures.value ∙ sym (string-of (doc c.args.value) c.in-Some.string.now c.in-Some.ensures))
    c.append_escaped.ensures

pub returns : goal.returns
returns c =
    let d = doc c.args.value in
    subst (Extends c.args.row.now.items c.append_escaped-2.new.row.items)
    (sym (other-of d c.in_default.ensures (sym c.eq_null.ensures ∙ c.if-eq_null.false)))
    (extends-escaped c.args.row.now.items c.append_escaped-2.new.row.items c.as_slice.result.now (compact d)
    (ap (take most_bytes) c.as_slice.ensures.value ∙ subst (λ us. Extends us c.append_compact.new.row.items (compact d))
    c.new-text.ensures c.in_ok-append_compact.ensures) c.as_slice.ensures.fits c.append_escaped-2.ensures)
