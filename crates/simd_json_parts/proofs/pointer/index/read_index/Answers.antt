use Rattle.std.proofs.Common.{◌∙◌, ap, sym}
use Rattle.simd_json_parts.specs.Pointed.{is_array_index}
use Rattle.simd_json_parts.proofs.Pointers.Indexes.{index-read}
use Rattle.simd_json_parts.proofs.pointer.index.read_index.Goals as goal

pub returns : goal.returns
returns c =
    c.ok.ensures.value ∙ index-read c.args.token.now c.parse.result c.parse.ensures.value.0
    (ap is_array_index (sym c.as_bytes-digits.ensures.value) ∙ sym c.if-not-is_index.ensures)
