use Rattle.std.proofs.Common.{◌∙◌, ap, sym, option_map, arith}
use Rattle.simd_json_parts.specs.Pointed.{array_index}
use Rattle.simd_json.specs.Viewed.{doc, docs}
use Rattle.simd_json_parts.proofs.Pointers.Pointed.{element-past}
use Rattle.simd_json.proofs.value.tape.pointer.lookup.element.Goals as goal

pub returns-in_err-read_index : goal.returns-in_err-read_index
returns-in_err-read_index c =
    ap (option_map doc) c.from_residual.ensures
    ∙ sym (element-past (docs c.args.array) (array_index c.args.token.now) (omega arith) (sym c.in_err-read_index.ensures))
