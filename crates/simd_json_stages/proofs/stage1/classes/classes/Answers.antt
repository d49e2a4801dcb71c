use Rattle.std.proofs.Common.{◌∙◌, ◌==◌, ap, ltb}
use Rattle.std.specs.List.{list_any}
use Rattle.simd_json_parts.specs.Bytes.{backslash}
use Rattle.simd_json_stages.specs.Classes.{is_space_or_quote, is_op_or_quote}
use Rattle.simd_json_stages.proofs.Scan.Bits.Lanes.{two_lanes, two_tests, low_lanes, high_lanes, low-length, high-length, lanes-join}
use Rattle.simd_json_stages.proofs.Scan.Bits.Lanes.{ascii_lanes, ascii_bytes, any_in_lanes}
use Rattle.simd_json_stages.proofs.stage1.classes.classes.Goals as goal

pub returns-clause-space_or_quote : goal.returns-clause-space_or_quote
returns-clause-space_or_quote c = two_lanes is_space_or_quote c.args.bytes.now _ _ c.told-bytes
    c.look_up-low_spaces.ensures.space_or_quote c.look_up-high_spaces.ensures.space_or_quote

pub returns-clause-op_or_quote : goal.returns-clause-op_or_quote
returns-clause-op_or_quote c = two_lanes is_op_or_quote c.args.bytes.now _ _ c.told-bytes
    c.look_up-low_spaces.ensures.op_or_quote c.look_up-high_spaces.ensures.op_or_quote

pub returns-clause-control : goal.returns-clause-control
returns-clause-control c = two_tests ltb 32 c.args.bytes.now c.told-bytes

pub returns-clause-ascii : goal.returns-clause-ascii
returns-clause-ascii c = λ none.
    let b = c.args.bytes.now in
    ascii_bytes b c.told-bytes (ascii_lanes (low_lanes b) (high_lanes b) (low-length b c.told-bytes) (high-length b c.told-bytes) none)

pub returns-clause-escapes : goal.returns-clause-escapes
returns-clause-escapes c =
    let b = c.args.bytes.now in
    any_in_lanes 92 (low_lanes b) (high_lanes b) (low-length b c.told-bytes) (high-length b c.told-bytes)
    ∙ ap (list_any (λ x. x == backslash)) (lanes-join b c.told-bytes)
