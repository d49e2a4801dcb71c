use Rattle.std.proofs.Common.{◌∙◌, ap, min}
use Rattle.simd_json_check.specs.Locations.{bad_string, first_index, is_control_inside, is_left_open}
use Rattle.simd_json_check.proofs.Places.StringScan.{first_index-or}
use Rattle.simd_json_check.proofs.location.scan.bad_string.Goals as goal

pub returns : goal.returns
unfolding bad_string
returns c =
    let b = c.args.input.now in
    c.min.ensures ∙ ap (λ k. min k c.open_quote.result) c.control_inside.ensures
    ∙ ap (min (first_index (is_control_inside b) b)) c.open_quote.ensures
    ∙ first_index-or (is_control_inside b) (is_left_open b) b
