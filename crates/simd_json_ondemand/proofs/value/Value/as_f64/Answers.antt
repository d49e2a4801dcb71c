use Rattle.std.proofs.Common.{◌∙◌, sym, ap, option_map}
use Rattle.simd_json_ondemand.proofs.Floats.{some-float}
use Rattle.simd_json_ondemand.proofs.value.Value.as_f64.Goals as goal

pub returns-in_ok-number-in-None-clause-some : goal.returns-in_ok-number-in-None-clause-some
returns-in_ok-number-in-None-clause-some c =
    c.ok.ensures.variant ∙ c.parse.ensures.variant
    ∙ some-float c.args.self c.in_ok-number-in-None.field-0.now
    (sym c.number.ensures ∙ ap (option_map (λ bytes. bytes.now)) c.in_ok-number-in-None.was)
