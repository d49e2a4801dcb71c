use Rattle.std.proofs.Common.{sym, ◌∙◌, ap, ap₂, ◌+◌, ◌*◌, ◌^◌, length-drop}
use Rattle.std.specs.Str.Parse.{digits_value}
use Rattle.std.proofs.lemmas.List.{take_rest}
use Rattle.simd_json_scalars.proofs.Numbers.Values.{digits_value-join}
use Rattle.simd_json_scalars.proofs.numberparse.integers.wide_magnitude.Goals as goal

pub returns : goal.returns
returns c =
    let ds = c.args.digits.now in
    let n = c.min-first.result in
    let high = ap₂ (λ v p. v * p) c.short_magnitude-high.ensures (c.pow-power.ensures ∙ ap (λ k. 10 ^ k) (sym (length-drop n ds))) in
    let low = c.short_magnitude-low.ensures ∙ ap (digits_value 10) (take_rest ds n) in
    ap₂ (λ v w. v + w) high low ∙ sym (digits_value-join n ds)
