use Rattle.std.proofs.Common.{◌≡◌, ◌∙◌, ◌+◌, ◌-◌, ap, arith, drop, subst, sym, take}
use Rattle.simd_json_parts.specs.Nodes.{static_item}
use Rattle.simd_json_stages.specs.Placed.{IsTextOf}
use Rattle.simd_json_stages.proofs.stage2.spans.hand_long.Goals as goal

pub push_wide-requires-clause-literal : goal.push_wide-requires-clause-literal
push_wide-requires-clause-literal g c =
    let long : c.args.at + c.args.len - c.args.at ≡ c.args.len = omega arith in
    subst (IsTextOf (static_item c.args.value)) (sym (c.from_utf8_unchecked-literal.ensures
    ∙ ap (λ n. take n (drop c.args.at c.args.bytes.now)) long)) c.requires.literal
