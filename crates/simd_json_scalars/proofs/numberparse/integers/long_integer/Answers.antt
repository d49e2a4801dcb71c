use Rattle.std.proofs.Common.{sym, ◌∙◌, arith}
use Rattle.std.proofs.lemmas.Bool.{leb-true, leb-false}
use Rattle.simd_json_parts.specs.Numbers.{has_minus}
use Rattle.simd_json_scalars.proofs.Numbers.Values.{integer-AllDigits, number_at-value, number_at-below, number_at-excess}
use Rattle.simd_json_scalars.proofs.numberparse.integers.long_integer.Goals as goal

pub long_magnitude-requires : goal.long_magnitude-requires
long_magnitude-requires c = rw c.byte_or_space-minus.ensures (integer-AllDigits c.args.literal.now c.requires)

pub wide_node-requires : goal.wide_node-requires
wide_node-requires c = leb-true _ _ (sym c.is_in_range.ensures ∙ c.if-is_in_range.true)

pub returns-in-Ok : goal.returns-in-Ok
returns-in-Ok c b i rest e t =
    let value = rw c.byte_or_space-minus.ensures at (c.in-Ok.ensures) in
    let fits = rw c.byte_or_space-minus.ensures at (c.is_in_range.ensures) in
    let node = rw c.byte_or_space-minus.ensures at (c.wide_node.ensures) in (
      has_minus c.args.literal.now,
      c.in-Ok.value,
      number_at-value b i c.args.literal.now rest e t c.requires c.in-Ok.value value (leb-true _ _ (sym fits ∙ c.if-is_in_range.true)),
      node,
    )

pub returns-in-Ok-2 : goal.returns-in-Ok-2
returns-in-Ok-2 c b i rest e t =
    let value = rw c.byte_or_space-minus.ensures at (c.in-Ok.ensures) in
    let below = rw c.byte_or_space-minus.ensures at (c.is_in_range.ensures) in
    number_at-below b i c.args.literal.now rest e t c.requires c.in-Ok.value value (omega arith)
    (leb-false _ _ (sym below ∙ c.if-is_in_range.false))

pub returns-in-Err : goal.returns-in-Err
returns-in-Err c b i rest e t =
    let excess = rw c.byte_or_space-minus.ensures at (c.in-Err.ensures) in
    rw c.byte_or_space-minus.ensures (number_at-excess b i c.args.literal.now rest e t c.requires c.in-Err.offset excess)
