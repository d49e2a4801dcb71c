use Rattle.std.proofs.Common.{arith, sym, get_or}
use Rattle.std.proofs.lemmas.Bool.{eq-eqb}
use Rattle.std.proofs.lemmas.List.Sums.{position_or_len_is}
use Rattle.simd_json_check.specs.Locations.{is_line_feed}
use Rattle.jcheck.proofs.excerpt.line_end.Goals as goal

pub returns-else-bytes-end-ne10-clause-end : goal.returns-else-bytes-end-ne10-clause-end
returns-else-bytes-end-ne10-clause-end c =
    let bytes = c.args.bytes.now in
    let end = c.loop-end.end in
    sym (position_or_len_is is_line_feed bytes end 0 c.loop-end.invariant.0 c.loop-end.invariant.1
    (λ _. eq-eqb (get_or bytes end 0) 10 c.if-bytes-end-ne10.false))

pub returns-after-loop-end-clause-end : goal.returns-after-loop-end-clause-end
returns-after-loop-end-clause-end c =
    sym (position_or_len_is is_line_feed c.args.bytes.now c.loop-end.end 0 c.loop-end.invariant.0 c.loop-end.invariant.1
    (λ h. absurd (omega arith)))
