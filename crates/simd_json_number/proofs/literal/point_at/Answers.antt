use Rattle.std.proofs.Common.{sym, length, arith, rules}
use Rattle.std.proofs.lemmas.List.Sums.{position_or_len_is}
use Rattle.simd_json_number.specs.Numbers.{is_point}
use Rattle.simd_json_number.proofs.literal.point_at.Goals as goal

pub returns-then-byte-eq46 : goal.returns-then-byte-eq46
returns-then-byte-eq46 c =
    sym (position_or_len_is is_point c.args.significand.now c.loop-index.index 0 (omega arith) c.loop-index.invariant (λ _. search rules))

pub returns : goal.returns
returns c =
    sym (position_or_len_is is_point c.args.significand.now (length c.args.significand.now) 0 (omega arith)
    (λ k less. c.loop-index.invariant k (omega arith)) (λ less. absurd (omega arith)))
