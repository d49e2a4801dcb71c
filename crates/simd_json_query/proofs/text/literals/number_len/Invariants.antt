use Rattle.std.proofs.Common.{◌≡◌, ◌<◌, ℕ, false}
use Rattle.simd_json_parts.specs.Bytes.{byte_at, is_terminator}
use Rattle.simd_json_query.proofs.text.literals.number_len.Given as goal

abbrev pub invariant-loop-i : goal.invariant-loop-i
invariant-loop-i l = (k : ℕ) → k < l.i → is_terminator (byte_at l.fn.bytes k) ≡ false
