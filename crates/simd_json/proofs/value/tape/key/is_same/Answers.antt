use Rattle.std.proofs.Common.{arith}
use Rattle.std.specs.Int.{from_le_bytes, to_le_bytes, w16, w32, w64}
use Rattle.simd_json.proofs.Views.Ends.{same-ends}
use Rattle.simd_json.proofs.value.tape.key.is_same.Goals as goal

pub returns-then-word : goal.returns-then-word
returns-then-word c =
    let first = c.word.ensures.bytes in
    let last = c.word-then-word.ensures in
    let other = c.word-then-word-2.ensures in
    same-ends 8 (from_le_bytes w64) (to_le_bytes w64) c.args.key.now c.args.other.now c.as_bytes-key.ensures.value
    c.as_bytes-other.ensures.value c.requires (omega arith) (omega arith) c.if-word.true first c.word-then-len-ge8.ensures.bytes
    last.value last.bytes other.value other.bytes

pub returns-then-half : goal.returns-then-half
returns-then-half c =
    let first = c.half.ensures.bytes in
    let last = c.half-then-half.ensures in
    let other = c.half-then-half-2.ensures in
    same-ends 4 (from_le_bytes w32) (to_le_bytes w32) c.args.key.now c.args.other.now c.as_bytes-key.ensures.value
    c.as_bytes-other.ensures.value c.requires (omega arith) (omega arith) c.if-half.true first c.half-then-len-ge4.ensures.bytes
    last.value last.bytes other.value other.bytes

pub returns-then-pair : goal.returns-then-pair
returns-then-pair c =
    let first = c.pair.ensures.bytes in
    let last = c.pair-then-pair.ensures in
    let other = c.pair-then-pair-2.ensures in
    same-ends 2 (from_le_bytes w16) (to_le_bytes w16) c.args.key.now c.args.other.now c.as_bytes-key.ensures.value
    c.as_bytes-other.ensures.value c.requires (omega arith) (omega arith) c.if-pair.true first c.pair-then-len-ge2.ensures.bytes
    last.value last.bytes other.value other.bytes
