use Rattle.std.proofs.Common.{◌≡◌, ◌-◌, length, false}
use Rattle.simd_json_parts.specs.Bytes.{byte_at}
use Rattle.simd_json_scalars.specs.StringContent.{is_plain}
use Rattle.simd_json_scalars.specs.StringDecoded.{IsDecoded}
use Rattle.simd_json_scalars.proofs.stringparse.unescape.Given as goal

-- what is read is written, up to a backslash or the closing quote
abbrev pub invariant-loop-unread : goal.invariant-loop-unread
invariant-loop-unread l = record {
  decoded : IsDecoded l.initial.unread l.from l.from l.unread l.ends.read l.ends.written;
  stops : is_plain (byte_at l.initial.unread l.ends.read) ≡ false;
}

abbrev pub decreases-loop-unread : goal.decreases-loop-unread
decreases-loop-unread l = length l.unread - l.ends.read
