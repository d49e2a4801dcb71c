use Rattle.std.proofs.Common.{◌≡◌, length}
use Rattle.simd_json_parts.specs.Document.{Members, members}
use Rattle.simd_json_parts.specs.Listing.{members_listing}
use Rattle.simd_json_c.specs.Placed.{AreAt, token_key}
use Rattle.simd_json_c.proofs.Placing.{MembersLeft}
use Rattle.simd_json_c.proofs.pointer.member.Given as goal

abbrev pub invariant-loop-passed : goal.invariant-loop-passed
invariant-loop-passed l =
    (ms : Members) → AreAt l.nodes l.text l.first (members_listing ms) → l.len ≡ length (members ms)
    → MembersLeft l.nodes l.text (token_key l.is_plain l.token) ms l.len l.first l.passed l.at
