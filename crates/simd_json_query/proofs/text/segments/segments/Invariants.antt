use Rattle.std.proofs.Common.{◌≤◌, length}
use denote.Text.{Utf8}
use denote.Shadow.{shadow}
use Rattle.simd_json_query.specs.Queries.{PathSegments}
use Rattle.simd_json_query.proofs.text.segments.segments.Given as goal

abbrev pub invariant-segments : goal.invariant-segments
invariant-segments g l = shadow (Utf8 l.left) × PathSegments l.segments.items l.fn.rest l.left × (length l.left ≤ length l.fn.rest)

abbrev pub decreases-segments : goal.decreases-segments
decreases-segments g l = length l.left
