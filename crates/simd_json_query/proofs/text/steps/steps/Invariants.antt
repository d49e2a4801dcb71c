use Rattle.std.proofs.Common.{◌≤◌, length}
use denote.Text.{Utf8}
use denote.Shadow.{shadow}
use Rattle.simd_json_query.specs.Steps.{Steps}
use Rattle.simd_json_query.proofs.text.steps.steps.Given as goal

abbrev pub invariant-steps : goal.invariant-steps
invariant-steps g l = shadow (Utf8 l.left) × Steps l.steps.items l.fn.rest l.left × (length l.left ≤ length l.fn.rest)

abbrev pub decreases-steps : goal.decreases-steps
decreases-steps g l = length l.left
