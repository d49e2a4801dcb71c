use Rattle.std.proofs.Common.{◌≤◌, length}
use denote.Text.{Utf8}
use denote.Shadow.{shadow}
use Rattle.simd_json_query.specs.Steps.{Blanks}
use Rattle.simd_json_query.proofs.text.cursor.skip_blanks.Given as goal

abbrev pub invariant-blanks : goal.invariant-blanks
invariant-blanks l = shadow (Utf8 l.left) × Blanks l.fn.rest l.left × (length l.left ≤ length l.fn.rest)

abbrev pub decreases-blanks : goal.decreases-blanks
decreases-blanks l = length l.left
