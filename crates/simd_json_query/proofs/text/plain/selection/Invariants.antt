use Rattle.std.proofs.Common.{◌≤◌, length}
use denote.Text.{Utf8}
use denote.Shadow.{shadow}
use Rattle.simd_json_query.specs.Choices.{ChoiceText}
use Rattle.simd_json_query.specs.Segments.{Selectors}
use Rattle.simd_json_query.specs.Steps.{Blanks}
use Rattle.simd_json_query.specs.Spans.{◌then◌}
use Rattle.simd_json_query.proofs.text.plain.selection.Given as goal

abbrev pub invariant-more : goal.invariant-more
invariant-more g l =
    shadow (Utf8 l.left) × (Blanks then Selectors ChoiceText l.selectors.items) l.fn.rest l.left × (length l.left ≤ length l.fn.rest)

abbrev pub decreases-more : goal.decreases-more
decreases-more g l = length l.left
