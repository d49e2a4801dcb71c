use Rattle.std.proofs.Common.{◌≤◌, length}
use Rattle.std.specs.String.{string_bytes}
use denote.Text.{Utf8}
use denote.Shadow.{shadow}
use Rattle.simd_json_query.proofs.Characters.{IsStarted}
use Rattle.simd_json_query.proofs.text.strings.string.Given as goal

abbrev pub invariant-pieces : goal.invariant-pieces
invariant-pieces g l =
    shadow (Utf8 l.left) × IsStarted l.fn.quote (string_bytes l.string) l.fn.rest l.left × (length l.left ≤ length l.fn.rest)

abbrev pub decreases-pieces : goal.decreases-pieces
decreases-pieces g l = length l.left
