use Rattle.std.proofs.Common.{◌≤◌, length}
use Rattle.std.specs.String.{string_bytes}
use denote.Text.{Utf8}
use denote.Shadow.{shadow}
use Rattle.simd_json_query.proofs.Characters.{IsNamed}
use Rattle.simd_json_query.proofs.text.names.name.Given as goal

abbrev pub invariant-name : goal.invariant-name
invariant-name g l =
    shadow (Utf8 l.left) × IsNamed l.fn.first (string_bytes l.name) l.fn.others l.left × (length l.left ≤ length l.fn.others)

abbrev pub decreases-name : goal.decreases-name
decreases-name g l = length l.left
