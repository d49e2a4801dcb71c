use Rattle.std.proofs.Common.{◌<◌, ◌≤◌, ◌^◌, length}
use denote.Text.{Utf8}
use denote.Shadow.{shadow}
use Rattle.simd_json_query.proofs.Numbers.{IsRead}
use Rattle.simd_json_query.proofs.text.integers.more_digits.Given as goal

abbrev pub invariant-digits : goal.invariant-digits
invariant-digits l =
    shadow (Utf8 l.left) × (0 < l.value) × (l.value < 2 ^ 53) × IsRead l.fn.first l.value l.fn.others l.left
    × (length l.left ≤ length l.fn.others)

abbrev pub decreases-digits : goal.decreases-digits
decreases-digits l = length l.left
