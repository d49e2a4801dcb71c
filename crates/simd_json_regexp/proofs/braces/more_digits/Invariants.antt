use Rattle.std.proofs.Common.{◌≡◌, ◌≤◌, length}
use Rattle.std.specs.Str.{chars}
use denote.Text.{Utf8}
use denote.Shadow.{shadow}
use Rattle.simd_json_regexp.specs.Characters.{more_digits}
use Rattle.simd_json_regexp.proofs.braces.more_digits.Given as goal

abbrev pub invariant-digits : goal.invariant-digits
invariant-digits l = record {
  utf8 : shadow (Utf8 l.left);
  within : l.number ≤ 9999;
  same : more_digits l.number (chars l.left) ≡ more_digits l.fn.first (chars l.fn.rest);
}

abbrev pub decreases-digits : goal.decreases-digits
decreases-digits l = length (chars l.left)
