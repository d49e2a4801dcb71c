use Rattle.std.proofs.Common.{◌≡◌, ◌≤◌, length, take}
use Rattle.std.specs.Str.{chars}
use denote.Text.{Utf8}
use denote.Shadow.{shadow}
use Rattle.simd_json_regexp.specs.Patterns.{more_items}
use Rattle.simd_json_regexp.specs.Written.{Grows, written}
use Rattle.simd_json_regexp.proofs.brackets.more_items.Given as goal

abbrev pub invariant-items : goal.invariant-items
invariant-items l = record {
  utf8 : shadow (Utf8 l.left);
  grows : Grows (written l.fn.sink) (written l.sink);
  within : l.count ≤ length (written l.sink);
  same : more_items l.sink.next (take l.count (written l.sink)) (chars l.left)
      ≡ more_items l.fn.sink.next (take 1 (written l.fn.sink)) (chars l.fn.rest);
}

abbrev pub decreases-items : goal.decreases-items
decreases-items l = l.sink.next
