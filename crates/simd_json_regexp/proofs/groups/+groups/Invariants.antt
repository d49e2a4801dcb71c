use Rattle.std.proofs.Common.{◌≡◌, ◌≤◌, ◌+◌, ◌*◌, length}
use Rattle.std.specs.Str.{chars}
use denote.Text.{Utf8}
use denote.Shadow.{shadow}
use Rattle.simd_json_regexp.specs.Patterns.{alternatives, branch, group, more_branches, pieces}
use Rattle.simd_json_regexp.specs.Written.{Grows, part_of, written}
use Rattle.simd_json_regexp.proofs.groups.+groups.Given as goal

abbrev pub decreases-alternatives : goal.decreases-alternatives
decreases-alternatives l = 5 * l.depth + 4

abbrev pub decreases-branch : goal.decreases-branch
decreases-branch l = 5 * l.depth + 3

abbrev pub decreases-piece : goal.decreases-piece
decreases-piece l = 5 * l.depth + 2

abbrev pub decreases-atom : goal.decreases-atom
decreases-atom l = 5 * l.depth + 1

abbrev pub decreases-group : goal.decreases-group
decreases-group l = 5 * l.depth

abbrev pub invariant-alternatives-branches : goal.invariant-alternatives-branches
invariant-alternatives-branches l = record {
  utf8 : shadow (Utf8 l.left);
  grows : Grows (written l.fn.sink) (written l.sink);
  within : l.all ≤ length (written l.sink);
  same : more_branches (group l.depth) l.fuel (part_of (written l.sink) l.all) l.sink.next (chars l.left)
      ≡ alternatives (group l.fn.depth) l.fn.sink.next (chars l.fn.rest);
}

abbrev pub decreases-alternatives-branches : goal.decreases-alternatives-branches
decreases-alternatives-branches l = l.fuel

abbrev pub invariant-branch-pieces : goal.invariant-branch-pieces
invariant-branch-pieces l = record {
  utf8 : shadow (Utf8 l.left);
  grows : Grows (written l.fn.sink) (written l.sink);
  within : l.all ≤ length (written l.sink);
  same : pieces (group l.depth) l.fuel (part_of (written l.sink) l.all) l.sink.next (chars l.left)
      ≡ branch (group l.fn.depth) l.fn.sink.next (chars l.fn.rest);
}

abbrev pub decreases-branch-pieces : goal.decreases-branch-pieces
decreases-branch-pieces l = l.fuel
