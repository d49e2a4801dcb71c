use Rattle.std.proofs.Common.{◌≡◌, ◌≤◌, length}
use Rattle.simd_json_regexp.specs.Patterns.{repeated}
use Rattle.simd_json_regexp.specs.Written.{Grows, part_of, written}
use Rattle.simd_json_regexp.proofs.sink.Sink.repeat.Given as goal

abbrev pub invariant-copies : goal.invariant-copies
invariant-copies l = record {
  grows : Grows (written l.fn.self) (written l.self);
  within : l.all ≤ length (written l.self);
  same : repeated l.left (part_of (written l.self) l.part) (part_of (written l.self) l.all) l.self.next
      ≡ repeated l.fn.count (part_of (written l.fn.self) l.fn.part) (part_of (written l.fn.self) l.fn.first) l.fn.self.next;
}

abbrev pub decreases-copies : goal.decreases-copies
decreases-copies l = l.left
