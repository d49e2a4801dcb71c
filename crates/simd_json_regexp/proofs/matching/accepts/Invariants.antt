use Rattle.std.proofs.Common.{◌≡◌, ℕ, List, ◌++◌, length, true}
use Rattle.simd_json_regexp.specs.Marks.{accepts, size}
use Rattle.simd_json_regexp.specs.Nodes.{regexp}
use Rattle.simd_json_regexp.proofs.matching.accepts.Given as goal

abbrev pub invariant-loop-c : goal.invariant-loop-c
invariant-loop-c l = record {
  marks : length l.marks ≡ size (regexp l.nodes);
  same : (more : List ℕ)
      → accepts (regexp l.nodes) l.enters l.marks more ≡ accepts (regexp l.nodes) true l.fn.marks (l.yielded ++ more);
}
