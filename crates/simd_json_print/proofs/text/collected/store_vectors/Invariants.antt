use Rattle.std.proofs.Common.{◌≡◌, ◌≤◌, ◌+◌, ◌-◌, ◌++◌, length, take}
use Rattle.simd_json_print.specs.Unescaped.{AreUnescaped}
use Rattle.simd_json_print.proofs.text.collected.store_vectors.Given as goal

abbrev pub invariant-loop-done : goal.invariant-loop-done
invariant-loop-done g l = record {
  within : l.done ≤ length l.bytes;
  stored : take (l.at + l.done) l.all ≡ take l.at l.initial.all ++ take l.done l.bytes;
  size : length l.all ≡ length l.initial.all;
  plain : AreUnescaped l.bytes 0 l.done;
}

abbrev pub decreases-loop-done : goal.decreases-loop-done
decreases-loop-done g l = length l.bytes - l.done
