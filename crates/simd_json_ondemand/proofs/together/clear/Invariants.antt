use Rattle.std.proofs.Common.{◌≡◌, ◌<◌, ◌%◌, ℕ, length, get_or, None, Some, true, false}
use Rattle.std.specs.List.{slice_get}
use Rattle.simd_json_ondemand.proofs.together.clear.Given as goal

abbrev pub invariant-loop-k : goal.invariant-loop-k
invariant-loop-k g l = record {
  same : length l.values ≡ length l.fn.values;
  none : (j : ℕ) → j < l.k → get_or l.values j None ≡ None;
  size : length l.begins ≡ 64;
  escape : get_or l.begins (92 % 64) false ≡ true;
  each : (j : ℕ) (p : _) → slice_get l.pointers j ≡ Some p → j < l.k → get_or l.begins (get_or p.first 0 0 % 64) false ≡ true;
}
