use Rattle.std.proofs.Common.{◌≡◌, ◌≤◌, ◌<◌, get_or, length, drop}
use Rattle.simd_json_parts.specs.Followed.{ends_from, tokens_after}
use Rattle.simd_json_parts.specs.Pointed.{pointed, pointed_from}
use Rattle.simd_json.specs.Viewed.{doc}
use Rattle.simd_json.proofs.value.tape.value.Value.at.Given as goal

abbrev pub invariant-loop-end : goal.invariant-loop-end
invariant-loop-end g l = record {
  within : l.at ≤ length l.text;
  begins : l.at < length l.text → get_or l.text l.at 0 ≡ 47;
  split : drop l.end-index l.ends ≡ ends_from l.at (tokens_after (drop l.at l.text));
  led : pointed l.text (doc l.self) ≡ pointed_from l.at (drop l.at l.text) (doc l.reached);
}
