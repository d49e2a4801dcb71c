use Rattle.std.proofs.Common.{◌≡◌, ◌≤◌, ◌<◌, get_or, length, drop}
use Rattle.simd_json_parts.specs.Followed.{ends_from, tokens_after}
use Rattle.simd_json_ondemand.specs.Reached.{pointed_at}
use Rattle.simd_json_ondemand.specs.Sites.{site}
use Rattle.simd_json_ondemand.proofs.Pointers.{IsFollowed}
use Rattle.simd_json_ondemand.proofs.value.Value.at.Given as goal

abbrev pub invariant-loop-end : goal.invariant-loop-end
invariant-loop-end g l = record {
  within : l.at ≤ length l.text;
  begins : l.at < length l.text → get_or l.text l.at 0 ≡ 47;
  split : drop l.end-index l.ends ≡ ends_from l.at (tokens_after (drop l.at l.text));
  led : IsFollowed l.text l.self l.at l.reached;
  ahead : pointed_at l.text (site l.self) ≡ pointed_at (drop l.at l.text) (site l.reached);
}
