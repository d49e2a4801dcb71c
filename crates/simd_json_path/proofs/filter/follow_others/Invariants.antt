use Rattle.std.proofs.Common.{◌≡◌, drop}
use Rattle.simd_json.specs.Viewed.{doc}
use Rattle.simd_json_path.specs.Nodes.{at_steps}
use Rattle.simd_json_path.proofs.filter.follow_others.Given as goal

abbrev pub invariant-loop-step : goal.invariant-loop-step
invariant-loop-step l = at_steps (drop l.step-index l.steps) (doc l.reached) ≡ at_steps l.fn.steps (doc l.fn.node)
