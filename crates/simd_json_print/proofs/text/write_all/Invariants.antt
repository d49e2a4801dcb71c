use Rattle.std.proofs.Common.{◌≡◌, ℕ, List, ◌++◌, length}
use Rattle.std.specs.Io.KnownBytes.{Appends}
use Rattle.simd_json_print.proofs.text.write_all.Given as goal

abbrev pub invariant-loop-left : goal.invariant-loop-left
invariant-loop-left g l =
    (sent : List ℕ) × Appends (g.T.Target.state l.initial.target).held (g.T.Target.state l.target).held sent
    × (sent ++ l.left ≡ l.initial.left) × ((g.T.Target.state l.target).failed ≡ (g.T.Target.state l.initial.target).failed)

abbrev pub decreases-loop-left : goal.decreases-loop-left
decreases-loop-left g l = length l.left
