use Rattle.std.proofs.Common.{◌∙◌, ap, ◌+◌, ◌++◌, drop, take, arith}
use Rattle.simd_json_path.specs.IteratorNodes.{effort, frames_left}
use Rattle.simd_json_path.specs.Nodes.{nodes}
use Rattle.simd_json_path.specs.Paths.{selected_by}
use Rattle.simd_json_path.proofs.Stacks.{after-left, after-effort}
use Rattle.simd_json_path.proofs.frames.open.Goals as goal

pub returns-clause-left : goal.returns-clause-left
returns-clause-left c root ss segment =
    let fs = c.args.frames.now in
    let at = c.args.at in
    after-left root ss fs at c.new.result segment c.requires
    ∙ ap (λ ds. nodes (selected_by root) (drop (at + 1) ss) ds ++ frames_left root ss (take at fs)) (c.new.ensures root)

pub returns-clause-effort : goal.returns-clause-effort
returns-clause-effort c root ss segment =
    let at = c.args.at in
    omega (
      arith,
      after-effort root ss c.args.frames.now at c.new.result segment c.requires,
      ap (effort root (drop (at + 1) ss)) (c.new.ensures root),
    )
