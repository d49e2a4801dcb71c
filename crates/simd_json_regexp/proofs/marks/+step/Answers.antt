use Rattle.std.proofs.Common.{◌∙◌, sym}
use Rattle.simd_json_regexp.specs.Nodes.{regexp}
use Rattle.simd_json_regexp.proofs.Idle.{idle-step}
use Rattle.simd_json_regexp.proofs.marks.+step.Goals as goal

pub returns-then-is_idle-clause-marks : goal.returns-then-is_idle-clause-marks
returns-then-is_idle-clause-marks t c =
    (idle-step (regexp c.args.nodes.now) c.args.enters c.args.c c.args.marks.now c.requires.marks
    (sym c.is_idle.ensures ∙ c.if-is_idle.true)).0

pub returns-then-is_idle-clause-last : goal.returns-then-is_idle-clause-last
returns-then-is_idle-clause-last t c =
    (idle-step (regexp c.args.nodes.now) c.args.enters c.args.c c.args.marks.now c.requires.marks
    (sym c.is_idle.ensures ∙ c.if-is_idle.true)).1
