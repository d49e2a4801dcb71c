use Rattle.std.proofs.Common.{◌≡◌, ◌≤◌, length, take}
use Rattle.simd_json.specs.Viewed.{doc}
use Rattle.simd_json_path.specs.IteratorNodes.{frames_effort, frames_left}
use Rattle.simd_json_path.proofs.frames.advance.Given as goal

abbrev pub invariant-frames : goal.invariant-frames
invariant-frames l = record {
  within : l.opened ≤ length l.segments;
  left : frames_left (doc l.root) l.segments (take l.opened l.frames)
      ≡ frames_left (doc l.fn.root) l.fn.segments (take l.fn.opened l.fn.frames);
}

abbrev pub decreases-frames : goal.decreases-frames
decreases-frames l = frames_effort (doc l.root) l.segments (take l.opened l.frames)
