use Rattle.std.proofs.Common.{◌≡◌, ◌≤◌, ◌+◌, ◌-◌, length, drop}
use Rattle.simd_json_parts.specs.Document.{Document}
use Rattle.simd_json_parts.specs.Followed.{tokens_after}
use Rattle.simd_json_parts.specs.Pointed.{pointed, pointed_from}
use Rattle.simd_json_c.specs.Placed.{IsValueAt, before_followed, before_pointed}
use Rattle.simd_json_c.proofs.pointer.walk.Given as goal

abbrev pub invariant-loop-token : goal.invariant-loop-token
invariant-loop-token l =
    (l.followed ≤ length l.pointer)
    × ((d : Document) → IsValueAt l.nodes l.text l.from d → (x : Document) × IsValueAt l.nodes l.text l.reached x
    × (pointed l.pointer d ≡ pointed_from l.followed (drop l.followed l.pointer) x)
    × (l.reached + before_followed (tokens_after (drop l.followed l.pointer)) x ≡ l.from + before_pointed l.pointer d))

abbrev pub decreases-loop-token : goal.decreases-loop-token
decreases-loop-token l = length l.pointer - l.followed
