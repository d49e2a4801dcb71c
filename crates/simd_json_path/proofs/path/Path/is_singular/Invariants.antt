use Rattle.std.proofs.Common.{◌≡◌, drop}
use Rattle.std.specs.Prelude.{not, ◌&&◌}
use Rattle.std.specs.List.{list_all}
use Rattle.simd_json_path.specs.Paths.{is_singular}
use Rattle.simd_json_path.specs.Singular.{is_one}
use Rattle.simd_json_path.proofs.path.Path.is_singular.Given as goal

abbrev pub invariant-loop-segment : goal.invariant-loop-segment
invariant-loop-segment l =
    list_all (λ s. not s.is_descendant && is_one s.selectors.now) (drop l.segment-index l.self.segments.now) ≡ is_singular l.fn.self
