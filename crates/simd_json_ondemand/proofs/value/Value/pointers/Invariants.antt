use Rattle.std.proofs.Common.{◌≡◌, ◌<◌, ◌≤◌, ℕ, get_or, None, Some, option_map, true}
use Rattle.std.specs.List.{slice_get}
use Rattle.std.specs.Result.{result_ok}
use Rattle.simd_json_parts.specs.Document.{Document}
use Rattle.simd_json_parts.specs.Pointed.{pointed}
use Rattle.simd_json_ondemand.specs.Docs.{doc}
use Rattle.simd_json_ondemand.specs.Prepared.{first_key, pointer_text}
use Rattle.simd_json_ondemand.specs.Reached.{named_at, pointed_at}
use Rattle.simd_json_ondemand.specs.Sites.{site}
use Rattle.simd_json_ondemand.specs.Walks.{found}
use Rattle.simd_json_ondemand.specs.declared.prepared.PreparedPointer.{PreparedPointer}
use Rattle.simd_json_ondemand.proofs.value.Value.pointers.Given as goal

abbrev pub invariant-loop-k : goal.invariant-loop-k
invariant-loop-k g l = record {
  walk : (j : ℕ) (p : PreparedPointer _) → slice_get l.pointers j ≡ Some p → j < l.k
      → option_map site (get_or l.values j None) ≡ found (pointed_at (pointer_text p) (site l.self));
  document : (d : Document) → doc l.self ≡ Some d → (j : ℕ) (p : PreparedPointer _) → slice_get l.pointers j ≡ Some p → j < l.k
      → option_map doc (get_or l.values j None) ≡ option_map (λ e. Some e) (result_ok (pointed (pointer_text p) d));
  keys : l.is_walked ≡ true → (j : ℕ) (p : PreparedPointer _) → slice_get l.pointers j ≡ Some p → 0 < p.key_end → l.k ≤ j
      → option_map site (get_or l.values j None) ≡ found (named_at (first_key p) (site l.self));
}
