use Rattle.simd_json_query.proofs.text.comparables.+comparable.Given as goal

abbrev pub decreases-comparable : goal.decreases-comparable
decreases-comparable g l = l.nesting
