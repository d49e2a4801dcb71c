use Rattle.std.proofs.Common.{◌∙◌, sym, rules}
use Rattle.simd_json.proofs.Views.MapCompared.{differs-in-size, differs-in-a-pair}
use Rattle.simd_json.proofs.value.tape.value.Value.eq_map.Goals as goal
use Rattle.simd_json.proofs.value.tape.value.Value.eq_map.Goals.{then-len-via-then-len, then-len-via-else-len+then-not-is_in}

pub returns-then-len : goal.returns-then-len
returns-then-len g c says exact =
    elim c.then-len.branch [
      | then-len-via-then-len w ↦ differs-in-size _ _ says _ _ c.in-Some.ensures.object (search rules)
      | then-len-via-else-len+then-not-is_in w ↦
          differs-in-a-pair _ _ says _ _ c.in-Some.ensures.object (sym (w.is_in.ensures says exact) ∙ w.if-not-is_in.true)
    ]
