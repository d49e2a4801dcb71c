use Rattle.std.proofs.Common.{rules, inl, inr, w32}
use Rattle.std.proofs.lemmas.Int.{to_z-of_z}
use mir.Val.{SFits}
use Rattle.simd_json_c.proofs.Malformed.{lost}
use Rattle.simd_json_c.proofs.Naming.{names}
use Rattle.simd_json_c.specs.Chosen.{IsChosenPut}
use Rattle.simd_json_c.proofs.print.print_at.Goals as goal

pub returns-in-Ok-clause-chosen : goal.returns-in-Ok-clause-chosen
unfolding IsChosenPut
returns-in-Ok-clause-chosen c =
    let fits : SFits w32 c.put_text.result = search rules in
    rw to_z-of_z (names c.args.pointer.now _ _ _ (lost c.args.pointer.now _) _ c.in-Some.ensures (inl (search rules)))

pub returns-in-Err-clause-chosen : goal.returns-in-Err-clause-chosen
unfolding IsChosenPut
returns-in-Err-clause-chosen c =
    names c.args.pointer.now _ _ _ (lost c.args.pointer.now _) _ c.in-Some.ensures (inr (search rules))
