use Rattle.std.proofs.Common.{arith}
use Rattle.std.proofs.lemmas.Grind.{common_steps}
use Rattle.std.proofs.lemmas.Nat.{le_bytes_2}
use Rattle.simd_json.proofs.Views.Ends.{part-bytes, part-length}
use Rattle.simd_json.proofs.value.tape.key.pair.Goals as goal

pub returns-clause-bytes : goal.returns-clause-bytes
returns-clause-bytes c =
    let l = c.args.bytes.now in
    let at = c.args.at in
    le_bytes_2 _ _ (part-length 2 at l c.requires) (part-bytes 2 at l (λ k. (c.type_inv.bytes k).fits)) (grind (arith, common_steps))
