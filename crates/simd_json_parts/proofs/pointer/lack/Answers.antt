use Rattle.std.proofs.Common.{◌+◌, ◌∙◌, ap, sym}
use Rattle.std.specs.List.{slice_range}
use Rattle.std.specs.Result.{result_ok}
use Rattle.simd_json_parts.proofs.Pointers.Pointed.{lacks-escape, lacks-key, object-kind, token-step}
use Rattle.simd_json_parts.proofs.pointer.lack.Goals as goal

pub returns-in-Object : goal.returns-in-Object
returns-in-Object c d kind nowhere =
    let t = slice_range c.args.pointer.now (c.args.followed + 1) c.in-Some.token.end in
    let step = token-step c.args.pointer.now c.args.followed c.in-Some.token.end d c.in-Some.ensures.0 in
    step ∙ lacks-key t d (object-kind d (kind ∙ c.in-Object.is)) (sym c.if-is_well_formed.ensures) (sym (ap result_ok step) ∙ nowhere)

pub returns-in-Object-2 : goal.returns-in-Object-2
returns-in-Object-2 c d kind nowhere =
    let t = slice_range c.args.pointer.now (c.args.followed + 1) c.in-Some.token.end in
    let step = token-step c.args.pointer.now c.args.followed c.in-Some.token.end d c.in-Some.ensures.0 in
    step ∙ lacks-escape t d (object-kind d (kind ∙ c.in-Object-2.is)) (sym c.if-is_well_formed.ensures)
