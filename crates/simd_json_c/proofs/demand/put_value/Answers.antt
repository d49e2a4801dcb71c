use Rattle.std.proofs.Common.{rules, w32}
use Rattle.std.proofs.lemmas.Int.{to_z-of_z}
use mir.Val.{SFits}
use Rattle.simd_json_c.proofs.Naming.{is-some}
use Rattle.simd_json_c.proofs.demand.put_value.Goals as goal

pub returns-in_default-2-clause-document : goal.returns-in_default-2-clause-document
returns-in_default-2-clause-document c e is =
    let none = c.in_default.is-0 in
    let known = c.value_type.ensures in
    let some = c.kinds_are_those_of_documents.ensures.kind c.args.value e is in
    absurd (cc)

pub returns-clause-any : goal.returns-clause-any
returns-clause-any c =
    let fits : SFits w32 c.put_text.result = search rules in
    let w = c.in-Some-Some in
    rw to_z-of_z
    (is-some _ _ _ _ w.ensures (is-some _ _ _ _ w.ensures'.any (c.number_of-found.ensures, c.put_text.ensures)))
