use Rattle.std.proofs.Common.{◌∙◌, ap, sym}
use Rattle.simd_json_ondemand.specs.Docs.{form}
use Rattle.simd_json_ondemand.specs.Prepared.{first_key}
use Rattle.simd_json_ondemand.specs.Reached.{key_reached}
use Rattle.simd_json_ondemand.specs.Walks.{found}
use Rattle.simd_json_ondemand.proofs.Several.{key-named, not-array}
use Rattle.simd_json_ondemand.proofs.value.Value.find_keys.Goals as goal

pub returns-in-Ok-clause-walked : goal.returns-in-Ok-clause-walked
returns-in-Ok-clause-walked g c = λ walked k p at keyed.
    let v = c.args.self in
    let key = first_key p in
    let opens = c.in-Ok.ensures.any in
    c.find_each.ensures.sites k p at keyed
    ∙ ap found (ap (key_reached key) (sym c.in-Ok.ensures.sites)
    ∙ sym (key-named v key (p.keyed keyed).is_plain (not-array (form v) opens) opens))
