use Rattle.std.proofs.Common.{◌∙◌, ap, sym, refl, Err, is_some}
use Rattle.simd_json_parts.specs.Pointed.{unescaped}
use Rattle.simd_json_ondemand.specs.Reached.{element_reached, member_reached}
use Rattle.simd_json_ondemand.specs.Sites.{array_sites, member_sites, object_sites}
use Rattle.simd_json_ondemand.specs.Stopped.{error_at}
use Rattle.simd_json_parts.proofs.Pointers.Keys.{unescaped-plain}
use Rattle.simd_json_ondemand.proofs.Sites.{array-named, no-member, object-named, other-named, to-stop}
use Rattle.simd_json_ondemand.proofs.pointer.ValueParent.child.Goals as goal

pub returns-in-Some : goal.returns-in-Some
returns-in-Some c =
    let v = c.args.self in
    c.element.ensures.site ∙ ap (λ o. element_reached o (array_sites v)) c.in-Some.ensures
    ∙ sym (array-named c.args.token.now v (sym c.if-is_array.ensures))

pub returns-in-None : goal.returns-in-None
returns-in-None c =
    let v = c.args.self in
    ap (λ o. element_reached o (array_sites v)) c.in-None.ensures ∙ sym (array-named c.args.token.now v (sym c.if-is_array.ensures))

pub returns-then-not-is_object : goal.returns-then-not-is_object
returns-then-not-is_object c =
    ap (λ e. Err e) c.stop.ensures.error
    ∙ sym (other-named c.args.token.now c.args.self (sym c.if-is_array.ensures) (sym c.if-not-is_object.ensures))

pub returns-then-is_plain : goal.returns-then-is_plain
returns-then-is_plain c =
    let v = c.args.self in
    let t = c.args.token.now in
    c.member.ensures.site ∙ ap (λ u. member_reached u (object_sites v)) (sym (unescaped-plain t (c.requires c.if-is_plain.true)))
    ∙ sym (object-named t v (sym c.if-is_array.ensures) (sym c.if-not-is_object.ensures))

pub returns-then-not-is_well_formed : goal.returns-then-not-is_well_formed
returns-then-not-is_well_formed c =
    let v = c.args.self in
    let t = c.args.token.now in
    no-member (unescaped t) (object_sites v)
    (ap (λ u. is_some (unescaped u)) (sym c.as_bytes-token.ensures.value) ∙ sym c.if-not-is_well_formed.ensures)
    ∙ sym (object-named t v (sym c.if-is_array.ensures) (sym c.if-not-is_object.ensures))

pub returns-in-Ok : goal.returns-in-Ok
returns-in-Ok c =
    let v = c.args.self in
    let t = c.args.token.now in
    c.find_named.ensures ∙ ap (λ u. member_reached (unescaped u) (member_sites c.in-Ok.members)) c.as_bytes-token.ensures.value
    ∙ ap (member_reached (unescaped t)) (sym c.in-Ok.ensures.sites)
    ∙ sym (object-named t v (sym c.if-is_array.ensures) (sym c.if-not-is_object.ensures))

pub returns-in-Err : goal.returns-in-Err
returns-in-Err c =
    let v = c.args.self in
    let t = c.args.token.now in
    let formed = ap (λ u. is_some (unescaped u)) (sym c.as_bytes-token.ensures.value) ∙ sym c.if-not-is_well_formed.ensures in
    to-stop t (object_sites v) (object_sites v) (λ key is. refl) formed (error_at c.in-Err.stop) c.in-Err.ensures.sites
    ∙ sym (object-named t v (sym c.if-is_array.ensures) (sym c.if-not-is_object.ensures))
