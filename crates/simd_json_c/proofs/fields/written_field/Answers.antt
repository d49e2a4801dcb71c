use Rattle.std.proofs.Common.{◌≡◌, ◌∙◌, ap, sym, refl, inl, inr, Some, true, false}
use mir.Val.{bool_byte}
use Rattle.simd_json_parts.specs.declared.node.ValueType.TheVariants as kinds
use Rattle.simd_json_ondemand.specs.Docs.{index_of, text}
use Rattle.simd_json_c.proofs.Naming.{is-some}
use Rattle.simd_json_c.proofs.Telling.{escape-of, tells, truth-of}
use Rattle.simd_json_c.proofs.fields.written_field.Goals as goal

pub returns-in_default-2-clause-found : goal.returns-in_default-2-clause-found
returns-in_default-2-clause-found c = λ e is.
    let none = c.in_default.is-0 in
    let known = c.value_type.ensures in
    let some = c.kinds_are_those_of_documents.ensures.kind c.args.value e is in
    absurd (cc)

pub returns-in-Bool-clause-any : goal.returns-in-Bool-clause-any
returns-in-Bool-clause-any c =
    let v = c.args.value in
    let w = c.in-Some-Some in
    let t = (tells (text v.document) (index_of v)).truth (sym w.ensures ∙ ap Some c.in-Bool.is) in
    is-some _ _ _ kinds.Bool (ap Some (sym c.in-Bool.is) ∙ w.ensures) (is-some _ _ _ w.bytes.now w.ensures'.any
    (truth-of v t.0 c.as_bool.result c.from.result w.bytes.now _ t.1 c.as_bool.ensures (c.from.ensures ∙ ap bool_byte c.unwrap_or.ensures)
    c.number_field-in-Bool.ensures))

pub returns-in-String-clause-any : goal.returns-in-String-clause-any
returns-in-String-clause-any c =
    let v = c.args.value in
    let w = c.in-Some-Some in
    let is = sym w.ensures ∙ ap Some c.in-String.is in
    is-some _ _ _ kinds.String (ap Some (sym c.in-String.is) ∙ w.ensures) (is-some _ _ _ w.bytes.now w.ensures'.any (
      refl,
      escape-of v c.has_escape.result _ c.from-in-String.ensures (λ e. c.has_escape.ensures.escape e)
          (c.has_escape.ensures.plain ((tells (text v.document) (index_of v)).text is)),
      refl,
      c.index-at.ensures,
    ))
