use Rattle.std.proofs.Common.{◌∙◌, sym}
use Rattle.simd_json.specs.Viewed.{doc}
use Rattle.simd_json_print.proofs.Texts.{adds-is, adds-none, adds-then}
use Rattle.jpick.specs.Rows.{arranged}
use Rattle.jpick.proofs.Escapes.{arranged-null, arranged-quote, arranged-str, null-field, other-field, string-field}
use Rattle.jpick.proofs.Putting.{begun-is, begun-more, begun-then, puts-err}
use Rattle.jpick.proofs.fields.put_field.Goals as goal

pub returns-then-eq_null : goal.returns-then-eq_null
returns-then-eq_null g c =
    let w = c.args.wanted.now in
    let d = doc c.args.value in
    adds-is _ _ _ _ _ (sym (null-field w.layout (arranged w d) (arranged-null w d ∙ sym c.eq_null.ensures ∙ c.if-eq_null.true))) (adds-none _ _)

pub returns-in-Some : goal.returns-in-Some
returns-in-Some g c =
    let w = c.args.wanted.now in
    let d = doc c.args.value in
    adds-is _ _ _ _ _ (string-field w.layout (arranged w d) c.in-Some.string.now (c.in-Some.ensures ∙ sym (arranged-str w d)))
    c.put_name.ensures

pub returns-in_err-put_element : goal.returns-in_err-put_element
returns-in_err-put_element g c =
    let w = c.args.wanted.now in
    let d = doc c.args.value in
    let quote = c.quote_of-quote.ensures ∙ sym (arranged-quote w.layout w d) in
    puts-err _ c.from_residual.result _ _ _ _ c.from_residual.ensures.1
    (begun-is _ _ _ _ _ (other-field w.layout (arranged w d) (c.in_default.ensures ∙ sym (arranged-str w d))
    (arranged-null w d ∙ sym c.eq_null.ensures ∙ c.if-eq_null.false))
    (begun-more _ _ _ _ _ (begun-then _ _ _ _ _ _ (adds-is _ _ _ _ _ quote c.put.ensures) c.in_err-put_element.ensures)))

pub returns : goal.returns
returns g c =
    let w = c.args.wanted.now in
    let d = doc c.args.value in
    let quote = c.quote_of-quote.ensures ∙ sym (arranged-quote w.layout w d) in
    adds-is _ _ _ _ _ (other-field w.layout (arranged w d) (c.in_default.ensures ∙ sym (arranged-str w d))
    (arranged-null w d ∙ sym c.eq_null.ensures ∙ c.if-eq_null.false))
    (adds-then _ _ _ _ _ _ (adds-then _ _ _ _ _ _ (adds-is _ _ _ _ _ quote c.put.ensures) c.in_ok-put_element.ensures)
    (adds-is _ _ _ _ _ quote c.put-2.ensures))
