use Rattle.std.proofs.Common.{◌≡◌, ◌∙◌, sym, ap, true, false}
use Rattle.simd_json_parts.specs.Bytes.{byte_at, is_opening}
use Rattle.simd_json_ondemand.specs.Docs.{text, index_of}
use Rattle.simd_json_ondemand.proofs.Written.{returned, enclosed-some, literal-some}
use Rattle.simd_json_ondemand.proofs.value.Value.raw.Goals as goal

pub returns-then-opens-clause-document : goal.returns-then-opens-clause-document
returns-then-opens-clause-document c = λ d h.
    let v = c.args.self in
    let o : is_opening (byte_at (text v.document) (index_of v)) ≡ true =
    ap is_opening (sym c.first.ensures) ∙ sym c.opens.ensures ∙ c.if-opens.true in
    returned (λ bytes. bytes.now) c.container.result _ c.container.ensures (enclosed-some v d h o)

pub returns-else-opens-clause-document : goal.returns-else-opens-clause-document
returns-else-opens-clause-document c = λ d h.
    let v = c.args.self in
    let o : is_opening (byte_at (text v.document) (index_of v)) ≡ false =
    ap is_opening (sym c.first.ensures) ∙ sym c.opens.ensures ∙ c.if-opens.false in
    returned (λ bytes. bytes.now) c.literal.result _ c.literal.ensures (literal-some v d h o)
