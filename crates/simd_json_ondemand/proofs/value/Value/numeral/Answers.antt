use Rattle.std.proofs.Common.{refl, sym, ◌∙◌, ap, ℕ, List, ◌≡◌, true, false}
use Rattle.simd_json_parts.specs.Bytes.{byte_at}
use Rattle.simd_json_stages.proofs.Tokens.ScalarLaws.{form_at-number}
use Rattle.simd_json_ondemand.specs.Docs.{text, index_of}
use Rattle.simd_json_check.specs.Scalars.{begins_number}
use Rattle.simd_json_ondemand.proofs.Standing.{no-integer, no-decimal}
use Rattle.simd_json_ondemand.proofs.value.Value.numeral.Goals as goal

pub returns-then-begins_number : goal.returns-then-begins_number
returns-then-begins_number c =
    let b : List ℕ = text c.args.self.document in
    let i : ℕ = index_of c.args.self in
    let begins : begins_number (byte_at b i) ≡ true =
    ap (begins_number) (sym c.first.ensures) ∙ sym c.begins_number.ensures ∙ c.if-begins_number.true in
    (form_at-number b i (byte_at b i) refl begins, c.numeral.ensures b i (sym c.bytes.ensures.bytes))

pub returns-else-begins_number : goal.returns-else-begins_number
returns-else-begins_number c =
    let b : List ℕ = text c.args.self.document in
    let i : ℕ = index_of c.args.self in
    let begins : begins_number (byte_at b i) ≡ false =
    ap (begins_number) (sym c.first.ensures) ∙ sym c.begins_number.ensures ∙ c.if-begins_number.false in
    (no-integer b i begins, no-decimal b i begins)
