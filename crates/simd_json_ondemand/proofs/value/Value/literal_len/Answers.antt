use Rattle.std.proofs.Common.{◌≡◌, sym, ◌∙◌, ap, ℕ, List, length, ◌≤◌, true, false, arith, codes, ne_eqb}
use Rattle.simd_json_parts.specs.Bytes.{byte_at, quote}
use Rattle.simd_json_ondemand.specs.Docs.{text, index_of}
use Rattle.simd_json_ondemand.specs.declared.value.Value.{Value}
use Rattle.simd_json_check.proofs.Scans.{within}
use Rattle.simd_json_check.specs.Scalars.{begins_number}
use Rattle.simd_json_check.proofs.Words.{spelt-here}
use Rattle.simd_json_ondemand.proofs.Quoted.{IsQuoted, quoted-value}
use Rattle.simd_json_ondemand.proofs.Literals.{string-ends, number-ends, null-ends, true-ends, false-ends, none-ends}
use Rattle.simd_json_ondemand.proofs.value.Value.literal_len.Goals as goal

inside : (v : Value) → index_of v ≤ length (text v.document)
inside v = omega (arith, within (text v.document) _ v.document.scanned v.at v.inside)

pub closing-requires-clause-closing : goal.closing-requires-clause-closing
closing-requires-clause-closing c =
    let v = c.args.self in
    let b : List ℕ = text v.document in
    let i : ℕ = index_of v in
    let bs : List ℕ = c.bytes-bytes.result.now in
    let first : byte_at b i ≡ quote = sym c.first-first.ensures ∙ c.if-first-eq34.true in
    let q : IsQuoted bs = quoted-value v first bs c.bytes-bytes.ensures.bytes in
    q.closing

pub returns-then-first-eq34 : goal.returns-then-first-eq34
returns-then-first-eq34 c =
    let v = c.args.self in
    let b : List ℕ = text v.document in
    let i : ℕ = index_of v in
    let bs : List ℕ = c.bytes-bytes.result.now in
    let first : byte_at b i ≡ quote = sym c.first-first.ensures ∙ c.if-first-eq34.true in
    let q : IsQuoted bs = quoted-value v first bs c.bytes-bytes.ensures.bytes in
    string-ends b i bs c.bytes-bytes.ensures.bytes (inside v) first q c.closing.result c.closing.ensures.value

pub returns-then-begins_number : goal.returns-then-begins_number
returns-then-begins_number c =
    let v = c.args.self in
    let b : List ℕ = text v.document in
    let i : ℕ = index_of v in
    let begins : begins_number (byte_at b i) ≡ true =
    ap (begins_number) (sym c.first-first.ensures) ∙ sym c.begins_number.ensures ∙ c.if-begins_number.true in
    number-ends b i c.number_len.result (inside v) begins (c.number_len.ensures b i (sym c.bytes-bytes.ensures.bytes))

pub returns-then-spells : goal.returns-then-spells
returns-then-spells c =
    let v = c.args.self in
    let b : List ℕ = text v.document in
    let i : ℕ = index_of v in
    null-ends b i (inside v) (spelt-here b _ (codes "null") i _ c.bytes-bytes.ensures.bytes c.spells.ensures ∙ c.if-spells.true)

pub returns-then-spells-2 : goal.returns-then-spells-2
returns-then-spells-2 c =
    let v = c.args.self in
    let b : List ℕ = text v.document in
    let i : ℕ = index_of v in
    true-ends b i (inside v) (spelt-here b _ (codes "true") i _ c.bytes-bytes.ensures.bytes c.spells-2.ensures ∙ c.if-spells-2.true)

pub returns-then-spells-3 : goal.returns-then-spells-3
returns-then-spells-3 c =
    let v = c.args.self in
    let b : List ℕ = text v.document in
    let i : ℕ = index_of v in
    false-ends b i (inside v) (spelt-here b _ (codes "false") i _ c.bytes-bytes.ensures.bytes c.spells-3.ensures ∙ c.if-spells-3.true)

pub returns : goal.returns
returns c =
    let v = c.args.self in
    let b : List ℕ = text v.document in
    let i : ℕ = index_of v in
    let none : begins_number (byte_at b i) ≡ false =
    ap (begins_number) (sym c.first-first.ensures) ∙ sym c.begins_number.ensures ∙ c.if-begins_number.false in
    none-ends b i (ne_eqb (byte_at b i) 34 (λ e. c.if-first-eq34.false (c.first-first.ensures ∙ e))) none
    (spelt-here b _ (codes "null") i _ c.bytes-bytes.ensures.bytes c.spells.ensures ∙ c.if-spells.false)
    (spelt-here b _ (codes "true") i _ c.bytes-bytes.ensures.bytes c.spells-2.ensures ∙ c.if-spells-2.false)
    (spelt-here b _ (codes "false") i _ c.bytes-bytes.ensures.bytes c.spells-3.ensures ∙ c.if-spells-3.false)
