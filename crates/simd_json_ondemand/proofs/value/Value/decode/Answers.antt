use Rattle.std.proofs.Common.{◌≡◌, refl, sym, ◌∙◌, ap, subst, ℕ, ◌+◌, List, take, length, ◌<◌, arith, IsUtf8, ne_eqb}
use Rattle.simd_json_parts.specs.Bytes.{byte_at, quote}
use Rattle.simd_json_parts.specs.StringAt.{closing_quote, string_at}
use Rattle.simd_json_ondemand.specs.Docs.{text, index_of, string_len}
use Rattle.simd_json_ondemand.proofs.Standing.{no-string}
use Rattle.simd_json_ondemand.proofs.Quoted.{IsQuoted, quoted-value, literal-closing, literal-utf8, literal-string}
use Rattle.simd_json_ondemand.proofs.Quoted.{alone-string, alone-none, written-len}
use Rattle.simd_json_stages.proofs.Exits.{passed-on}
use Rattle.simd_json_ondemand.proofs.value.Value.decode.Goals as goal

pub returns-then-first-ne34-clause-string : goal.returns-then-first-ne34-clause-string
returns-then-first-ne34-clause-string g c =
    let v = c.args.self in
    sym (no-string (text v.document) (index_of v) (ne_eqb _ 34 (λ e. c.if-first-ne34.true (c.first.ensures ∙ e))))

pub closing-end-requires-clause-closing : goal.closing-end-requires-clause-closing
closing-end-requires-clause-closing g c =
    let v = c.args.self in
    let b : List ℕ = text v.document in
    let i : ℕ = index_of v in
    let bs : List ℕ = c.bytes-bytes.result.now in
    let first : byte_at b i ≡ quote = sym c.first.ensures ∙ c.if-first-ne34.false in
    let q : IsQuoted bs = quoted-value v first bs c.bytes-bytes.ensures.bytes in
    q.closing

pub parse_str-requires-clause-closing : goal.parse_str-requires-clause-closing
parse_str-requires-clause-closing g c =
    let v = c.args.self in
    let b : List ℕ = text v.document in
    let i : ℕ = index_of v in
    let bs : List ℕ = c.bytes-bytes.result.now in
    let first : byte_at b i ≡ quote = sym c.first.ensures ∙ c.if-first-ne34.false in
    let q : IsQuoted bs = quoted-value v first bs c.bytes-bytes.ensures.bytes in
    let end : ℕ = c.closing-end.result in
    let lit : c.as_mut_slice.result.now ≡ take (end + 1) bs = c.as_mut_slice.ensures.value ∙ c.in_ok-copy.ensures.copied in
    subst (λ us. closing_quote us 0 < length us) (sym lit)
    (literal-closing bs q end c.closing-end.ensures.value c.closing-end.ensures.quote)

pub parse_str-requires-clause-utf8 : goal.parse_str-requires-clause-utf8
parse_str-requires-clause-utf8 g c =
    let v = c.args.self in
    let b : List ℕ = text v.document in
    let i : ℕ = index_of v in
    let bs : List ℕ = c.bytes-bytes.result.now in
    let first : byte_at b i ≡ quote = sym c.first.ensures ∙ c.if-first-ne34.false in
    let q : IsQuoted bs = quoted-value v first bs c.bytes-bytes.ensures.bytes in
    let end : ℕ = c.closing-end.result in
    let lit : c.as_mut_slice.result.now ≡ take (end + 1) bs = c.as_mut_slice.ensures.value ∙ c.in_ok-copy.ensures.copied in
    subst IsUtf8 (sym lit) (literal-utf8 bs q end c.closing-end.ensures.value c.closing-end.ensures.quote)

pub returns-in-Ok-clause-string : goal.returns-in-Ok-clause-string
returns-in-Ok-clause-string g c =
    let v = c.args.self in
    let b : List ℕ = text v.document in
    let i : ℕ = index_of v in
    let bs : List ℕ = c.bytes-bytes.result.now in
    let first : byte_at b i ≡ quote = sym c.first.ensures ∙ c.if-first-ne34.false in
    let q : IsQuoted bs = quoted-value v first bs c.bytes-bytes.ensures.bytes in
    let end : ℕ = c.closing-end.result in
    let lit : c.as_mut_slice.result.now ≡ take (end + 1) bs = c.as_mut_slice.ensures.value ∙ c.in_ok-copy.ensures.copied in
    let read = c.in-Ok.ensures c.as_mut_slice.result.now 0 refl in
    let same : string_at c.as_mut_slice.result.now 0 ≡ string_at bs 0 =
    ap (λ us. string_at us 0) lit ∙ literal-string bs q end c.closing-end.ensures.value c.closing-end.ensures.quote in
    sym (alone-string b i first bs c.bytes-bytes.ensures.bytes _ _ (sym same ∙ read.0))

pub returns-in-Err-clause-string : goal.returns-in-Err-clause-string
returns-in-Err-clause-string g c =
    let v = c.args.self in
    let b : List ℕ = text v.document in
    let i : ℕ = index_of v in
    let bs : List ℕ = c.bytes-bytes.result.now in
    let first : byte_at b i ≡ quote = sym c.first.ensures ∙ c.if-first-ne34.false in
    let q : IsQuoted bs = quoted-value v first bs c.bytes-bytes.ensures.bytes in
    let end : ℕ = c.closing-end.result in
    let lit : c.as_mut_slice.result.now ≡ take (end + 1) bs = c.as_mut_slice.ensures.value ∙ c.in_ok-copy.ensures.copied in
    let read = c.in-Err.ensures c.as_mut_slice.result.now 0 refl in
    let same : string_at c.as_mut_slice.result.now 0 ≡ string_at bs 0 =
    ap (λ us. string_at us 0) lit ∙ literal-string bs q end c.closing-end.ensures.value c.closing-end.ensures.quote in
    sym (alone-none b i first bs c.bytes-bytes.ensures.bytes _ (sym same ∙ read))

pub returns-in_err-copy-clause-fault : goal.returns-in_err-copy-clause-fault
returns-in_err-copy-clause-fault g c =
    let v = c.args.self in
    let b : List ℕ = text v.document in
    let i : ℕ = index_of v in
    let bs : List ℕ = c.bytes-bytes.result.now in
    let first : byte_at b i ≡ quote = sym c.first.ensures ∙ c.if-first-ne34.false in
    let q : IsQuoted bs = quoted-value v first bs c.bytes-bytes.ensures.bytes in
    let end : ℕ = c.closing-end.result in
    let size : length (take (end + 1) bs) ≡ string_len v =
    written-len v first bs c.bytes-bytes.ensures.bytes end c.closing-end.ensures.value in
    let lacks = c.in_err-copy.ensures.fault in
    passed-on c.from_residual.result _ _ c.from_residual.ensures.1 (lacks.0, c.in_default.ensures, omega (arith, lacks.1, size))
