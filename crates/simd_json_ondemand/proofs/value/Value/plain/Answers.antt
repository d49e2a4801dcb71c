use Rattle.std.proofs.Common.{◌≡◌, sym, ◌∙◌, ap, ℕ, List, Some}
use Rattle.std.proofs.lemmas.List.{get_or_default}
use Rattle.simd_json_parts.specs.Bytes.{byte_at, quote}
use Rattle.simd_json_ondemand.specs.Docs.{text, index_of}
use Rattle.simd_json_ondemand.proofs.Quoted.{IsQuoted, IsAhead, quoted-value, first-stop, has-escape, plain-utf8, plain-string}
use Rattle.simd_json_ondemand.proofs.value.Value.plain.Goals as goal

pub bounds-bytes-end : goal.bounds-bytes-end
bounds-bytes-end c =
    let v = c.args.self in
    let b : List ℕ = text v.document in
    let i : ℕ = index_of v in
    let bs : List ℕ = c.bytes-bytes.result.now in
    let first : byte_at b i ≡ quote = c.requires in
    let q : IsQuoted bs = quoted-value v first bs c.bytes-bytes.ensures.bytes in
    let h : IsAhead bs c.plain_end-end.result = first-stop bs q c.plain_end-end.result c.plain_end-end.ensures.value in
    h.inside

pub returns-then-bytes-end-ne34 : goal.returns-then-bytes-end-ne34
returns-then-bytes-end-ne34 c =
    let v = c.args.self in
    let b : List ℕ = text v.document in
    let i : ℕ = index_of v in
    let bs : List ℕ = c.bytes-bytes.result.now in
    let first : byte_at b i ≡ quote = c.requires in
    let q : IsQuoted bs = quoted-value v first bs c.bytes-bytes.ensures.bytes in
    let end : ℕ = c.plain_end-end.result in
    let h : IsAhead bs end = first-stop bs q end c.plain_end-end.ensures.value in
    has-escape v bs c.bytes-bytes.ensures.bytes first end c.plain_end-end.ensures.value
    (λ e. c.if-bytes-end-ne34.true (sym (get_or_default bs end 32 0 h.inside) ∙ e))

pub from_utf8_unchecked-requires : goal.from_utf8_unchecked-requires
from_utf8_unchecked-requires c =
    let v = c.args.self in
    let b : List ℕ = text v.document in
    let i : ℕ = index_of v in
    let bs : List ℕ = c.bytes-bytes.result.now in
    let first : byte_at b i ≡ quote = c.requires in
    let q : IsQuoted bs = quoted-value v first bs c.bytes-bytes.ensures.bytes in
    plain-utf8 bs q c.plain_end-end.result c.plain_end-end.ensures.value

pub returns : goal.returns
returns c =
    let v = c.args.self in
    let b : List ℕ = text v.document in
    let i : ℕ = index_of v in
    let bs : List ℕ = c.bytes-bytes.result.now in
    let first : byte_at b i ≡ quote = c.requires in
    let q : IsQuoted bs = quoted-value v first bs c.bytes-bytes.ensures.bytes in
    let end : ℕ = c.plain_end-end.result in
    let h : IsAhead bs end = first-stop bs q end c.plain_end-end.ensures.value in
    let at : byte_at bs end ≡ quote = get_or_default bs end 32 0 h.inside ∙ c.if-bytes-end-ne34.false in
    plain-string b i first bs c.bytes-bytes.ensures.bytes q end c.plain_end-end.ensures.value at
    ∙ ap Some (sym c.from_utf8_unchecked.ensures)
