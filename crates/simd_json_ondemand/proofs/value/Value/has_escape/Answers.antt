use Rattle.std.proofs.Common.{◌≡◌, ◌+◌, ◌-◌, refl, sym, ◌∙◌, ap, arith, ℕ, List, Bool, Some, take, drop, not, eq-eqb, get_or}
use Rattle.std.proofs.Common.{nat_eq, true, false}
use Rattle.std.proofs.lemmas.Bool.{eqb-true, false≢true}
use Rattle.std.proofs.lemmas.List.{drop-drop, get_or_default}
use Rattle.simd_json_parts.specs.Bytes.{byte_at, quote}
use Rattle.simd_json_parts.specs.StringAt.{closing_quote}
use Rattle.simd_json_scalars.proofs.Strings.Standalone.{closing_quote-further}
use Rattle.simd_json_ondemand.specs.Docs.{text, index_of}
use Rattle.simd_json_ondemand.proofs.Quoted.{IsQuoted, IsAhead, closing-found, first-stop, has-escape, plain-string, quoted-value}
use Rattle.simd_json_ondemand.proofs.value.Value.has_escape.Goals as goal

not-false : (t : Bool) → not t ≡ false → t ≡ true
not-false true h = refl
not-false false h = sym h

pub bounds-bytes-plain_end : goal.bounds-bytes-plain_end
bounds-bytes-plain_end c =
    let v = c.args.self in
    let bs : List ℕ = c.bytes-bytes.result.now in
    let first : byte_at (text v.document) (index_of v) ≡ quote = sym c.first.ensures ∙ c.if-first-ne34.false in
    let q : IsQuoted bs = quoted-value v first bs c.bytes-bytes.ensures.bytes in
    let h : IsAhead bs c.plain_end.result = first-stop bs q c.plain_end.result c.plain_end.ensures.value in
    h.inside

pub returns-clause-escape : goal.returns-clause-escape
returns-clause-escape c = λ other.
    let v = c.args.self in
    let bs : List ℕ = c.bytes-bytes.result.now in
    let end : ℕ = c.plain_end.result in
    let first : byte_at (text v.document) (index_of v) ≡ quote = sym c.first.ensures ∙ c.if-first-ne34.false in
    let q : IsQuoted bs = quoted-value v first bs c.bytes-bytes.ensures.bytes in
    let h : IsAhead bs end = first-stop bs q end c.plain_end.ensures.value in
    has-escape v bs c.bytes-bytes.ensures.bytes first end c.plain_end.ensures.value
    (λ e. false≢true (sym (ap not (eq-eqb (get_or bs end 0) 34 (sym (get_or_default bs end 32 0 h.inside) ∙ e))) ∙ other))

pub returns-clause-plain : goal.returns-clause-plain
returns-clause-plain c = λ opening none.
    let v = c.args.self in
    let b : List ℕ = text v.document in
    let i : ℕ = index_of v in
    let bs : List ℕ = c.bytes-bytes.result.now in
    let end : ℕ = c.plain_end.result in
    let is = c.bytes-bytes.ensures.bytes in
    let q : IsQuoted bs = quoted-value v opening bs is in
    let h : IsAhead bs end = first-stop bs q end c.plain_end.ensures.value in
    let at : byte_at bs end ≡ quote =
    get_or_default bs end 32 0 h.inside ∙ eqb-true (get_or bs end 0) 34 (not-false (nat_eq (get_or bs end 0) 34) none) in
    let closed = closing-found bs end h (λ e. absurd (omega (arith, at, e))) in
    let size : end - 1 ≡ closing_quote b i - (i + 1) =
    omega (arith, closed.0, closing_quote-further b i opening, ap (λ us. closing_quote us 0) is) in
    plain-string b i opening bs is q end c.plain_end.ensures.value at
    ∙ ap Some (ap (λ us. take (end - 1) (drop 1 us)) is ∙ ap (take (end - 1)) (drop-drop 1 i b)
    ∙ ap (λ n. take n (drop (i + 1) b)) size)
