use Rattle.std.proofs.Common.{◌≡◌, sym, subst, ℕ, List, length, take, ◌≤◌, arith, IsUtf8, length-take-le}
use Rattle.simd_json_ondemand.specs.Docs.{text, index_of, form}
use Rattle.simd_json_parts.specs.Tokens.{scalar}
use Rattle.simd_json_parts.specs.NumberAt.{number_at}
use Rattle.simd_json_scalars.specs.NumeralRead.{IsNumeralAt}
use Rattle.simd_json_scalars.specs.declared.numberparse.Numeral.TheVariants.{Decimal, Long}
use Rattle.simd_json_check.proofs.Scans.{within}
use Rattle.simd_json_ondemand.proofs.Standing.{decimal-within, long-no_decimal}
use Rattle.simd_json_ondemand.specs.declared.value.Value.{Value}
use Rattle.simd_json_ondemand.proofs.value.Value.as_decimal.Goals as goal

inside : (v : Value) → index_of v ≤ length (text v.document)
inside v = omega (arith, within (text v.document) _ v.document.scanned v.at v.inside)

pub slice_bounds-literal-end : goal.slice_bounds-literal-end
slice_bounds-literal-end c =
    let b : List ℕ = text c.args.self.document in
    let i : ℕ = index_of c.args.self in
    let len : ℕ = c.in-Some-Decimal.len in
    let read : (form c.args.self ≡ scalar (number_at b i)) × IsNumeralAt b i (Decimal len) =
    subst (λ n. (form c.args.self ≡ scalar (number_at b i)) × IsNumeralAt b i n) c.in-Some-Decimal.field-0-is c.in-Some-Decimal.ensures in
    let here = decimal-within b i len (inside c.args.self) read.0 read.1 in
    sym (length-take-le len c.bytes.result.now (subst (λ bs. len ≤ length bs) (sym c.bytes.ensures.bytes) here.1))

pub from_utf8_unchecked-requires : goal.from_utf8_unchecked-requires
from_utf8_unchecked-requires c =
    let b : List ℕ = text c.args.self.document in
    let i : ℕ = index_of c.args.self in
    let len : ℕ = c.in-Some-Decimal.len in
    let read : (form c.args.self ≡ scalar (number_at b i)) × IsNumeralAt b i (Decimal len) =
    subst (λ n. (form c.args.self ≡ scalar (number_at b i)) × IsNumeralAt b i n) c.in-Some-Decimal.field-0-is c.in-Some-Decimal.ensures in
    let here = decimal-within b i len (inside c.args.self) read.0 read.1 in
    subst (λ bs. IsUtf8 (take len bs)) (sym c.bytes.ensures.bytes) here.0

pub returns-in-Some-Long : goal.returns-in-Some-Long
returns-in-Some-Long c =
    let b : List ℕ = text c.args.self.document in
    let i : ℕ = index_of c.args.self in
    let len : ℕ = c.in-Some-Long.field-0-0 in
    let read : (form c.args.self ≡ scalar (number_at b i)) × IsNumeralAt b i (Long len) =
    subst (λ n. (form c.args.self ≡ scalar (number_at b i)) × IsNumeralAt b i n) c.in-Some-Long.field-0-is c.in-Some-Long.ensures in
    sym (long-no_decimal b i len read.0 read.1)
