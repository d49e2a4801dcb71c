use Rattle.std.proofs.Common.{◌≡◌, sym, ap, ◌∙◌, drop, Ok, true, false, arith}
use Rattle.simd_json_parts.specs.Bytes.{byte_at, is_terminator}
use Rattle.simd_json_parts.specs.Numbers.{number_literal}
use Rattle.simd_json_scalars.proofs.Numbers.Prefixes.{Reads, Reads-part, Leads-Reads}
use Rattle.simd_json_scalars.proofs.Numbers.Steps.{SignEnd, IsWhole, int-whole, int-none}
use Rattle.simd_json_scalars.proofs.Numbers.Reader.{number_at-part, number_at-after, number_at-longer, integer-literal}
use Rattle.simd_json_scalars.proofs.Numbers.Reader.{read-split, read-after}
use Rattle.simd_json_scalars.proofs.numberparse.plain.parse_plainly.Goals as goal

pub returns-then-whole-start : goal.returns-then-whole-start
returns-then-whole-start c b i e =
    let sign : SignEnd c.args.bytes.now c.if-byte_or_space-eq45.start = grind arith in
    rw (← c.if-whole-start.true)
    (number_at-part b i c.args.bytes.now e c.int_end-whole.result
    (Reads-part _ _ _ _ (int-none _ _ _ sign c.int_end-whole.ensures.value c.if-whole-start.true)))

pub integer-requires : goal.integer-requires
integer-requires c =
    let sign : SignEnd c.args.bytes.now c.if-byte_or_space-eq45.start = grind arith in
    let whole : IsWhole c.args.bytes.now c.int_end-whole.result =
    int-whole _ _ _ sign c.int_end-whole.ensures.value c.if-whole-start.false in
    rw c.if-end-whole.true (integer-literal _ _ whole)

pub returns-in-Err : goal.returns-in-Err
returns-in-Err c b i e =
    let sign : SignEnd c.args.bytes.now c.if-byte_or_space-eq45.start = grind arith in
    let whole : IsWhole c.args.bytes.now c.int_end-whole.result =
    int-whole _ _ _ sign c.int_end-whole.ensures.value c.if-whole-start.false in
    number_at-part b i c.args.bytes.now e c.in-Err.offset (Leads-Reads _ _ _ _ _ _ whole.number c.in-Err.ensures)

pub returns-then-not-is_structural_or_whitespace : goal.returns-then-not-is_structural_or_whitespace
returns-then-not-is_structural_or_whitespace c b i e =
    let sign : SignEnd c.args.bytes.now c.if-byte_or_space-eq45.start = grind arith in
    let whole : IsWhole c.args.bytes.now c.int_end-whole.result =
    int-whole _ _ _ sign c.int_end-whole.ensures.value c.if-whole-start.false in
    let reads : Reads number_literal c.args.bytes.now 0 (Ok c.in-Ok.end) = Leads-Reads _ _ _ _ _ _ whole.number c.in-Ok.ensures in
    let other : is_terminator (byte_at c.args.bytes.now c.in-Ok.end) ≡ false =
    sym (ap is_terminator c.byte_or_space-in-Ok.ensures) ∙ sym c.is_structural_or_whitespace.ensures
    ∙ c.if-not-is_structural_or_whitespace.true in
    number_at-after b i c.args.bytes.now e c.in-Ok.end reads other

pub returns-then-end-whole : goal.returns-then-end-whole
returns-then-end-whole c b i e =
    let sign : SignEnd c.args.bytes.now c.if-byte_or_space-eq45.start = grind arith in
    let whole : IsWhole c.args.bytes.now c.int_end-whole.result =
    int-whole _ _ _ sign c.int_end-whole.ensures.value c.if-whole-start.false in
    let reads : Reads number_literal c.args.bytes.now 0 (Ok c.in-Ok.end) = Leads-Reads _ _ _ _ _ _ whole.number c.in-Ok.ensures in
    let ends : is_terminator (byte_at c.args.bytes.now c.in-Ok.end) ≡ true =
    sym (ap is_terminator c.byte_or_space-in-Ok.ensures) ∙ sym c.is_structural_or_whitespace.ensures
    ∙ c.if-not-is_structural_or_whitespace.false in
    c.integer.ensures b i (drop c.in-Ok.end c.args.bytes.now) (read-split b i c.args.bytes.now e c.in-Ok.end reads)
    (read-after b i c.args.bytes.now e c.in-Ok.end reads ends)

pub returns-else-end-whole : goal.returns-else-end-whole
returns-else-end-whole c b i e =
    let sign : SignEnd c.args.bytes.now c.if-byte_or_space-eq45.start = grind arith in
    let whole : IsWhole c.args.bytes.now c.int_end-whole.result =
    int-whole _ _ _ sign c.int_end-whole.ensures.value c.if-whole-start.false in
    let reads : Reads number_literal c.args.bytes.now 0 (Ok c.in-Ok.end) = Leads-Reads _ _ _ _ _ _ whole.number c.in-Ok.ensures in
    let ends : is_terminator (byte_at c.args.bytes.now c.in-Ok.end) ≡ true =
    sym (ap is_terminator c.byte_or_space-in-Ok.ensures) ∙ sym c.is_structural_or_whitespace.ensures
    ∙ c.if-not-is_structural_or_whitespace.false in
    number_at-longer b i c.args.bytes.now e c.in-Ok.end reads c.int_end-whole.result whole c.if-end-whole.false ends
