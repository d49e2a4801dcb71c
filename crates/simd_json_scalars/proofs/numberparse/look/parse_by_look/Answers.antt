use Rattle.std.proofs.Common.{◌≡◌, sym, ap, subst, ◌∙◌, drop, Ok, true, false, arith}
use Rattle.std.proofs.lemmas.Bool.Decides.{nat_tests}
use Rattle.std.proofs.lemmas.List.{get_or_default}
use Rattle.simd_json_parts.specs.Bytes.{byte_at, is_terminator}
use Rattle.simd_json_parts.specs.Numbers.{number_literal}
use Rattle.simd_json_scalars.specs.NumeralRead.{IsNumeralAt}
use Rattle.simd_json_scalars.proofs.Numbers.Prefixes.{Reads}
use Rattle.simd_json_scalars.proofs.Numbers.Steps.{SignEnd, IsWhole}
use Rattle.simd_json_scalars.proofs.Numbers.Reader.{number_at-longer, integer-literal, read-split, read-after}
use Rattle.simd_json_scalars.proofs.Numbers.Looks.{run-whole, IsFraction, seen-end, seen-exponent}
use Rattle.simd_json_scalars.proofs.numberparse.look.parse_by_look.Goals as goal

pub integer-requires : goal.integer-requires
integer-requires c =
    let l = c.args.bytes.now in
    let first = get_or_default l 0 32 0 (omega arith) in
    let sign : SignEnd l c.if-bytes-eq45.start = grind (arith, first) in
    let run = c.run_end-whole.ensures l (omega arith) c.non_digits-stops.ensures (omega arith) in
    let digit = get_or_default l c.if-bytes-eq45.start 32 0 (omega arith) in
    let whole : IsWhole l c.run_end-whole.result =
    run-whole l _ _ sign run c.if-whole-start.false (λ e. grind (arith, e, digit, nat_tests)) in
    rw c.if-end-whole-2.true (integer-literal _ _ whole)

pub returns-then-end-whole-2 : goal.returns-then-end-whole-2
returns-then-end-whole-2 c b i e =
    let l = c.args.bytes.now in
    let first = get_or_default l 0 32 0 (omega arith) in
    let sign : SignEnd l c.if-bytes-eq45.start = grind (arith, first) in
    let run = c.run_end-whole.ensures l (omega arith) c.non_digits-stops.ensures (omega arith) in
    let digit = get_or_default l c.if-bytes-eq45.start 32 0 (omega arith) in
    let whole : IsWhole l c.run_end-whole.result =
    run-whole l _ _ sign run c.if-whole-start.false (λ e. grind (arith, e, digit, nat_tests)) in
    let point = get_or_default l c.run_end-whole.result 32 0 (omega arith) in
    let fraction : IsFraction l c.run_end-whole.result c.if-bytes-whole-eq46.end = grind (arith, point, c.non_digits-stops.ensures) in
    let after : is_terminator (byte_at l c.if-bytes-whole-eq46.end) ≡ true =
    ap is_terminator (get_or_default l c.if-bytes-whole-eq46.end 32 0 (omega arith)) ∙ sym c.is_structural_or_whitespace.ensures
    ∙ c.if-is_structural_or_whitespace.true in
    let reads : Reads number_literal l 0 (Ok c.if-bytes-whole-eq46.end) = seen-end l _ _ whole fraction (omega arith) after in
    c.integer.ensures b i (drop c.if-bytes-whole-eq46.end l) (read-split b i l e _ reads) (read-after b i l e _ reads after)

pub returns-else-end-whole-2 : goal.returns-else-end-whole-2
returns-else-end-whole-2 c b i e =
    let l = c.args.bytes.now in
    let first = get_or_default l 0 32 0 (omega arith) in
    let sign : SignEnd l c.if-bytes-eq45.start = grind (arith, first) in
    let run = c.run_end-whole.ensures l (omega arith) c.non_digits-stops.ensures (omega arith) in
    let digit = get_or_default l c.if-bytes-eq45.start 32 0 (omega arith) in
    let whole : IsWhole l c.run_end-whole.result =
    run-whole l _ _ sign run c.if-whole-start.false (λ e. grind (arith, e, digit, nat_tests)) in
    let point = get_or_default l c.run_end-whole.result 32 0 (omega arith) in
    let fraction : IsFraction l c.run_end-whole.result c.if-bytes-whole-eq46.end = grind (arith, point, c.non_digits-stops.ensures) in
    let after : is_terminator (byte_at l c.if-bytes-whole-eq46.end) ≡ true =
    ap is_terminator (get_or_default l c.if-bytes-whole-eq46.end 32 0 (omega arith)) ∙ sym c.is_structural_or_whitespace.ensures
    ∙ c.if-is_structural_or_whitespace.true in
    let reads : Reads number_literal l 0 (Ok c.if-bytes-whole-eq46.end) = seen-end l _ _ whole fraction (omega arith) after in
    number_at-longer b i l e _ reads _ whole c.if-end-whole-2.false after

pub returns : goal.returns
returns c b i e =
    let l = c.args.bytes.now in
    let first = get_or_default l 0 32 0 (omega arith) in
    let sign : SignEnd l c.if-bytes-eq45.start = grind (arith, first) in
    let run = c.run_end-whole.ensures l (omega arith) c.non_digits-stops.ensures (omega arith) in
    let digit = get_or_default l c.if-bytes-eq45.start 32 0 (omega arith) in
    let whole : IsWhole l c.run_end-whole.result =
    run-whole l _ _ sign run c.if-whole-start.false (λ e. grind (arith, e, digit, nat_tests)) in
    let point = get_or_default l c.run_end-whole.result 32 0 (omega arith) in
    let fraction : IsFraction l c.run_end-whole.result c.if-bytes-whole-eq46.end = grind (arith, point, c.non_digits-stops.ensures) in
    let other : is_terminator (byte_at l c.if-bytes-whole-eq46.end) ≡ false =
    ap is_terminator (get_or_default l c.if-bytes-whole-eq46.end 32 0 (omega arith)) ∙ sym c.is_structural_or_whitespace.ensures
    ∙ c.if-is_structural_or_whitespace.false in
    subst (IsNumeralAt b i) (sym c.parse_exponent.ensures) (seen-exponent l _ _ whole fraction i b e other)
