use Rattle.std.proofs.Common.{arith, ◌-◌, ◌≡◌, length, not, ap, drop, get_or}
use Rattle.std.specs.List.{suffix_len}
use Rattle.std.proofs.lemmas.Bool.{eq-eqb}
use Rattle.std.proofs.lemmas.List.Sums.{suffix_len_is}
use Rattle.simd_json_check.specs.Locations.{is_line_feed}
use Rattle.jcheck.proofs.excerpt.line_start.Goals as goal

pub returns-else-bytes-start-ne10-clause-start : goal.returns-else-bytes-start-ne10-clause-start
returns-else-bytes-start-ne10-clause-start c =
    let bytes = c.args.bytes.now in
    let start = c.loop-start.start in
    let suffix : suffix_len (λ x. not (is_line_feed x)) bytes ≡ length bytes - start =
    suffix_len_is (λ x. not (is_line_feed x)) bytes start 0 c.loop-start.invariant.0 c.loop-start.invariant.1
    (λ _. ap not (eq-eqb (get_or bytes (start - 1) 0) 10 c.if-bytes-start-ne10.false)) in
    ap (λ n. drop n bytes) (omega (arith, c.loop-start.invariant.0))

pub returns-after-loop-start-clause-start : goal.returns-after-loop-start-clause-start
returns-after-loop-start-clause-start c =
    let bytes = c.args.bytes.now in
    let start = c.loop-start.start in
    let suffix : suffix_len (λ x. not (is_line_feed x)) bytes ≡ length bytes - start =
    suffix_len_is (λ x. not (is_line_feed x)) bytes start 0 c.loop-start.invariant.0 c.loop-start.invariant.1
    (λ h. absurd (omega arith)) in
    ap (λ n. drop n bytes) (omega (arith, c.loop-start.invariant.0))
