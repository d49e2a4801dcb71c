use Rattle.std.proofs.Common.{◌∙◌, ◌&&◌, below_more, length, nat_lt, refl, sym, arith}
use Rattle.std.proofs.lemmas.Bool.{and_from, and_left, and_right, le-ltb, lt-ltb}
use Rattle.simd_json_parts.specs.Positions.{is_position}
use Rattle.simd_json_check.proofs.Places.StringScan.{begins-at, ends-at, scan-none, read-after, first_index-is}
use Rattle.simd_json_check.proofs.location.scan.next_position.Goals as goal
use Rattle.simd_json_check.proofs.location.scan.next_position.Goals.{else-i-k-via-then-i-k+else-begins_token, else-i-k-via-else-i-k}

pub loop-k-init : goal.loop-k-init
loop-k-init c = (scan-none c.args.input.now, refl, λ j h. absurd (omega arith))

pub returns-then-begins_token : goal.returns-then-begins_token
returns-then-begins_token c =
    let b = c.args.input.now in
    let k = c.loop-k.k in
    let before = c.loop-k.strings in
    let after = c.after-strings.result in
    let l = c.loop-k-test.true in
    let s = read-after b k before.is_escaped before.is_inside l c.loop-k.invariant.0 after.is_escaped after.is_inside
    c.after-strings.ensures.escaped c.after-strings.ensures.inside in
    let at = begins-at b k before.is_escaped before.is_inside l c.loop-k.invariant.0 c.is_quote-is_quote.result c.is_quote-is_quote.ensures
    after.is_escaped after.is_inside s c.loop-k.is_fresh c.loop-k.invariant.1 in
    sym (first_index-is (λ j. nat_lt c.args.i j && is_position b j) b k c.loop-k.auto.k-end c.loop-k.invariant.2
    (λ _. and_from (nat_lt c.args.i k) (is_position b k) (lt-ltb c.args.i k c.if-i-k.true)
    (sym at ∙ sym c.begins_token.ensures ∙ c.if-begins_token.true)))

pub loop-k-preserved : goal.loop-k-preserved
loop-k-preserved c =
    let b = c.args.input.now in
    let k = c.loop-k.k in
    let before = c.loop-k.strings in
    let after = c.after-strings.result in
    let l = c.loop-k-test.true in
    let s = read-after b k before.is_escaped before.is_inside l c.loop-k.invariant.0 after.is_escaped after.is_inside
    c.after-strings.ensures.escaped c.after-strings.ensures.inside in
    let quoted = c.is_quote-is_quote in
    let at = begins-at b k before.is_escaped before.is_inside l c.loop-k.invariant.0 quoted.result quoted.ensures
    after.is_escaped after.is_inside s c.loop-k.is_fresh c.loop-k.invariant.1 in (
      s,
      c.ends_token-is_fresh.ensures
          ∙ ends-at b k before.is_escaped before.is_inside l c.loop-k.invariant.0 quoted.result quoted.ensures
          after.is_escaped after.is_inside s,
      below_more _ _ c.loop-k.invariant.2 (elim c.else-i-k.branch [
        | else-i-k-via-then-i-k+else-begins_token w ↦ and_right (nat_lt c.args.i k) (is_position b k)
            (sym at ∙ sym w.begins_token.ensures ∙ w.if-begins_token.false)
        | else-i-k-via-else-i-k w ↦ and_left (nat_lt c.args.i k) (is_position b k) (le-ltb c.args.i k w.if-i-k.false)
      ]),
    )

pub returns : goal.returns
returns c =
    let b = c.args.input.now in
    sym (first_index-is (λ j. nat_lt c.args.i j && is_position b j) b (length b) (omega arith)
    (λ k h. c.loop-k.invariant.2 k (omega arith)) (λ h. absurd (omega arith)))
