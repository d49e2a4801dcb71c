use Rattle.std.proofs.Common.{◌≡◌, ◌∙◌, ap, ◌+◌, ◌-◌, drop, eqb, get_or, bit_or, arith}
use Rattle.std.proofs.lemmas.List.{drop_all}
use mir.Val.{bool_byte}
use Rattle.simd_json_ondemand.specs.Closing.{closed_at, first_bytes}
use Rattle.simd_json_stages.proofs.Scan.ScanLaws.{bool-small}
use Rattle.simd_json_ondemand.proofs.Counting.{step-closing, step-other, closed_at-none, closed_at-end}
use Rattle.simd_json_ondemand.proofs.skip.close_slowly.Goals.{then-byte-eq125+else-depth-eq0, else-byte-eq125}
use Rattle.simd_json_ondemand.proofs.skip.close_slowly.Goals as goal

pub returns-then-depth-eq0-clause-closed : goal.returns-then-depth-eq0-clause-closed
returns-then-depth-eq0-clause-closed c =
    let b = c.args.input.now in
    let is = c.args.indexes.now in
    let l = c.loop-end in
    let step = step-closing b is c.requires.within c.type_inv.input l.end l.depth c.loop-end-test.true l.invariant.some
    c.if-byte-eq125.true in
    let none = ap (λ n. closed_at n (first_bytes b (drop (l.end + 1) is))) c.if-depth-eq0.true ∙ closed_at-none _ in
    omega (arith, l.invariant.counted)

pub loop-end-preserved : goal.loop-end-preserved
loop-end-preserved c =
    let b = c.args.input.now in
    let is = c.args.indexes.now in
    let l = c.loop-end in
    let i = l.invariant in
    elim c.if-byte-eq125.branch [
      | then-byte-eq125+else-depth-eq0 w ↦
          let step = step-closing b is c.requires.within c.type_inv.input l.end l.depth c.loop-end-test.true i.some w.if-byte-eq125.true in
          let none : c.from-depth.result ≡ 0 = c.from-depth.ensures ∙ ap (λ x. bool_byte (eqb x 123)) w.if-byte-eq125.true in
          let depth : c.if-byte-eq125.depth + c.from-depth.result ≡ l.depth - 1 = omega (arith, w.depth-is) in
          let rest = ap (λ n. closed_at n (first_bytes b (drop (l.end + 1) is))) depth in
          record {
            from = omega (arith, i.from);
            to = omega arith;
            some = omega (arith, i.some, w.if-depth-eq0.false);
            few = omega (arith, i.few);
            counted = omega (arith, i.counted);
          }
      | else-byte-eq125 w ↦
          let step = step-other b is c.requires.within c.type_inv.input l.end l.depth c.loop-end-test.true i.some w.if-byte-eq125.false in
          let depth : c.if-byte-eq125.depth + c.from-depth.result
          ≡ l.depth + bool_byte (eqb (bit_or (get_or b (get_or is l.end 0) 0) 32) 123) = ap (λ n. n + c.from-depth.result) w.depth-is
          ∙ ap (λ n. l.depth + n) c.from-depth.ensures in
          let rest = ap (λ n. closed_at n (first_bytes b (drop (l.end + 1) is))) depth in
          let small = bool-small (eqb (bit_or (get_or b (get_or is l.end 0) 0) 32) 123) in
          record {
            from = omega (arith, i.from);
            to = omega arith;
            some = omega (arith, i.some, w.depth-is);
            few = omega (arith, i.few, w.depth-is, c.from-depth.ensures);
            counted = omega (arith, i.counted);
          }
    ]

pub returns-clause-closed : goal.returns-clause-closed
returns-clause-closed c =
    let l = c.loop-end in
    let none = ap (λ js. closed_at l.depth (first_bytes c.args.input.now js)) (drop_all l.end c.args.indexes.now c.loop-end-test.false)
    ∙ closed_at-end l.depth in
    omega (arith, l.invariant.counted)
