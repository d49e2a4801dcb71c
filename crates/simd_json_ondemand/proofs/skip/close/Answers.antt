use Rattle.std.proofs.Common.{◌≡◌, ◌∙◌, ap, ◌+◌, ◌-◌, ◌<◌, ◌≤◌, List, ℕ, length, take, drop, map, arith}
use lib.Count.{ones}
use lib.Lanes.{mask_l}
use Rattle.simd_json_ondemand.specs.Closing.{closed_at, first_bytes}
use Rattle.simd_json_parts.specs.Bytes.{is_closing, is_opening}
use Rattle.simd_json_ondemand.proofs.Counting.{group-length, group-closed, group-open, stays-open}
use Rattle.std.proofs.lemmas.Simd.{ones-mask_l}
use Rattle.simd_json_ondemand.proofs.skip.close.Goals.{then-count-depth+in_default, else-count-depth}
use Rattle.simd_json_ondemand.proofs.skip.close.Goals as goal

-- the container is closed in this group
found : (c : goal.In-Some)
    → (closed_at c.loop-end.depth (first_bytes c.args.input.now (drop c.loop-end.end c.args.indexes.now)) ≡ c.in-Some.last + 1)
    × (c.in-Some.last < 8)
found c =
    let b = c.args.input.now in
    let is = c.args.indexes.now in
    let i = c.loop-end.end in
    let fits : i + 8 ≤ length is = omega (arith, c.loop-end-test.true) in
    let bytes = c.group-bytes.ensures in
    group-closed b is i fits c.loop-end.depth c.in-Some.last (c.in-Some.ensures (first_bytes b (take 8 (drop i is)))
    (group-length b is i fits) (c.opening-opens.ensures ∙ ap (λ v. mask_l (map is_opening v)) bytes)
    (c.closing-closes.ensures ∙ ap (λ v. mask_l (map is_closing v)) bytes))

-- or it is open after it
passed : (c : goal.Joined-count-depth)
    → (closed_at c.loop-end.depth (first_bytes c.args.input.now (drop c.loop-end.end c.args.indexes.now))
    ≡ 8 + closed_at (c.loop-end.depth + ones c.opening-opens.result - ones c.closing-closes.result)
    (first_bytes c.args.input.now (drop (c.loop-end.end + 8) c.args.indexes.now)))
    × (ones c.closing-closes.result < c.loop-end.depth + ones c.opening-opens.result)
    × (ones c.opening-opens.result ≤ 8)
passed c =
    group-open b is i fits c.loop-end.depth c.opening-opens.result c.closing-closes.result o k (elim c.if-count-depth.branch [
      | then-count-depth+in_default w ↦ w.in_default.ensures (first_bytes b (take 8 (drop i is))) (group-length b is i fits) o k
      | else-count-depth w ↦ stays-open c.loop-end.depth (first_bytes b (take 8 (drop i is)))
          (let count = ap ones k ∙ ones-mask_l is_closing (first_bytes b (take 8 (drop i is))) in omega (arith, w.if-count-depth.false))
    ])
  where
    b : List ℕ
    b = c.args.input.now

    is : List ℕ
    is = c.args.indexes.now

    i : ℕ
    i = c.loop-end.end

    fits : i + 8 ≤ length is
    fits = omega (arith, c.loop-end-test.true)

    o : c.opening-opens.result ≡ mask_l (map is_opening (first_bytes b (take 8 (drop i is))))
    o = c.opening-opens.ensures ∙ ap (λ v. mask_l (map is_opening v)) c.group-bytes.ensures

    k : c.closing-closes.result ≡ mask_l (map is_closing (first_bytes b (take 8 (drop i is))))
    k = c.closing-closes.ensures ∙ ap (λ v. mask_l (map is_closing v)) c.group-bytes.ensures

pub overflow_add-result : goal.overflow_add-result
overflow_add-result c = let f = found c in let l = c.loop-end-test.true in record { fits = omega arith }

pub overflow_add-result-in-Some : goal.overflow_add-result-in-Some
overflow_add-result-in-Some c = let f = found c in let l = c.loop-end-test.true in record { fits = omega arith }

pub returns-in-Some-clause-closed : goal.returns-in-Some-clause-closed
returns-in-Some-clause-closed c = let f = found c in omega (arith, c.loop-end.invariant.counted)

pub returns-in-Some-clause-forward : goal.returns-in-Some-clause-forward
returns-in-Some-clause-forward c =
    let f = found c in let l = c.loop-end-test.true in (omega (arith, c.loop-end.invariant.from), omega arith)

pub overflow_sub-depth : goal.overflow_sub-depth
overflow_sub-depth c = let p = passed c in omega arith

pub loop-end-preserved : goal.loop-end-preserved
loop-end-preserved c =
    let p = passed c in
    let l = c.loop-end-test.true in
    let i = c.loop-end.invariant in
    record {
      from = omega (arith, i.from);
      to = omega arith;
      some = omega arith;
      few = omega (arith, i.few);
      counted = omega (arith, i.counted);
    }
