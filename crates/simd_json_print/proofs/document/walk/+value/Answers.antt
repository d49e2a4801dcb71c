use Rattle.std.proofs.Common.{◌+◌, ◌<◌, ◌≤◌, refl, map, length, not, nat_eq, arith, rules}
use Rattle.std.proofs.lemmas.List.{length-map}
use Rattle.simd_json_parts.specs.Nodes.{item_of}
use Rattle.simd_json_print.proofs.Lead.{is-printed, leads-apart, leads-from, leads-none, leads-then, leads-to}
use Rattle.simd_json_print.proofs.Nestings.{at-end, at-value, apart-step, apart-less, begins, some-beneath}
use Rattle.simd_json_print.proofs.document.walk.+value.Goals as goal

pub put_value_within-loop-value-init : goal.put_value_within-loop-value-init
put_value_within-loop-value-init g t c = (
  omega arith,
  search (rules, arith),
  omega arith,
  leads-none _ _ _ _ (λ done d is. begins (not (nat_eq g.row.PRETTY 0)) c.args.depth _ _ c.args.nodes.now done d refl is.0 is.1),
)

pub put_value_within-put_value-requires-in-loop-value : goal.put_value_within-put_value-requires-in-loop-value
put_value_within-put_value-requires-in-loop-value g t c κs within =
    let l = c.loop-value in
    let f = c.put_from-deep in
    let ns = f.result.nodes.now in
    let some : 0 < length ns = search (rules, arith) in
    let has : 0 < length f.new.levels = omega (arith, f.ensures.further.levels, l.invariant.1) in
    let room : f.new.used + length ns ≤ length c.args.nodes.now = omega (arith, f.ensures.further.room, l.invariant.2) in
    let less = apart-less f.new.levels f.new.used ns c.split_at.result.0.now c.split_at.result.1.now _ _ _
    (length c.args.nodes.now) f.ensures.deep has some c.split_at.ensures.front c.split_at.ensures.back c.count.ensures
    c.min-count.ensures room in
    search (rules, arith)

pub put_value_within-loop-value-smaller : goal.put_value_within-loop-value-smaller
put_value_within-loop-value-smaller g t c =
    let f = c.put_from-deep in
    let u = c.put_up_to_value-value in
    let v = c.split_at-in-loop-value in
    let some : 0 < length f.result.nodes.now = search (rules, arith) in
    let rest : length v.result.1.now < length f.result.nodes.now = omega (arith, v.ensures.back_len, some) in
    omega (arith, f.ensures.further.within, u.ensures.within, rest)

pub put_value_within-returns-then-is_empty-2 : goal.put_value_within-returns-then-is_empty-2
put_value_within-returns-then-is_empty-2 g t c =
    let pretty = not (nat_eq g.row.PRETTY 0) in
    let l = c.loop-value in
    let f = c.put_from-deep in
    is-printed _ _ _ _ _
    (leads-then _ _ _ _ _ _ _ l.invariant.3
    (leads-to _ _ _ _ _ _
    (leads-from _ _ _ _ _ _ (λ done d is. at-value pretty c.args.depth l.levels l.used d (map item_of l.value.nodes.now) done
    (search (rules, arith, length-map)) is) f.ensures.put)
    (λ done d is. at-end pretty c.args.depth f.new.levels f.new.used d (map item_of f.result.nodes.now) done
    (search (rules, arith, length-map)) is)))

pub put_value_within-loop-value-preserved : goal.put_value_within-loop-value-preserved
put_value_within-loop-value-preserved g t c =
    let pretty = not (nat_eq g.row.PRETTY 0) in
    let l = c.loop-value in
    let f = c.put_from-deep in
    let v = c.split_at-in-loop-value in
    let u = c.put_up_to_value-value in
    let ns = f.result.nodes.now in
    let levels = f.new.levels in
    let used = f.new.used in
    let some : 0 < length ns = search (rules, arith) in
    let first = c.split_at.result.0.now in
    let rest = c.split_at.result.1.now in
    let others : length v.result.1.now ≤ length ns = omega (arith, v.ensures.back_len) in (
      omega (arith, u.ensures.nested, f.ensures.further.nested),
      omega (arith, f.ensures.further.levels, l.invariant.1),
      omega (arith, u.ensures.nested, u.ensures.within, others, f.ensures.further.room, l.invariant.2),
      leads-then _ _ _ _ _ _ _ l.invariant.3
          (leads-then _ _ _ _ _ _ _
          (leads-from _ _ _ _ _ _ (λ done d is. at-value pretty c.args.depth l.levels l.used d (map item_of l.value.nodes.now) done
          (search (rules, arith, length-map)) is) f.ensures.put)
          (leads-then _ _ _ _ _ _ _
          (leads-apart _ _ _ _ _ _ _ c.put_value-in-loop-value.ensures
          (λ done d is.
          let deep = at-value pretty c.args.depth levels used d (map item_of ns) done (omega (arith, some, length-map ns item_of)) is in
          let more = some-beneath pretty c.args.depth levels used d ns first rest _ _ _ done some c.split_at.ensures.front
          c.split_at.ensures.back c.count.ensures c.min-count.ensures deep f.ensures.deep in
          let apart = apart-step pretty c.args.depth levels used d ns first rest _ _ _ done some c.split_at.ensures.front
          c.split_at.ensures.back c.count.ensures c.min-count.ensures deep v.result.0.now v.result.1.now more v.ensures.front
          v.ensures.back in
          (apart.document, apart.listed, apart.after)))
          u.ensures.put)),
    )

pub put_value_within-returns : goal.put_value_within-returns
put_value_within-returns g t c =
    let pretty = not (nat_eq g.row.PRETTY 0) in
    let l = c.loop-value in
    is-printed _ _ _ _ _
    (leads-to _ _ _ _ _ _ l.invariant.3
    (λ done d is. at-end pretty c.args.depth l.levels l.used d (map item_of l.value.nodes.now) done
    (search (rules, arith, length-map)) is))
