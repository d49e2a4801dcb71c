use Rattle.std.proofs.Common.{◌<◌, [], length, map, arith, refl, rules, not, nat_eq}
use Rattle.std.proofs.lemmas.List.{length-map}
use Rattle.simd_json_parts.specs.Nodes.{item_of}
use Rattle.simd_json_print.proofs.Lead.{begun-by, is-printed, leads-from, leads-then, leads-to, printed-by}
use Rattle.simd_json_print.proofs.Levels.{at-first, at-prefix, smaller}
use Rattle.simd_json_print.proofs.Nestings.{at-end, at-value, is-full, nests-deeper, next-value, starts}
use Rattle.simd_json_print.proofs.document.levels.put_growing.Goals as goal

pub returns-then-nodes-clause-put : goal.returns-then-nodes-clause-put
returns-then-nodes-clause-put g c = printed-by _ _ _ _ _ _ _ c.put_value.ensures

pub returns-then-is_empty-clause-put : goal.returns-then-is_empty-clause-put
returns-then-is_empty-clause-put g c =
    let pretty = not (nat_eq g.row.PRETTY 0) in
    let f = c.put_from-deep in
    printed-by _ _ _ _ _ _ _
    (is-printed _ _ _ _ _
    (leads-to _ _ _ _ _ _
    (leads-from _ _ _ _ _ _ (λ done d is. starts pretty 0 _ 0 (map item_of c.args.nodes.now) done d refl is.0 is.1) f.ensures.put)
    (λ done d is. at-end pretty 0 f.new.levels f.new.used d (map item_of f.result.nodes.now) done (search (rules, arith, length-map)) is)))

pub returns-in_err-keep-clause-put : goal.returns-in_err-keep-clause-put
returns-in_err-keep-clause-put g c =
    let pretty = not (nat_eq g.row.PRETTY 0) in
    let f = c.put_from-deep in
    let levels = f.new.levels in
    let used = f.new.used in
    let ns = f.result.nodes.now in
    let items = map item_of ns in
    let some : 0 < length ns = search (rules, arith) in
    let full = is-full levels used ns f.ensures.deep some (omega (arith, f.ensures.further.room, c.if-nodes.false)) in
    begun-by _ _ _ _ _ _ _ _ _ (c.from_residual.ensures.1)
    (leads-from _ _ _ _ _ _ (λ done d is. starts pretty 0 _ 0 (map item_of c.args.nodes.now) done d refl is.0 is.1) f.ensures.put)
    (λ done d listed is.
    let at = at-value pretty 0 levels used d items done (omega (arith, some, length-map ns item_of)) is in
    let deep = nests-deeper pretty 0 levels used d ns done f.ensures.deep some at in
    (at-prefix pretty 0 levels used items done d at, omega (arith, deep, full, f.ensures.further.levels, c.in_err-keep.ensures.failed)))

pub loop-value-init : goal.loop-value-init
loop-value-init g c =
    let pretty = not (nat_eq g.row.PRETTY 0) in
    let f = c.put_from-deep in
    let few = f.new.levels in
    let used = f.new.used in
    let ns = f.result.nodes.now in
    let items = map item_of ns in
    let k = c.in_ok-keep.ensures in
    let levels = c.keep.new.levels.items in
    let some : 0 < length ns = search (rules, arith) in
    let full = is-full few used ns f.ensures.deep some (omega (arith, f.ensures.further.room, c.if-nodes.false)) in
    let begun =
    leads-from _ _ _ _ _ _ (λ done d is. starts pretty 0 _ 0 (map item_of c.args.nodes.now) done d refl is.0 is.1) f.ensures.put in (
      omega (arith, k.past, f.ensures.further.nested),
      omega (arith, f.ensures.further.room, c.if-nodes.false),
      c.keep.ensures.longer,
      λ all. absurd (omega (arith, k.past, all, f.ensures.further.nested)),
      leads-to _ _ _ _ _ _ begun
          (λ done d is.
          let at = at-value pretty 0 few used d items done (omega (arith, some, length-map ns item_of)) is in
          next-value pretty 0 levels used d items done (at-first pretty 0 few levels used items done d f.ensures.further.nested k.kept at)),
      λ d listed.
          let x = begun.given [] d (refl, listed) in
          let at = at-value pretty 0 few used d items x.0 (omega (arith, some, length-map ns item_of)) x.2 in
          omega (arith, nests-deeper pretty 0 few used d ns x.0 f.ensures.deep some at, full, f.ensures.further.levels),
    )

pub returns-in_err-lengthen_past-clause-put : goal.returns-in_err-lengthen_past-clause-put
returns-in_err-lengthen_past-clause-put g c =
    let pretty = not (nat_eq g.row.PRETTY 0) in
    let l = c.loop-value in
    let levels = l.levels.items in
    let ns = l.value.nodes.now in
    let items = map item_of ns in
    let some : 0 < length ns = search (rules, arith) in
    let full = c.in_err-lengthen_past.ensures.failed in
    begun-by _ _ _ _ _ _ _ _ _ (c.from_residual-in_err-lengthen_past.ensures.1) l.invariant.4
    (λ done d listed is.
    let at = at-value pretty 0 levels l.used d items done (omega (arith, some, length-map ns item_of)) is in
    let deep = nests-deeper pretty 0 levels l.used d ns done (l.invariant.3 full) some at in
    (at-prefix pretty 0 levels l.used items done d at, omega (arith, deep, full, l.invariant.2, l.invariant.5 d listed)))

pub loop-value-preserved : goal.loop-value-preserved
loop-value-preserved g c =
    let pretty = not (nat_eq g.row.PRETTY 0) in
    let l = c.loop-value in
    let before = l.levels.items in
    let levels = c.lengthen_past.new.levels.items in
    let p = c.put_listed-value in
    let ns = l.value.nodes.now in
    let items = map item_of ns in
    let some : 0 < length ns = search (rules, arith) in (
      p.ensures.further.nested,
      omega (arith, p.ensures.further.room, l.invariant.1),
      omega (arith, p.ensures.further.levels, c.lengthen_past.ensures.longer, l.invariant.2),
      λ full. p.ensures.deep,
      leads-then _ _ _ _ _ _ _ l.invariant.4
          (leads-from _ _ _ _ _ _
          (λ done d is.
          let at = at-value pretty 0 before l.used d items done (omega (arith, some, length-map ns item_of)) is in
          at-first pretty 0 before levels l.used items done d l.invariant.0 c.lengthen_past.ensures.kept at)
          p.ensures.put),
      l.invariant.5,
    )

pub loop-value-smaller : goal.loop-value-smaller
loop-value-smaller g c =
    let p = c.put_listed-value in
    smaller c.lengthen_past.new.levels.items p.new.levels.items c.loop-value.used p.new.used c.loop-value.value.nodes.now
    p.result.nodes.now (c.in_ok-lengthen_past.ensures.past) p.ensures.further.levels p.ensures.further.room
    (omega (arith, c.loop-value.invariant.1)) (search (rules, arith)) p.ensures.deep

pub returns-clause-put : goal.returns-clause-put
returns-clause-put g c =
    let pretty = not (nat_eq g.row.PRETTY 0) in
    let l = c.loop-value in
    printed-by _ _ _ _ _ _ _
    (is-printed _ _ _ _ _
    (leads-to _ _ _ _ _ _ l.invariant.4
    (λ done d is. at-end pretty 0 l.levels.items l.used d (map item_of l.value.nodes.now) done (search (rules, arith, length-map)) is)))
