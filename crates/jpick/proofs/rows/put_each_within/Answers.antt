use Rattle.std.proofs.Common.{◌≡◌, ◌∙◌, ◌++◌, [], ap, append-nil, append_assoc, flat_map, length, map, refl, sym, Some}
use Rattle.simd_json.specs.Viewed.{doc}
use Rattle.simd_json_path.specs.IteratorNodes.{item_of, selected_left}
use Rattle.simd_json_path.specs.Paths.{selected}
use Rattle.simd_json_path.proofs.Enough.{path-enough}
use Rattle.simd_json_print.proofs.Texts.{adds-is, adds-lost, adds-none, adds-then}
use Rattle.jpick.specs.Rows.{picked_rows}
use Rattle.jpick.proofs.Enough.{none-left, parts-of, value-of}
use Rattle.jpick.proofs.Putting.{begun-all, begun-is, begun-more, begun-then, puts-err}
use Rattle.jpick.proofs.rows.put_each_within.Goals as goal

pub values-init : goal.values-init
values-init g c =
    let d = doc c.args.value in (
      selected c.args.path.now d,
      c.select-values.ensures ∙ path-enough c.args.path.now d (length c.args.frames.now) c.requires,
      [],
      adds-none _ _,
      refl,
    )

pub returns-in_default-item : goal.returns-in_default-item
returns-in_default-item g c =
    let at = c.values.invariant in
    begun-is _ _ _ _ _ at.4 (begun-more _ _ _ at.2 _ (begun-all _ _ _ at.2 at.3))

pub returns-in_err-put_picked : goal.returns-in_err-put_picked
returns-in_err-put_picked g c =
    let f = picked_rows c.args.wanted.now in
    let at = c.values.invariant in
    let next = parts-of at.0 (item_of c.in-Some.item) (selected_left c.next.new.self) (sym at.1 ∙ c.in-Some.ensures.steps) in
    let one = value-of c.in-Ok.selected c.in-Some.item (item_of c.in-Some.item) next.d refl c.in-Ok.is next.one in
    puts-err _ c.from_residual.result _ _ _ _ c.from_residual.ensures.1
    (begun-is _ _ _ _ _ (ap (λ ds. at.2 ++ flat_map f ds) (sym next.whole) ∙ at.4)
    (begun-then _ _ _ _ at.2 _ at.3
    (begun-is _ _ _ _ _ (ap (λ d. f d ++ flat_map f next.rest) one)
    (begun-more _ _ _ (f (doc c.in-Ok.selected)) (flat_map f next.rest) c.in_err-put_picked.ensures))))

pub returns-then-has_failed : goal.returns-then-has_failed
returns-then-has_failed g c =
    let f = picked_rows c.args.wanted.now in
    let at = c.values.invariant in
    let next = parts-of at.0 (item_of c.in-Some.item) (selected_left c.next.new.self) (sym at.1 ∙ c.in-Some.ensures.steps) in
    let one = value-of c.in-Ok.selected c.in-Some.item (item_of c.in-Some.item) next.d refl c.in-Ok.is next.one in
    adds-is _ _ _ _ _ (append_assoc at.2 (f (doc c.in-Ok.selected)) (flat_map f next.rest)
    ∙ ap (λ d. at.2 ++ (f d ++ flat_map f next.rest)) one ∙ ap (λ ds. at.2 ++ flat_map f ds) (sym next.whole) ∙ at.4)
    (adds-lost _ _ _ (at.2 ++ f (doc c.in-Ok.selected)) (flat_map f next.rest) (sym c.has_failed.ensures ∙ c.if-has_failed.true)
    (adds-then _ _ _ _ at.2 _ at.3 c.in_ok-put_picked.ensures))

pub values-preserved : goal.values-preserved
values-preserved g c =
    let f = picked_rows c.args.wanted.now in
    let at = c.values.invariant in
    let next = parts-of at.0 (item_of c.in-Some.item) (selected_left c.next.new.self) (sym at.1 ∙ c.in-Some.ensures.steps) in
    let one = value-of c.in-Ok.selected c.in-Some.item (item_of c.in-Some.item) next.d refl c.in-Ok.is next.one in (
      next.rest,
      next.others,
      at.2 ++ f (doc c.in-Ok.selected),
      adds-then _ _ _ _ at.2 _ at.3 c.in_ok-put_picked.ensures,
      append_assoc at.2 (f (doc c.in-Ok.selected)) (flat_map f next.rest)
          ∙ ap (λ d. at.2 ++ (f d ++ flat_map f next.rest)) one ∙ ap (λ ds. at.2 ++ flat_map f ds) (sym next.whole) ∙ at.4,
    )

pub returns : goal.returns
returns g c =
    let f = picked_rows c.args.wanted.now in
    let at = c.values.invariant in
    let none : map Some at.0 ≡ [] = sym at.1 ∙ c.in_default.ensures.steps.0 in
    adds-is _ _ _ _ _ (sym (append-nil at.2) ∙ ap (λ ds. at.2 ++ flat_map f ds) (sym (none-left at.0 none)) ∙ at.4) at.3
