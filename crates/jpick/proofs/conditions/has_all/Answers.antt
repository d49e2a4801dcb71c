use Rattle.std.proofs.Common.{◌∙◌, ap, arith, length, not, refl, sym, take, Some}
use Rattle.std.proofs.Math.Seq.{take-length}
use Rattle.std.proofs.lemmas.Bool.{leb-true}
use Rattle.std.proofs.lemmas.List.Folds.{list_all_at}
use Rattle.std.specs.List.{list_all}
use Rattle.simd_json.specs.Viewed.{doc}
use Rattle.jpick.specs.Queries.{has_room}
use Rattle.jpick.specs.Rows.{has_value}
use Rattle.jpick.proofs.Appended.{all-at, all-more, is-seen}
use Rattle.jpick.proofs.conditions.has_all.Goals as goal

pub loop-query-init : goal.loop-query-init
loop-query-init c = record { frames = refl; all = refl }

pub first-requires : goal.first-requires
first-requires c =
    let room = leb-true _ _ (ap (has_room (length c.args.frames.now) (Some (doc c.args.value))) c.query-item.is
    ∙ all-at (has_room (length c.args.frames.now) (Some (doc c.args.value))) c.args.queries.now c.loop-query.query-index
    c.query-item.result c.loop-query-test.true c.requires) in
    omega (arith, room, c.loop-query.invariant.frames)

pub returns-then-is_none : goal.returns-then-is_none
returns-then-is_none c =
    sym (list_all_at (has_value (doc c.args.value)) c.args.queries.now c.loop-query.query-index c.query-item.result c.loop-query-test.true
    (ap (has_value (doc c.args.value)) (sym c.query-item.is)
    ∙ is-seen doc c.first.result _ _ c.first.ensures (c.is_none.ensures ∙ ap not c.if-is_none.true)))

pub loop-query-preserved : goal.loop-query-preserved
loop-query-preserved c = record {
  frames = c.first.auto.frames ∙ c.loop-query.invariant.frames;
  all = all-more (has_value (doc c.args.value)) c.args.queries.now c.loop-query.query-index c.query-item.result c.loop-query-test.true
      c.loop-query.invariant.all
      (ap (has_value (doc c.args.value)) (sym c.query-item.is)
      ∙ is-seen doc c.first.result _ _ c.first.ensures (c.is_none.ensures ∙ ap not c.if-is_none.false));
}

pub returns : goal.returns
returns c =
    let p = has_value (doc c.args.value) in
    let queries = c.args.queries.now in
    sym c.loop-query.invariant.all ∙ ap (λ n. list_all p (take n queries)) (omega arith) ∙ ap (list_all p) (take-length queries)
