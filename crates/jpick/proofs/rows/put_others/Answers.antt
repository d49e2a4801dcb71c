use Rattle.std.proofs.Common.{rules, ◌≡◌, ◌∙◌, ap, arith, length, refl, subst, sym, true}
use Rattle.std.specs.Prelude.{option_map}
use Rattle.programs.specs.Cells.{after_mark}
use Rattle.simd_json.specs.Viewed.{doc}
use Rattle.simd_json_print.proofs.Texts.{adds-is, adds-none, adds-then}
use Rattle.jpick.specs.Queries.{has_room}
use Rattle.jpick.specs.Rows.{cell_at, mark_of}
use Rattle.jpick.proofs.Appended.{all-at}
use Rattle.jpick.proofs.Putting.{adds-more, adds-whole, begun-part, begun-then, puts-err}
use Rattle.jpick.proofs.rows.put_others.Goals as goal

pub loop-query-init : goal.loop-query-init
loop-query-init g c = record { frames = refl; put = adds-none _ _ }

pub put_cell_at-requires : goal.put_cell_at-requires
put_cell_at-requires g c =
    let d = option_map doc c.args.value in
    let all = all-at (has_room (length c.args.frames.now) d) c.args.queries.now c.loop-query.query-index c.query-item.result
    c.loop-query-test.true c.requires in
    let room = subst (λ count. has_room count d c.query-item.result ≡ true) (sym c.loop-query.invariant.frames)
    (ap (has_room (length c.args.frames.now) d) c.query-item.is ∙ all) in
    (search rules, room)

pub returns-in_err-put_cell_at : goal.returns-in_err-put_cell_at
returns-in_err-put_cell_at g c =
    let w = c.args.wanted.now in
    let cell = after_mark (mark_of w.layout) (cell_at w (option_map doc c.args.value)) in
    puts-err _ c.from_residual.result _ _ _ _ c.from_residual.ensures.1
    (begun-part _ cell c.args.queries.now c.loop-query.query-index c.query-item.result _ _ _ c.loop-query-test.true c.loop-query.invariant.put
    (ap cell c.query-item.is)
    (begun-then _ _ _ _ _ _ (adds-is _ _ _ _ _ c.marks.ensures.mark c.put.ensures) c.in_err-put_cell_at.ensures))

pub loop-query-preserved : goal.loop-query-preserved
loop-query-preserved g c =
    let w = c.args.wanted.now in
    let cell = after_mark (mark_of w.layout) (cell_at w (option_map doc c.args.value)) in
    record {
      frames = c.put_cell_at.auto.frames ∙ c.loop-query.invariant.frames;
      put = adds-more _ cell c.args.queries.now c.loop-query.query-index c.query-item.result _ _ _ c.loop-query-test.true
          c.loop-query.invariant.put (ap cell c.query-item.is)
          (adds-then _ _ _ _ _ _ (adds-is _ _ _ _ _ c.marks.ensures.mark c.put.ensures) c.in_ok-put_cell_at.ensures);
    }

pub returns : goal.returns
returns g c =
    adds-whole _ (after_mark (mark_of c.args.wanted.now.layout) (cell_at c.args.wanted.now (option_map doc c.args.value)))
    c.args.queries.now c.loop-query.query-index _ _ (omega arith) c.loop-query.invariant.put
