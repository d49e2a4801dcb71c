use Rattle.std.proofs.Common.{◌∙◌, ◌++◌, [], ap, rules, append_assoc, flat_map, refl, sym}
use Rattle.simd_json_print.proofs.Texts.{adds-is, adds-none, adds-then}
use Rattle.jpick.specs.Rows.{escaped}
use Rattle.jpick.proofs.Escapes.{run-escaped}
use Rattle.jpick.proofs.fields.put_escaped.Goals as goal

pub runs-init : goal.runs-init
runs-init g c = ([], adds-none _ _, refl)

pub runs-preserved : goal.runs-preserved
runs-preserved g c =
    let esc = escaped c.args.layout in
    let done = c.runs.invariant in
    let run = c.split_at.result.0.now in
    let others = c.split_at-in-Some.result.1.now in
    let whole = run-escaped c.args.layout c.runs.left.now run c.split_at.result.1.now others _ (search rules) (search rules) (search rules) in (
      done.0 ++ (run ++ esc _),
      adds-then _ _ _ _ done.0 _ done.1 (adds-then _ _ _ _ run _ c.put.ensures c.put_byte.ensures),
      append_assoc done.0 (run ++ esc _) (flat_map esc others)
          ∙ ap (λ us. done.0 ++ us) (append_assoc run (esc _) (flat_map esc others) ∙ whole) ∙ done.2,
    )

pub returns : goal.returns
returns g c =
    let done = c.runs.invariant in
    adds-is _ _ _ _ _ (ap (λ us. done.0 ++ us) (sym c.in_default.ensures.none) ∙ done.2) (adds-then _ _ _ _ done.0 _ done.1 c.put-2.ensures)
