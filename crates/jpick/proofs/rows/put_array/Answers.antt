use Rattle.std.proofs.Common.{◌++◌, ◌∷◌, [], map}
use Rattle.simd_json.specs.Viewed.{doc}
use Rattle.simd_json_parts.specs.Bytes.{right_bracket}
use Rattle.simd_json_path.specs.Paths.{selected}
use Rattle.simd_json_print.proofs.Texts.{adds-is, adds-then}
use Rattle.jpick.specs.Queries.{elements_of}
use Rattle.jpick.specs.Rows.{arranged}
use Rattle.jpick.proofs.Arrays.{array-put}
use Rattle.jpick.proofs.Putting.{begun-is, begun-more, begun-then, puts-err}
use Rattle.jpick.proofs.rows.put_array.Goals as goal

pub returns-in_err-put_elements : goal.returns-in_err-put_elements
returns-in_err-put_elements g c =
    let ds = selected c.args.path.now (doc c.args.value) in
    let q = c.quote-quote.result.now in
    puts-err _ c.from_residual.result _ _ _ _ c.from_residual.ensures.1
    (begun-is _ _ _ _ _ (array-put c.args.wanted.now ds q (c.quote-quote.ensures.array (elements_of (map (arranged c.args.wanted.now) ds))))
    (begun-then _ _ _ _ _ _ c.put_between.ensures (begun-more _ _ _ _ (right_bracket ∷ (q ++ [])) c.in_err-put_elements.ensures)))

pub returns : goal.returns
returns g c =
    let ds = selected c.args.path.now (doc c.args.value) in
    let q = c.quote-quote.result.now in
    adds-is _ _ _ _ _ (array-put c.args.wanted.now ds q (c.quote-quote.ensures.array (elements_of (map (arranged c.args.wanted.now) ds))))
    (adds-then _ _ _ _ _ _ c.put_between.ensures (adds-then _ _ _ _ _ _ c.in_ok-put_elements.ensures c.put_between-2.ensures))
