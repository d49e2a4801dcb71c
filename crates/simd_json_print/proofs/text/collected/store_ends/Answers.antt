use Rattle.std.proofs.Common.{arith, length, sym, ◌∙◌}
use Rattle.std.proofs.lemmas.Bool.{and_parts, eqb-true}
use Rattle.simd_json_print.proofs.Stores.{stored-ends, behind-ends}
use Rattle.simd_json_print.proofs.Unescaped.{unescaped-overlap, unescaped-vector}
use Rattle.simd_json_print.proofs.text.collected.store_ends.Goals as goal

pub returns : goal.returns
returns g c =
    let f = c.store_marked-front in
    let b = c.store_marked-back in
    let bytes = c.args.bytes.now in
    record {
      stored = stored-ends c.args.all.now f.new.all b.new.all bytes c.args.at g.row.N c.requires.ends.0 c.requires.ends.1 (omega arith)
          f.ensures.stored b.ensures.stored;
      behind = behind-ends c.args.all.now f.new.all b.new.all c.args.at g.row.N (length bytes) c.requires.ends.0
          f.ensures.behind b.ensures.behind;
      size = b.ensures.size ∙ f.ensures.size;
      plain = λ is.
          let none = and_parts _ _ is in
          let front = unescaped-vector bytes 0 g.row.N (omega arith) (sym f.ensures.escapes ∙ eqb-true _ 0 none.0) in
          let back = unescaped-vector bytes _ g.row.N (omega arith) (sym b.ensures.escapes ∙ eqb-true _ 0 none.1) in
          unescaped-overlap bytes g.row.N c.requires.ends.0 c.requires.ends.1 (λ k p q. front k p (omega (arith, q))) back;
    }
