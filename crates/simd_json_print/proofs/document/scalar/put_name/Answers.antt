use Rattle.std.proofs.Common.{◌∙◌, ◌++◌, ap, codes, sym}
use Rattle.simd_json_parts.specs.Nodes.{item_of}
use Rattle.simd_json_parts.specs.Printed.{quoted, new_line}
use Rattle.simd_json_print.proofs.Lines.{adds-front, adds-string, adds-pretty-name, adds-compact-name, no-name, quoted-then}
use Rattle.simd_json_print.proofs.Texts.{adds-is, adds-some, adds-then, some-none}
use Rattle.simd_json_print.proofs.document.scalar.put_name.Goals as goal

pub returns-then-this-ne0 : goal.returns-then-this-ne0
returns-then-this-ne0 g c =
    let name = c.in-String.name.now in
    let string = adds-is _ _ _ _ _ (quoted-then name (codes ": ")) c.put_string.ensures in
    let front = adds-front _ _ _ _ c.front_of-front.result.now c.front_of-front.ensures c.put.ensures in
    let all = adds-then _ _ _ _ _ _ front
    (adds-then _ _ _ _ (new_line c.args.depth) (quoted name ++ codes ": ") c.put_new_line.ensures string) in
    record {
      kept = adds-some _ _ _ _ all;
      given = λ k is. adds-pretty-name _ _ _ _ _ _ name k c.if-this-ne0.true (ap item_of (sym c.in-String.is) ∙ is) all;
    }

pub returns-else-this-ne0 : goal.returns-else-this-ne0
returns-else-this-ne0 g c =
    let name = c.in-String.name.now in
    let all = adds-string _ _ _ _ c.front_of-front.result.now name
    (codes ":") c.front_of-front.ensures c.put_string-else-this-ne0.ensures in
    record {
      kept = adds-some _ _ _ _ all;
      given = λ k is. adds-compact-name _ _ _ _ _ _ name k c.if-this-ne0.false (ap item_of (sym c.in-String.is) ∙ is) all;
    }

pub returns-in_default : goal.returns-in_default
returns-in_default g c = record {
  kept = some-none _ _;
  given = λ k is. absurd (no-name c.args.node.now k c.in_default.not-String is);
}
