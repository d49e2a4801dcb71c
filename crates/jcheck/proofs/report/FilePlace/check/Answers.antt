use Rattle.std.proofs.Common.{◌≡◌, ◌∙◌, ◌++◌, ◌∷◌, [], ap, sym}
use Rattle.jcheck.proofs.report.FilePlace.check.Goals as goal
use Rattle.jcheck.specs.Excerpts.{excerpt}
use Rattle.jcheck.specs.Reports.{checked_text, found_text, words}
use Rattle.simd_json_parts.specs.Bytes.{line_feed}
use Rattle.simd_json_print.proofs.Texts.{adds-is, adds-then}

pub returns-clause-put : goal.returns-clause-put
returns-clause-put g c =
    let checked = c.args.checked.now in
    let file = c.args.self.file.now in
    let location = c.in-Some.location in
    let line = words file c.args.self.line c.args.self.byte location ++ line_feed ∷ [] in
    let text = excerpt c.args.style checked location.byte in
    let is : c.as_bytes.result.now ≡ line = c.as_bytes.ensures.value ∙ c.in_ok-words.ensures in
    let shown : c.as_bytes-2.result.now ≡ text = c.as_bytes-2.ensures.value ∙ c.in_ok-excerpt.ensures
    ∙ ap (excerpt c.args.style checked) c.byte.ensures in
    let whole : line ++ text ≡ checked_text file c.args.style c.args.checker.now.depth c.args.self.line c.args.self.byte checked =
    ap (found_text file c.args.style c.args.self.line c.args.self.byte checked) (sym c.in-Some.is ∙ c.in_ok-location.ensures.found) in
    let first = adds-is g.T.Target.state c.args.text.now c.put.new.self _ line is c.put.ensures in
    let second = adds-is g.T.Target.state c.put.new.self c.put-2.new.self _ text shown c.put-2.ensures in
    adds-is g.T.Target.state c.args.text.now c.put-2.new.self (line ++ text) _ whole
    (adds-then g.T.Target.state c.args.text.now c.put.new.self c.put-2.new.self line text first second)
