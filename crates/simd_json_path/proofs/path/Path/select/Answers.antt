use Rattle.std.proofs.Common.{◌∙◌, ap, sym, length, map, Some, None, arith}
use Rattle.simd_json.specs.Viewed.{doc}
use Rattle.simd_json_path.specs.Paths.{selected_by}
use Rattle.simd_json_path.proofs.Enough.{path-from, path-lacks}
use Rattle.simd_json_path.proofs.Segments.{nodes-none}
use Rattle.simd_json_path.proofs.path.Path.select.Goals as goal

pub returns-then-frames-self : goal.returns-then-frames-self
returns-then-frames-self c =
    c.only.ensures ∙ sym (path-lacks c.args.self.now (doc c.args.value.now) (length c.args.frames.now) (omega arith))

pub returns-in-Some : goal.returns-in-Some
returns-in-Some c =
    let path = c.args.self.now in
    let d = doc c.args.value.now in
    c.new.ensures ∙ sym (path-from path d (length c.args.frames.now) (Some (doc c.in-Some.start)) (omega arith) c.in-Some.ensures)

pub returns-in-None : goal.returns-in-None
returns-in-None c =
    let path = c.args.self.now in
    let d = doc c.args.value.now in
    c.only-in-None.ensures
    ∙ sym (path-from path d (length c.args.frames.now) None (omega arith) c.in-None.ensures
    ∙ ap (map Some) (nodes-none (selected_by d) path.segments.now))
