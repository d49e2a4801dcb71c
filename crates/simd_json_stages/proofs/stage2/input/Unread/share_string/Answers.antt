use Rattle.std.proofs.Common.{◌+◌, ◌∙◌, sym, subst, refl, arith}
use Rattle.std.specs.Prelude.{IsUtf8}
use Rattle.simd_json_stages.proofs.Machine.InputLaws.{plain-string, plain-utf8, shared-slice}
use Rattle.simd_json_stages.specs.ReadsLater.{reads-kept}
use Rattle.simd_json_stages.proofs.stage2.input.Unread.share_string.Goals as goal

pub share-requires : goal.share-requires
share-requires c =
    let q = c.requires.quoted in
    let closing = c.closing-closing.ensures q.b q.reads q.string in
    record {
      bytes = record {
        b = q.b;
        reads = reads-kept q.b c.args.self.now c.args.at _ q.reads (omega arith);
        within = omega (arith, closing, q.string.later, q.string.closed, q.string.within);
      };
      utf8 = subst IsUtf8 (sym (shared-slice q.b q.b c.args.at c.args.end _ q.string refl closing))
          (plain-utf8 q.b c.args.at c.args.end q.string c.requires.plain);
    }

pub returns : goal.returns
returns c b reads string plain =
    let closing = c.closing-closing.ensures b reads string in
    let kept = reads-kept b c.args.self.now c.args.at (c.args.at + 1) reads (omega arith) in (
      plain-string b c.args.at c.args.end string plain _ (c.share.ensures.string b kept
          ∙ shared-slice b b c.args.at c.args.end _ string refl closing),
      reads-kept b _ _ _ (c.share.ensures.rest b kept) (omega (arith, closing, string.later)),
    )
