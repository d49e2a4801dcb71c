use Rattle.std.proofs.Common.{◌∙◌, sym, subst}
use Rattle.std.specs.Prelude.{IsUtf8}
use Rattle.simd_json_stages.proofs.Machine.InputLaws.{lent-slice}
use Rattle.simd_json_stages.proofs.stage2.input.Unread.share.Goals as goal

pub from_utf8_unchecked-requires-2 : goal.from_utf8_unchecked-requires-2
from_utf8_unchecked-requires-2 c =
    let reads = c.requires.bytes.reads in
    subst IsUtf8 (sym (lent-slice c.args.len (reads.part c.if-self.false)
    c.split-prefix.ensures.prefix)) c.requires.utf8

pub returns-clause-string : goal.returns-clause-string
returns-clause-string c b reads =
    c.from_utf8_unchecked-2.ensures ∙ lent-slice c.args.len (reads.part c.if-self.false) c.split-prefix.ensures.prefix
