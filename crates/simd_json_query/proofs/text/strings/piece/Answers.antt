use Rattle.simd_json_query.proofs.Shorter.{behind_shorter}
use Rattle.simd_json_query.proofs.text.strings.piece.Goals as goal

pub returns-then-first-ne92-clause-shorter : goal.returns-then-first-ne92-clause-shorter
returns-then-first-ne92-clause-shorter c = behind_shorter _ _ c.args.first c.requires.begins
