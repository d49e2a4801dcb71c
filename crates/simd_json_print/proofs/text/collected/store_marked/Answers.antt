use Rattle.simd_json_print.proofs.Stores.{stored-vector, behind-vector}
use Rattle.std.proofs.lemmas.Simd.{length-chunk}
use Rattle.simd_json_print.proofs.Unescaped.{mask-three}
use Rattle.simd_json_print.proofs.text.collected.store_marked.Goals as goal

pub returns-clause-stored : goal.returns-clause-stored
returns-clause-stored g c = stored-vector c.args.all.now c.args.bytes.now c.args.at c.args.from g.row.N c.requires.some c.requires.room

pub returns-clause-behind : goal.returns-clause-behind
returns-clause-behind g c = behind-vector c.args.all.now c.args.bytes.now c.args.at c.args.from g.row.N c.requires.some c.requires.room

pub returns-clause-escapes : goal.returns-clause-escapes
returns-clause-escapes g c = mask-three g.row.N _ (length-chunk c.args.from g.row.N c.args.bytes.now c.requires.some) c.requires.few
