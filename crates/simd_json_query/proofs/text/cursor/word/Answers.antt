use Rattle.simd_json_query.proofs.Words.{word-found, word-shorter}
use Rattle.simd_json_query.proofs.text.cursor.word.Goals as goal

pub returns-clause-word : goal.returns-clause-word
returns-clause-word c = word-found c.args.characters.now c.args.rest.now c.strip_prefix.result c.strip_prefix.ensures.cases

pub returns-clause-shorter : goal.returns-clause-shorter
returns-clause-shorter c = word-shorter c.args.characters.now c.args.rest.now c.strip_prefix.result c.strip_prefix.ensures.cases
