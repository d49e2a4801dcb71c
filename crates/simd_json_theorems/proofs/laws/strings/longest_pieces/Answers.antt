use Rattle.simd_json_theorems.proofs.Sound.LongestPieces.{pieces-prefix, pieces-longest}
use Rattle.simd_json_theorems.proofs.laws.strings.longest_pieces.Goals as goal

pub returns-clause-pieces : goal.returns-clause-pieces
returns-clause-pieces c bs utf8 printed none = pieces-prefix bs utf8 printed none

pub returns-clause-longest : goal.returns-clause-longest
returns-clause-longest c bs n cs l p = pieces-longest bs n cs l p
