use Rattle.simd_json_scalars.proofs.Strings.Pieces.{encode_utf8_all-pieces}
use Rattle.simd_json_theorems.proofs.laws.strings.pieces_spell_one_string.Goals as goal

pub returns : goal.returns
returns c = encode_utf8_all-pieces
