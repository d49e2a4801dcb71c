-- The definitions that a worked row computes with: a row names them all by this one name.
use Rattle.std.proofs.Common.{ℕ}
use Rattle.std.specs.Str.{is_utf8, chars}
use Rattle.std.specs.Char.{encode_utf8}
use Rattle.simd_json_parts.specs.Positions.{backslashes_before, is_real_quote, real_quotes, is_inside, is_position, positions}
use Rattle.simd_json_parts.specs.Positions.{has_control_inside}
use Rattle.simd_json_parts.specs.InputFaults.{input_fault}
use Rattle.simd_json_parts.specs.AtomAt.{atom_at}
use Rattle.simd_json_parts.specs.NumberAt.{number_at}
use Rattle.simd_json_parts.specs.StringAt.{piece_at, read_pieces, closing_quote, string_at}
use Rattle.simd_json_parts.specs.Tokens.{tokens_from, form_at}
use Rattle.simd_json_parts.specs.Descent.{elements_from, members_from, value_from, descent}
use Rattle.simd_json_parts.specs.Answer.{answer}

unfoldable pub computes : ℕ
unfolding is_utf8 chars encode_utf8 backslashes_before is_real_quote real_quotes is_inside is_position positions has_control_inside
    input_fault atom_at number_at piece_at read_pieces closing_quote string_at tokens_from form_at elements_from members_from
    value_from descent answer
computes = 0
