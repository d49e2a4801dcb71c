use Rattle.simd_json_scalars.proofs.Strings.Standalone.{string_at-further, closing_quote-further, utf8-opening}
use Rattle.simd_json_theorems.proofs.laws.strings.strings_stand_by_themselves.Goals as goal

pub returns : goal.returns
returns c = record { string = string_at-further; closing = closing_quote-further; utf8 = utf8-opening }
