use Rattle.simd_json_scalars.proofs.Strings.Standalone.{closing_quote-inside}
use Rattle.simd_json_theorems.proofs.laws.strings.opened_strings_are_closed.Goals as goal

pub returns : goal.returns
returns c = closing_quote-inside
