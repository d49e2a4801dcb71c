use Rattle.simd_json_theorems.proofs.Literals.Quotes.{string_at-literal}
use Rattle.simd_json_theorems.proofs.laws.strings.strings_are_read.Goals as goal

pub returns : goal.returns
returns c b i content rest cs = string_at-literal b i content rest cs
