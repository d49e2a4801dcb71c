use Rattle.std.proofs.Common.{◌≡◌, refl, sym, ◌∙◌, length, take, drop, ap, subst}
use Rattle.std.specs.Prelude.{MatchResult}
use Rattle.std.proofs.lemmas.List.{take-append-drop, length-take-le}
use Rattle.simd_json_parts.specs.Bytes.{is_terminator}
use Rattle.simd_json_scalars.specs.NumberRead.{IsNumberAt}
use Rattle.simd_json_scalars.specs.declared.numberparse.Number.TheVariants.{Integer, Invalid}
use Rattle.simd_json_scalars.proofs.Numbers.Literals.{byte_at-front}
use Rattle.simd_json_scalars.proofs.numberparse.integers.parse_long.Goals as goal

pub returns : goal.returns
returns c b i e =
    let l = c.args.bytes.now in
    let len = c.args.len in
    let size : length (take len l) ≡ len = length-take-le len l c.requires.0 in
    subst (λ k. MatchResult c.long_integer.result (λ node. IsNumberAt b i (Integer node k))
    (λ offset. IsNumberAt b i (Invalid offset))) size
    (c.long_integer.ensures b i (drop len l) (e ∙ sym (take-append-drop len l))
    (ap is_terminator (sym (byte_at-front l len (drop len l) refl)) ∙ c.requires.2))
