-- How an input is cut at its first line feed, as a search for it says.
use Rattle.std.proofs.Common.{◌≡◌, ◌∙◌, ap, sym, ℕ, List, [], ◌∷◌, take, drop, Some, None}
use Rattle.memchr.specs.Find.{IsFirstByte, is_byte}
use Rattle.simd_json_parts.proofs.Pieces.{cut-at, uncut}
use Rattle.simd_json_parts.specs.Bytes.{line_feed}
use Rattle.simd_json_parts.specs.Pieces.{pieces}

pub found-cut : (hay piece after more : List ℕ) (k : ℕ) → IsFirstByte (is_byte line_feed) hay (Some k) → piece ≡ take k hay
    → after ≡ drop k hay → more ≡ drop 1 after → pieces hay ≡ piece ∷ pieces more
found-cut hay piece after more k found front back next =
    let is : more ≡ drop 1 (drop k hay) = next ∙ ap (drop 1) back in
    cut-at hay k found.0.high found.0.before found.1
    ∙ ap (λ p. p ∷ pieces (drop 1 (drop k hay))) (sym front) ∙ ap (λ b. piece ∷ pieces b) (sym is)

pub not_found-last : (hay : List ℕ) → IsFirstByte (is_byte line_feed) hay None → pieces hay ≡ hay ∷ []
not_found-last hay none = uncut hay none
