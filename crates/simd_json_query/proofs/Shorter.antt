-- Text after a character is shorter.
use Rattle.std.proofs.Common.{◌≡◌, ap, ◌<◌, ℕ, List, [], ◌∷◌, ◌++◌, length, length-append, arith}
use Rattle.std.specs.Prelude.{encode_utf8}
use Rattle.std.proofs.lemmas.List.{append-nil}
use Rattle.std.proofs.lemmas.Str.{length-le-encodes}

encoded-some : (c : ℕ) → 0 < length (encode_utf8 c)
encoded-some c = omega (arith, length-le-encodes (c ∷ []), ap length (append-nil (encode_utf8 c)))

pub behind_shorter : (text rest : List ℕ) (c : ℕ) → text ≡ encode_utf8 c ++ rest → length rest < length text
behind_shorter text rest c is = omega (arith, ap length is, length-append (encode_utf8 c) rest, encoded-some c)
