-- Bytes that denote a document are UTF-8.
use Rattle.std.proofs.Common.{ℕ, ◌<◌, List, [], ◌∷◌, IsUtf8}
use Rattle.std.proofs.lemmas.Bool.{and_parts, ltb-true}
use Rattle.std.proofs.lemmas.Str.{IsUtf8-nil, IsUtf8-append, IsUtf8-encode, IsUtf8-from_ascii}
use Rattle.std.proofs.lemmas.Str.Ascii.{IsAscii-nil, IsAscii-cons}
use Rattle.simd_json_parts.specs.Document.{Document}
use Rattle.simd_json_parts.specs.Grammar.{Denotes}
use Rattle.simd_json_theorems.proofs.Complete.Concatenations.{IsClosed, of_denoted}
use Rattle.simd_json_theorems.proofs.Complete.StringBytes.{of_string}

IsClosed-IsUtf8 : IsClosed IsUtf8
IsClosed-IsUtf8 = record { nil = IsUtf8-nil; append = IsUtf8-append }

IsUtf8-byte : (c : ℕ) → c < 128 → IsUtf8 (c ∷ [])
IsUtf8-byte c l = IsUtf8-from_ascii (c ∷ []) (IsAscii-cons c [] l IsAscii-nil)

pub IsUtf8-Denotes : (b : List ℕ) (d : Document) → Denotes b d → IsUtf8 b
IsUtf8-Denotes =
    of_denoted IsUtf8 IsClosed-IsUtf8 (λ c h. IsUtf8-byte c (ltb-true c 128 (and_parts _ _ (and_parts _ _ h).0).0))
    (of_string IsUtf8 IsClosed-IsUtf8 (λ c h. IsUtf8-byte c (ltb-true c 128 (and_parts _ _ h).1)) (λ c scalar low. IsUtf8-encode c scalar))
