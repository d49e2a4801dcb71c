-- The content of a string, from the bytes after its opening quote alone. It serves proofs: only the crate's private
-- clauses cite it.
use Rattle.std.specs.Prelude.{ℕ, List, [], ◌∷◌, ◌++◌, Bool, true, false, not, ◌||◌, ◌==◌, if◌then◌else◌}
use Rattle.simd_json_parts.specs.Bytes.{quote, backslash}

-- up to the next quote that no backslash escapes, or to the end; `escaped` says whether the first byte is escaped
unfoldable pub content_from : Bool → List ℕ → List ℕ
content_from escaped [] = []
content_from true (x ∷ xs) = x ∷ content_from false xs
content_from false (x ∷ xs) = if x == quote then [] else x ∷ content_from (x == backslash) xs

abbrev pub content : List ℕ → List ℕ
content bs = content_from false bs

-- where plain bytes end
abbrev pub is_stop : ℕ → Bool
is_stop c = (c == quote) || (c == backslash)

-- neither a quote nor a backslash
abbrev pub is_plain : ℕ → Bool
is_plain c = not (is_stop c)

-- a prefix, and what is read after it
abbrev pub with_prefix : List ℕ → List ℕ × List ℕ → List ℕ × List ℕ
with_prefix string read = (string ++ read.0, read.1)
