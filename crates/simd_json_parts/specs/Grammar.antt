-- The grammar: which bytes are which document (RFC 8259, sections 2 to 7). By cases on the document and by
-- concatenation. Acceptance rests on it.
use Rattle.std.specs.Prelude.{◌≡◌, ℕ, List, [], ◌∷◌, ◌++◌, true, false, codes, IsTrue}
use Rattle.std.specs.List.{list_all}
use Rattle.simd_json_parts.specs.Bytes.{is_whitespace, comma, colon, left_bracket, right_bracket, left_brace, right_brace}
use Rattle.simd_json_parts.specs.Document.{Document, null, boolean, integer, decimal, string, array, object, Elements}
use Rattle.simd_json_parts.specs.Document.{no_elements, element, Members, no_members, member}
use Rattle.simd_json_parts.specs.Patterns.{Matches}
use Rattle.simd_json_parts.specs.Numbers.{integer_literal, decimal_literal, has_minus, magnitude}
use Rattle.simd_json_parts.specs.Strings.{IsStringLiteral}

abbrev pub IsWhitespace : List ℕ → Type 0
IsWhitespace bs = IsTrue (list_all is_whitespace bs)

-- whitespace, a list of the set, whitespace
pub record Spaced (P : List ℕ → Type 0) (bs : List ℕ) : Type 0 where
  pub before : List ℕ
  pub inner : List ℕ
  pub after : List ℕ
  pub whole : bs ≡ before ++ inner ++ after
  pub before_space : IsWhitespace before
  pub after_space : IsWhitespace after
  pub holds : P inner

-- a list of the first set, and then one of the second
pub record Joined (P Q : List ℕ → Type 0) (bs : List ℕ) : Type 0 where
  pub left : List ℕ
  pub right : List ℕ
  pub whole : bs ≡ left ++ right
  pub left_holds : P left
  pub right_holds : Q right

-- the byte, and then a list of the set
abbrev pub After : ℕ → (List ℕ → Type 0) → List ℕ → Type 0
After c P bs = (rest : List ℕ) × (bs ≡ c ∷ rest) × P rest

-- a list of the set between two bytes
abbrev pub Between : ℕ → (List ℕ → Type 0) → ℕ → List ℕ → Type 0
Between first P last bs = (inner : List ℕ) × (bs ≡ first ∷ (inner ++ last ∷ [])) × P inner

abbrev mutual
  pub IsValue : Document → List ℕ → Type 0
  IsValue null bs = bs ≡ codes "null"
  IsValue (boolean true) bs = bs ≡ codes "true"
  IsValue (boolean false) bs = bs ≡ codes "false"
  IsValue (integer minus n) bs = Matches integer_literal bs × (has_minus bs ≡ minus) × (magnitude bs ≡ n)
  IsValue (decimal literal) bs = Matches decimal_literal bs × (bs ≡ literal)
  IsValue (string t) bs = IsStringLiteral bs t
  IsValue (array ds) bs = Between left_bracket (AreElements ds) right_bracket bs
  IsValue (object ms) bs = Between left_brace (AreMembers ms) right_brace bs

  -- what stands between the brackets
  pub AreElements : Elements → List ℕ → Type 0
  AreElements no_elements bs = IsWhitespace bs
  AreElements (element d ds) bs = Joined (Spaced (IsValue d)) (AreMoreElements ds) bs

  -- each after a comma
  pub AreMoreElements : Elements → List ℕ → Type 0
  AreMoreElements no_elements bs = bs ≡ []
  AreMoreElements (element d ds) bs = After comma (Joined (Spaced (IsValue d)) (AreMoreElements ds)) bs

  -- what stands between the braces
  pub AreMembers : Members → List ℕ → Type 0
  AreMembers no_members bs = IsWhitespace bs
  AreMembers (member k d ms) bs =
      Joined (Spaced (λ name. IsStringLiteral name k))
      (After colon (Joined (Spaced (IsValue d)) (AreMoreMembers ms))) bs

  pub AreMoreMembers : Members → List ℕ → Type 0
  AreMoreMembers no_members bs = bs ≡ []
  AreMoreMembers (member k d ms) bs =
      After comma (Joined (Spaced (λ name. IsStringLiteral name k))
      (After colon (Joined (Spaced (IsValue d)) (AreMoreMembers ms)))) bs

-- the bytes are this document
abbrev pub Denotes : List ℕ → Document → Type 0
Denotes bs d = Spaced (IsValue d) bs
