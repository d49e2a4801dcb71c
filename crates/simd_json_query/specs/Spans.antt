-- Parts of a text, in the manner of RFC 9535's grammar: each relates a text, in UTF-8, to what is left of it after the
-- part.
use Rattle.std.specs.Prelude.{◌≡◌, ◌⊎◌, ℕ, List, [], ◌∷◌, ◌++◌, Bool, true, encode_utf8, encode_utf8_all}
use Rattle.std.specs.List.{list_all}

infixr 60 ◌then◌
infixr 50 ◌or◌
-- one part, and then the other
abbrev pub ◌then◌ : (List ℕ → List ℕ → Type 0) → (List ℕ → List ℕ → Type 0) → List ℕ → List ℕ → Type 0
(P then Q) text rest = (between : List ℕ) × P text between × Q between rest

-- one of two parts
abbrev pub ◌or◌ : (List ℕ → List ℕ → Type 0) → (List ℕ → List ℕ → Type 0) → List ℕ → List ℕ → Type 0
(P or Q) text rest = P text rest ⊎ Q text rest

-- no text is such a part
abbrev pub Nothing : List ℕ → List ℕ → Type 0
Nothing text rest = ⊥

-- the part of no characters
abbrev pub Empty : List ℕ → List ℕ → Type 0
Empty text rest = text ≡ rest

-- parts one after the other
abbrev pub Many : {A : Type 0} → (A → List ℕ → List ℕ → Type 0) → List A → List ℕ → List ℕ → Type 0
Many P [] = Empty
Many P (x ∷ xs) = P x then Many P xs

-- a character
abbrev pub Mark : ℕ → List ℕ → List ℕ → Type 0
Mark c text rest = text ≡ encode_utf8 c ++ rest

-- these characters, each of a kind
pub record Run (is_kind : ℕ → Bool) (cs text rest : List ℕ) : Type 0 where
  pub whole : text ≡ encode_utf8_all cs ++ rest
  pub kind : list_all is_kind cs ≡ true
