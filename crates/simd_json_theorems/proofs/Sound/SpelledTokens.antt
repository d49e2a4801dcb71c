-- Which bytes tokens stand for: space, the bytes of the first token, and what the others stand for.
use Rattle.std.proofs.Common.{◌≡◌, ◌∙◌, ap, ℕ, ◌≤◌, List, [], ◌∷◌, ◌++◌, drop, true}
use Rattle.std.specs.Prelude.{Result, Ok, Err, IfOk}
use Rattle.simd_json_parts.specs.Bytes.{comma, colon, left_bracket, right_bracket, left_brace, right_brace}
use Rattle.simd_json_parts.specs.Document.{Document}
use Rattle.simd_json_parts.specs.Limits.{depth, IntegersFit}
use Rattle.simd_json_parts.specs.Grammar.{IsWhitespace, IsValue}
use Rattle.simd_json_parts.specs.Strings.{IsStringLiteral}
use Rattle.simd_json_parts.specs.Tokens.{Token, Form, begin_array, end_array, begin_object, end_object, name_separator}
use Rattle.simd_json_parts.specs.Tokens.{value_separator, string_token, scalar}
use Rattle.simd_json_parts.specs.TokensAlong.{goes_on}
use Rattle.simd_json_parts.specs.Descent.{◌>>=◌}
use Rattle.simd_json_parts.specs.declared.error.Error.{Error}

-- the bytes are the document, its integers fit, and it nests no deeper than the levels allow
pub record Accepted (levels : ℕ) (d : Document) (bs : List ℕ) : Type 0 where
  pub denotes : IsValue d bs
  pub integers : IntegersFit d
  pub nesting : depth d ≤ levels

-- space, a list of the first set, and then one of the second
pub record Prefix (P Q : List ℕ → Type 0) (bs : List ℕ) : Type 0 where
  pub before : List ℕ
  pub inner : List ℕ
  pub left : List ℕ
  pub whole : bs ≡ before ++ (inner ++ left)
  pub space : IsWhitespace before
  pub holds : P inner
  pub more : Q left

-- the bytes of a token of this form; there are none of a token that has a fault or is stray
abbrev pub IsOwn : Form → List ℕ → Type 0
IsOwn begin_array bs = bs ≡ left_bracket ∷ []
IsOwn end_array bs = bs ≡ right_bracket ∷ []
IsOwn begin_object bs = bs ≡ left_brace ∷ []
IsOwn end_object bs = bs ≡ right_brace ∷ []
IsOwn name_separator bs = bs ≡ colon ∷ []
IsOwn value_separator bs = bs ≡ comma ∷ []
IsOwn (string_token (Ok r)) bs = IsStringLiteral bs r.0
IsOwn (scalar (Ok r)) bs = Accepted 0 r.0 bs
IsOwn _ bs = ⊥

-- The bytes are these tokens, as far as they go on: nothing is said of bytes from a token that has a fault or is stray.
abbrev pub AreTokens : List Token → List ℕ → Type 0
AreTokens [] bs = IsWhitespace bs
AreTokens (t ∷ ts) bs = goes_on t.form ≡ true → Prefix (IsOwn t.form) (AreTokens ts) bs

-- a token of this form, with these after it
abbrev pub FormSpelled : Form → List Token → List ℕ → Type 0
FormSpelled form ts bs = goes_on form ≡ true → Prefix (IsOwn form) (AreTokens ts) bs

-- ---- what a reader answers of them

-- What the first reader owes is known to the second.
pub bind-IfOk : {A B : Type 0} (r : Result A Error) (f : A → Result B Error) (P : A → Type 0) (Q : B → Type 0) → IfOk r P
    → ((x : A) → P x → IfOk (f x) Q) → IfOk (r >>= f) Q
bind-IfOk (Ok x) f P Q p step = step x p
bind-IfOk (Err e) f P Q p step = tt

-- a list of the set up to a closing byte, and then these tokens
pub record Closed (P : List ℕ → Type 0) (c : ℕ) (ts : List Token) (bs : List ℕ) : Type 0 where
  pub inner : List ℕ
  pub left : List ℕ
  pub whole : bs ≡ inner ++ c ∷ left
  pub holds : P inner
  pub more : AreTokens ts left

-- the same after space
pub record SpaceClosed (P : List ℕ → Type 0) (c : ℕ) (ts : List Token) (bs : List ℕ) : Type 0 where
  pub after : List ℕ
  pub inner : List ℕ
  pub left : List ℕ
  pub whole : bs ≡ after ++ (inner ++ c ∷ left)
  pub space : IsWhitespace after
  pub holds : P inner
  pub more : AreTokens ts left

-- At a comma, what is read after it goes on with the comma.
pub after_comma : {A : Type 0} (P Q : A → List ℕ → Type 0) (c : ℕ) → ((x : A) (bs : List ℕ) → P x bs → Q x (comma ∷ bs))
    → (ts : List Token) (bs : List ℕ) → Prefix (λ xs. xs ≡ comma ∷ []) (AreTokens ts) bs
    → (r : Result (A × List Token) Error) → ((cs : List ℕ) → AreTokens ts cs → IfOk r (λ p. Closed (P p.0) c p.1 cs))
    → IfOk r (λ p. SpaceClosed (Q p.0) c p.1 bs)
after_comma P Q c step ts bs f (Ok p) row =
    let g : Closed (P p.0) c p.1 f.left = row f.left f.more in
    record {
      after = f.before;
      inner = comma ∷ g.inner;
      left = g.left;
      whole = f.whole ∙ ap (λ xs. f.before ++ (xs ++ f.left)) f.holds ∙ ap (λ xs. f.before ++ (comma ∷ xs)) g.whole;
      space = f.space;
      holds = step p.0 g.inner g.holds;
      more = g.more;
    }
after_comma P Q c step ts bs f (Err e) row = tt

-- At the closing byte nothing stands before it.
pub at_close : (P : List ℕ → Type 0) (c : ℕ) (ts : List Token) (bs : List ℕ) → P []
    → Prefix (λ xs. xs ≡ c ∷ []) (AreTokens ts) bs → SpaceClosed P c ts bs
at_close P c ts bs nothing f =
    record {
      after = f.before;
      inner = [];
      left = f.left;
      whole = f.whole ∙ ap (λ xs. f.before ++ (xs ++ f.left)) f.holds;
      space = f.space;
      holds = nothing;
      more = f.more;
    }

-- At the closing byte only space stands before it,
pub nothing_closed : (P : List ℕ → Type 0) (c : ℕ) (ts : List Token) (bs : List ℕ) → ((xs : List ℕ) → IsWhitespace xs → P xs)
    → Prefix (λ xs. xs ≡ c ∷ []) (AreTokens ts) bs → Closed P c ts bs
nothing_closed P c ts bs empty f = record {
  inner = f.before;
  left = f.left;
  whole = f.whole ∙ ap (λ xs. f.before ++ (xs ++ f.left)) f.holds;
  holds = empty f.before f.space;
  more = f.more;
}

-- and what is of one set is of a greater.
pub weaken_closed : {A : Type 0} (P Q : A → List ℕ → Type 0) (c : ℕ) (bs : List ℕ) → ((x : A) (xs : List ℕ) → P x xs → Q x xs)
    → (r : Result (A × List Token) Error) → IfOk r (λ p. Closed (P p.0) c p.1 bs) → IfOk r (λ p. Closed (Q p.0) c p.1 bs)
weaken_closed P Q c bs step (Ok p) g =
    record { inner = g.inner; left = g.left; whole = g.whole; holds = step p.0 g.inner g.holds; more = g.more }
weaken_closed P Q c bs step (Err e) g = tt

-- a list of the set stands at index k of b, up to `end`
pub record Owned (b : List ℕ) (k : ℕ) (P : List ℕ → Type 0) (end : ℕ) : Type 0 where
  pub own : List ℕ
  pub split : drop k b ≡ own ++ drop end b
  pub holds : P own
