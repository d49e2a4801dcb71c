-- What is read where the list from an index on is known: space is passed, a token is read, and the rest stands after it.
use Rattle.std.proofs.Common.{◌≡◌, refl, ◌∙◌, ap, ℕ, suc, ◌+◌, ◌-◌, ◌≤◌, List, [], ◌∷◌, ◌++◌, drop, append_assoc, true, false, arith}
use Rattle.std.specs.Prelude.{Some, Result, Ok}
use Rattle.std.specs.Option.{option_map_or}
use Rattle.std.proofs.lemmas.Bool.{and_parts, or_right}
use Rattle.simd_json_parts.specs.Bytes.{is_whitespace, is_terminator, byte_at}
use Rattle.simd_json_parts.specs.Document.{Document}
use Rattle.simd_json_parts.specs.Grammar.{IsWhitespace, Spaced}
use Rattle.simd_json_parts.specs.StringAt.{string_at}
use Rattle.simd_json_parts.specs.Tokens.{Token, Form, string_token, scalar, form_of, form_at, form_end, after_token, tokens_from}
use Rattle.simd_json_parts.specs.Descent.{Reads}
use Rattle.simd_json_parts.specs.declared.error.Error.{Error}
use Rattle.simd_json_parts.proofs.Lists.Drops.{drop-head, drop-tail, drop-inside}
use Rattle.simd_json_parts.proofs.Positions.TokensAtPositions.{tokens_at, tokens_at-space, tokens_at-token, tokens_from-skip}

-- nothing, or a terminator, stands there
abbrev pub Ended : List ℕ → Type 0
Ended rest = is_terminator (byte_at rest 0) ≡ true

-- also after some space
pub ended-space : (space rest : List ℕ) → IsWhitespace space → Ended rest → Ended (space ++ rest)
ended-space [] rest w t = t
ended-space (x ∷ space) rest w t = or_right _ _ (and_parts (is_whitespace x) _ w).0

module _ (b : List ℕ) where
  -- a reader answered x, and the list after it is `rest`
  pub record Got {A : Type 0} (r : Result (A × List Token) Error) (x : A) (rest : List ℕ) : Type 0 where
    pub end : ℕ
    pub there : drop end b ≡ rest
    pub is : r ≡ Ok (x, tokens_at b end)

  -- a reader reads lists of this set as x, where they end
  abbrev pub ReadsHere : {A : Type 0} → Reads A → A → (List ℕ → Type 0) → Type 0
  ReadsHere read x P = (k : ℕ) (xs rest : List ℕ) → P xs → drop k b ≡ xs ++ rest → Ended rest → Got (read (tokens_at b k)) x rest

  -- a reader reads lists of this set as x, with the byte c after them
  abbrev pub ReadsUpTo : {A : Type 0} → ℕ → Reads A → A → (List ℕ → Type 0) → Type 0
  ReadsUpTo c read x P = (k : ℕ) (xs rest : List ℕ) → P xs → drop k b ≡ xs ++ c ∷ rest → Got (read (tokens_at b k)) x rest

  -- the index after some space, from which the tokens are the same
  pub record AfterSpace (k : ℕ) (rest : List ℕ) : Type 0 where
    pub end : ℕ
    pub there : drop end b ≡ rest
    pub same : tokens_at b k ≡ tokens_at b end

  -- Space is passed.
  pub past_space : (k : ℕ) (space rest : List ℕ) → IsWhitespace space → drop k b ≡ space ++ rest → AfterSpace k rest
  past_space k [] rest w e = record { end = k; there = e; same = refl }
  past_space k (x ∷ space) rest w e =
      let both : (is_whitespace x ≡ true) × IsWhitespace space = and_parts _ _ w in
      let p : AfterSpace (suc k) rest = past_space (suc k) space rest both.1 (drop-tail k b x (space ++ rest) e) in
      let white : is_whitespace (byte_at b k) ≡ true = ap is_whitespace (drop-head k b x (space ++ rest) e) ∙ both.0 in
      record { end = p.end; there = p.there; same = tokens_at-space b k (drop-inside k b x (space ++ rest) e) white ∙ p.same }

  -- What is read by itself is read with space around it.
  pub spaced : {A : Type 0} (read : Reads A) (x : A) (P : List ℕ → Type 0) → ReadsHere read x P → ReadsHere read x (Spaced P)
  spaced read x P reads k xs rest s e t =
      let regrouped : xs ++ rest ≡ s.before ++ (s.inner ++ (s.after ++ rest)) =
      ap (λ us. us ++ rest) s.whole ∙ append_assoc (s.before ++ s.inner) s.after rest ∙ append_assoc s.before s.inner (s.after ++ rest) in
      let p : AfterSpace k (s.inner ++ (s.after ++ rest)) =
      past_space k s.before (s.inner ++ (s.after ++ rest)) s.before_space (e ∙ regrouped) in
      let g : Got (read (tokens_at b p.end)) x (s.after ++ rest) =
      reads p.end s.inner (s.after ++ rest) s.holds p.there (ended-space s.after rest s.after_space t) in
      let q : AfterSpace g.end rest = past_space g.end s.after rest s.after_space g.there in
      record { end = q.end; there = q.there; is = ap read p.same ∙ g.is ∙ ap (λ ts. Ok (x, ts)) q.same }

  -- ---- tokens

  -- a token of this form at index k, and those after it
  after : (k : ℕ) → Form → List Token
  after k form = record { index = k; form = form } ∷ after_token k form (λ n. tokens_from b (suc k) n (drop (suc k) b))

  -- A token at index k, by its first byte.
  token_here : (k c : ℕ) (rest : List ℕ) (form : Form) → drop k b ≡ c ∷ rest → is_whitespace c ≡ false → form_of b k c ≡ form
      → tokens_at b k ≡ record { index = k; form = form } ∷ after_token k form (λ n. tokens_from b (suc k) n (drop (suc k) b))
  unfolding form_at after
  token_here k c rest form e token is =
      let first : byte_at b k ≡ c = drop-head k b c rest e in
      tokens_at-token b k (drop-inside k b c rest e) (ap is_whitespace first ∙ token) ∙ ap (after k) (ap (form_of b k) first ∙ is)

  -- A token that has an end has the tokens from there on after it:
  ended_here : (k end c : ℕ) (rest : List ℕ) (form : Form) → suc k ≤ end → form_end k form ≡ Some end → drop k b ≡ c ∷ rest
      → is_whitespace c ≡ false → form_of b k c ≡ form
      → tokens_at b k ≡ record { index = k; form = form } ∷ tokens_at b end
  ended_here k end c rest form l ends e token is =
      let there : suc k + (end - suc k) ≡ end = omega arith in
      token_here k c rest form e token is
      ∙ ap (λ o. record { index = k; form = form } ∷ option_map_or (λ end. tokens_from b (suc k) (end - suc k) (drop (suc k) b)) o []) ends
      ∙ ap (λ ts. record { index = k; form = form } ∷ ts) (tokens_from-skip b (suc k) (end - suc k) ∙ ap (tokens_at b) there)

  -- a structural character,
  pub byte_here : (k c : ℕ) (rest : List ℕ) (form : Form) → form_end k form ≡ Some (suc k) → drop k b ≡ c ∷ rest
      → is_whitespace c ≡ false → form_of b k c ≡ form
      → tokens_at b k ≡ record { index = k; form = form } ∷ tokens_at b (suc k)
  byte_here k c rest form ends e token is = ended_here k (suc k) c rest form (omega arith) ends e token is

  -- and a string and a scalar that are read.
  module _ (k end : ℕ) (rest : List ℕ) (l : suc k ≤ end) where
    pub string_here : (string : List ℕ) → drop k b ≡ 34 ∷ rest → string_at b k ≡ Ok (string, end)
        → tokens_at b k ≡ record { index = k; form = string_token (Ok (string, end)) } ∷ tokens_at b end
    string_here string e is = ended_here k end 34 rest (string_token (Ok (string, end))) l refl e refl (ap string_token is)

    pub scalar_here : (c : ℕ) (d : Document) → drop k b ≡ c ∷ rest → is_whitespace c ≡ false → form_of b k c ≡ scalar (Ok (d, end))
        → tokens_at b k ≡ record { index = k; form = scalar (Ok (d, end)) } ∷ tokens_at b end
    scalar_here c d e token is = ended_here k end c rest (scalar (Ok (d, end))) l refl e token is
