-- What the descent answers is denoted: where tokens stand for bytes, what is read of them is what a prefix of the bytes denotes.
use Rattle.std.proofs.Common.{◌≡◌, refl, sym, ◌∙◌, ap, ℕ, zero, suc, ◌≤◌, List, [], ◌∷◌, ◌++◌, append_assoc, arith}
use Rattle.std.specs.Prelude.{Result, Ok, Err, IfOk}
use Rattle.simd_json_parts.specs.Bytes.{left_bracket, right_bracket, left_brace, right_brace}
use Rattle.simd_json_parts.specs.Document.{Document, string, array, object, Elements, Members}
use Rattle.simd_json_parts.specs.Limits.{depth, IntegersFit}
use Rattle.simd_json_parts.specs.Grammar.{AreElements, AreMembers, Denotes}
use Rattle.simd_json_parts.specs.Tokens.{Token, tokens, Form, begin_array, begin_object, string_token, scalar}
use Rattle.simd_json_parts.specs.Descent.{Reads, array_from, object_from, value_of, value_with, too_deep, value_from, last_index}
use Rattle.simd_json_parts.specs.Descent.{root_end, descent}
use Rattle.simd_json_parts.specs.Faults.{fault_at}
use Rattle.simd_json_parts.specs.declared.error.Error.{Error}
use Rattle.simd_json_parts.specs.declared.error.ErrorType.TheVariants.{Syntax}
use Rattle.simd_json_theorems.proofs.Sound.SpelledTokens.{Accepted, Prefix, FormSpelled, AreTokens, Closed, bind-IfOk}
use Rattle.simd_json_theorems.proofs.Sound.Containers.{AcceptedElements, AcceptedMembers, array_from-sound, object_from-sound}

-- a document of this depth at the front of the bytes
abbrev IsDocumentRead : ℕ → List ℕ → Document × List Token → Type 0
IsDocumentRead levels bs p = Prefix (Accepted levels p.0) (AreTokens p.1) bs

-- What is answered has any weaker property too.
weaken : {A : Type 0} (r : Result A Error) (P Q : A → Type 0) → ((x : A) → P x → Q x) → IfOk r P → IfOk r Q
weaken (Ok x) P Q step p = step x p
weaken (Err e) P Q step p = tt

-- What stands between two brackets is a document with them.
bracketed : (levels first last : ℕ) (P : List ℕ → Type 0) (d : Document) (ts us : List Token) (bs : List ℕ)
    → ((xs : List ℕ) → P xs → Accepted levels d (first ∷ (xs ++ last ∷ [])))
    → (f : Prefix (λ xs. xs ≡ first ∷ []) (AreTokens ts) bs) → Closed P last us f.left → IsDocumentRead levels bs (d, us)
bracketed levels first last P d ts us bs accept f g = record {
  before = f.before;
  inner = first ∷ (g.inner ++ last ∷ []);
  left = g.left;
  whole = f.whole ∙ ap (λ xs. f.before ++ (xs ++ f.left)) f.holds
      ∙ ap (λ xs. f.before ++ (first ∷ xs)) g.whole ∙ simp append_assoc;
  space = f.space;
  holds = accept g.inner g.holds;
  more = g.more;
}

-- Elements and members nest one level less.
an_array : (levels : ℕ) (ds : Elements) (ts us : List Token) (bs : List ℕ) (f : Prefix (λ xs. xs ≡ left_bracket ∷ []) (AreTokens ts) bs)
    → Closed (AcceptedElements AreElements levels ds) right_bracket us f.left → IsDocumentRead (suc levels) bs (array ds, us)
an_array levels ds ts us bs = bracketed (suc levels) left_bracket right_bracket _ (array ds) ts us bs
    (λ xs h. record { denotes = (xs, refl, h.denotes); integers = h.integers; nesting = omega (arith, h.nesting) })

an_object : (levels : ℕ) (ms : Members) (ts us : List Token) (bs : List ℕ) (f : Prefix (λ xs. xs ≡ left_brace ∷ []) (AreTokens ts) bs)
    → Closed (AcceptedMembers AreMembers levels ms) right_brace us f.left → IsDocumentRead (suc levels) bs (object ms, us)
an_object levels ms ts us bs = bracketed (suc levels) left_brace right_brace _ (object ms) ts us bs
    (λ xs h. record { denotes = (xs, refl, h.denotes); integers = h.integers; nesting = omega (arith, h.nesting) })

-- A string and a scalar are documents at any number of levels.
leaf : (levels : ℕ) (P : List ℕ → Type 0) (d : Document) (ts : List Token) (bs : List ℕ)
    → ((xs : List ℕ) → P xs → Accepted levels d xs) → Prefix P (AreTokens ts) bs → IsDocumentRead levels bs (d, ts)
leaf levels P d ts bs accept f = record {
  before = f.before;
  inner = f.inner;
  left = f.left;
  whole = f.whole;
  space = f.space;
  holds = accept f.inner f.holds;
  more = f.more;
}

module _ (b : List ℕ) (missing : Error) where
  -- A value is read, given what the readers of containers owe.
  value_with-sound : (levels : ℕ) (arrays : Token → Reads Elements) (objects : Token → Reads Members)
      → ((t : Token) (ts : List Token) (bs : List ℕ) → Prefix (λ xs. xs ≡ left_bracket ∷ []) (AreTokens ts) bs
      → IfOk (arrays t ts) (λ p. IsDocumentRead levels bs (array p.0, p.1)))
      → ((t : Token) (ts : List Token) (bs : List ℕ) → Prefix (λ xs. xs ≡ left_brace ∷ []) (AreTokens ts) bs
      → IfOk (objects t ts) (λ p. IsDocumentRead levels bs (object p.0, p.1)))
      → (ts : List Token) (bs : List ℕ) → AreTokens ts bs → IfOk (value_with b missing arrays objects ts) (IsDocumentRead levels bs)
  value_with-sound levels arrays objects a o [] bs h = tt
  value_with-sound levels arrays objects a o (t ∷ ts) bs h = go t.form h
    where
      go : (form : Form) → FormSpelled form ts bs → IfOk (value_of b missing arrays objects t form ts) (IsDocumentRead levels bs)
      go begin_array h = bind-IfOk (arrays t ts) _ (λ p. IsDocumentRead levels bs (array p.0, p.1)) (IsDocumentRead levels bs)
          (a t ts bs (h refl)) (λ p g. g)
      go begin_object h = bind-IfOk (objects t ts) _ (λ p. IsDocumentRead levels bs (object p.0, p.1)) (IsDocumentRead levels bs)
          (o t ts bs (h refl)) (λ p g. g)
      go (string_token (Ok r)) h =
          leaf levels _ (string r.0) ts bs (λ xs m. record { denotes = m; integers = tt; nesting = omega arith }) (h refl)
      go (string_token (Err e)) h = tt
      go (scalar (Ok r)) h = leaf levels (Accepted 0 r.0) r.0 ts bs
          (λ xs m. record { denotes = m.denotes; integers = m.integers; nesting = omega (arith, m.nesting) }) (h refl)
      go (scalar (Err e)) h = tt
      go _ h = tt

  -- What is read of tokens is denoted, its integers fit, and it nests no deeper than the levels allow.
  value_from-sound : (levels : ℕ) (ts : List Token) (bs : List ℕ) → AreTokens ts bs
      → IfOk (value_from b missing levels ts) (IsDocumentRead levels bs)
  unfolding value_from
  value_from-sound zero = value_with-sound zero (too_deep b missing) (too_deep b missing) (λ t ts bs f. tt) (λ t ts bs f. tt)
  value_from-sound (suc levels) =
      value_with-sound (suc levels) _ _
      (λ t ts bs f. weaken (array_from b missing (value_from b missing levels) ts) _ _ (λ p. an_array levels p.0 ts p.1 bs f)
      (array_from-sound b missing levels (value_from b missing levels) (value_from-sound levels) ts f.left f.more))
      (λ t ts bs f. weaken (object_from b missing (value_from b missing levels) ts) _ _ (λ p. an_object levels p.0 ts p.1 bs f)
      (object_from-sound b missing levels (value_from b missing levels) (value_from-sound levels) ts f.left f.more))

-- Where the bytes of the input are its tokens, what the descent answers is what the whole input denotes.
pub descent-sound : (b : List ℕ) (limit : ℕ) → AreTokens (tokens b) b
    → IfOk (descent b limit) (λ d. Denotes b d × IntegersFit d × (depth d ≤ limit))
unfolding descent
descent-sound b limit h =
    let missing : Error = fault_at b Syntax (last_index (tokens b)) in
    bind-IfOk (value_from b missing limit (tokens b)) (root_end b (tokens b)) (IsDocumentRead limit b) _
    (value_from-sound b missing limit (tokens b) b h) root
  where
    root : (p : Document × List Token) → IsDocumentRead limit b p
        → IfOk (root_end b (tokens b) p) (λ d. Denotes b d × IntegersFit d × (depth d ≤ limit))
    root (d, []) f = (
      record {
        before = f.before;
        inner = f.inner;
        after = f.left;
        whole = f.whole ∙ sym (append_assoc f.before f.inner f.left);
        before_space = f.space;
        after_space = f.more;
        holds = (f.holds).denotes;
      },
      (f.holds).integers,
      (f.holds).nesting,
    )
    root (d, t ∷ ts) f = tt
