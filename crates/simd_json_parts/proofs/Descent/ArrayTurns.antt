-- The bound on the turns of an array is never met: `elements_by` unfolds as if it had none.
use Rattle.std.proofs.Common.{◌≡◌, refl, ap, subst, ℕ, zero, suc, ◌<◌, ◌≤◌, List, [], ◌∷◌, length, arith}
use Rattle.std.specs.Prelude.{Result, Ok, Err, IfOk}
use Rattle.simd_json_parts.specs.Document.{Document, Elements, element}
use Rattle.simd_json_parts.specs.Tokens.{Token, Form, end_array, value_separator}
use Rattle.simd_json_parts.specs.Descent.{◌>>=◌, Reads, after_element, element_end, elements_from, elements_by}
use Rattle.simd_json_parts.specs.declared.error.Error.{Error}

-- where something was read, fewer than n tokens are left
abbrev pub Leaves : {A : Type 0} → Result (A × List Token) Error → ℕ → Type 0
Leaves r n = IfOk r (λ p. length p.1 < n)

-- what a reader of values owes: at least one token is taken, and none is no value
pub record TakesTokens (missing : Error) (value : Reads Document) : Type 0 where
  pub none : value [] ≡ Err missing
  pub some : (ts : List Token) → Leaves (value ts) (length ts)

module _ (b : List ℕ) (missing : Error) (value : Reads Document) (takes : TakesTokens missing value) where
  -- after an element only fewer tokens are read
  after_same : (more more' : Reads Elements) (ts : List Token) → ((us : List Token) → length us < length ts → more us ≡ more' us)
      → element_end b missing ts more ≡ element_end b missing ts more'
  after_same more more' [] same = refl
  after_same more more' (t ∷ ts) same = go t.form
    where
      go : (form : Form) → after_element b missing t form ts more ≡ after_element b missing t form ts more'
      go value_separator = same ts (omega arith)
      go end_array = refl
      go _ = refl

  -- one turn, which goes on with `more`
  abbrev pub turn : Result (Document × List Token) Error → Reads Elements → Result (Elements × List Token) Error
  turn r more = r >>= λ first. element_end b missing first.1 more >>= λ rest. Ok (element first.0 rest.0, rest.1)

  turn_same : (more more' : Reads Elements) (ts : List Token) (r : Result (Document × List Token) Error) → value ts ≡ r
      → ((us : List Token) → length us < length ts → more us ≡ more' us) → turn r more ≡ turn r more'
  turn_same more more' ts (Err e) is same = refl
  turn_same more more' ts (Ok (d, rest)) is same =
      ap (λ r. r >>= λ rest'. Ok (element d rest'.0, rest'.1)) (after_same more more' rest (λ us h.
      let shorter : length rest < length ts = subst (λ r. Leaves r (length ts)) is (takes.some ts) in
      same us (omega arith)))

  pub enough_turns : (m n : ℕ) (ts : List Token) → length ts ≤ m → length ts ≤ n
      → elements_from b missing value m ts ≡ elements_from b missing value n ts
  unfolding elements_from
  enough_turns zero zero ts l k = refl
  enough_turns zero (suc n) [] l k = rw takes.none refl
  enough_turns zero (suc n) (t ∷ ts) l k = absurd (omega arith)
  enough_turns (suc m) zero [] l k = rw takes.none refl
  enough_turns (suc m) zero (t ∷ ts) l k = absurd (omega arith)
  enough_turns (suc m) (suc n) ts l k = turn_same (elements_from b missing value m) (elements_from b missing value n) ts
      (value ts) refl (λ us h. enough_turns m n us (omega arith) (omega arith))

  -- One turn, with no bound in sight.
  pub elements_by-turn : (ts : List Token) → elements_by b missing value ts ≡ turn (value ts) (elements_by b missing value)
  unfolding elements_from
  elements_by-turn [] = rw takes.none refl
  elements_by-turn (t ∷ ts) =
      turn_same (elements_from b missing value (length ts)) (elements_by b missing value) (t ∷ ts) (value (t ∷ ts)) refl
      (λ us h. enough_turns (length ts) (length us) us (omega arith) (omega arith))
