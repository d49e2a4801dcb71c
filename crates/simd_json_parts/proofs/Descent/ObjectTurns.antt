-- The bound on the turns of an object is never met: `members_by` unfolds as if it had none.
use Rattle.std.proofs.Common.{◌≡◌, refl, ap, ℕ, zero, suc, ◌<◌, ◌≤◌, List, [], ◌∷◌, length, arith}
use Rattle.std.specs.Prelude.{Result, Ok, Err, IfOk}
use Rattle.simd_json_parts.specs.Document.{Document, Members, member}
use Rattle.simd_json_parts.specs.Tokens.{Token, Form, end_object, value_separator}
use Rattle.simd_json_parts.specs.Descent.{◌>>=◌, Reads, name_from, name_end, after_member, member_end, members_from, members_by}
use Rattle.simd_json_parts.specs.declared.error.Error.{Error}
use Rattle.simd_json_parts.specs.declared.error.ErrorType.{ErrorType}
use Rattle.simd_json_parts.specs.declared.error.ErrorType.TheVariants.{ExpectedObjectKey}
use Rattle.simd_json_parts.proofs.Descent.ArrayTurns.{TakesTokens}
use Rattle.simd_json_parts.proofs.Descent.Shrinking.{name_from-leaves, name_end-leaves}

-- what goes on alike from each answer goes on alike
bind_same : {A B : Type 0} (r : Result A Error) (f g : A → Result B Error) (P : A → Type 0) → IfOk r P
    → ((x : A) → P x → f x ≡ g x) → (r >>= f) ≡ (r >>= g)
bind_same (Ok x) f g P p same = same x p
bind_same (Err e) f g P p same = refl

module _ (b : List ℕ) (missing : Error) (value : Reads Document) (takes : TakesTokens missing value) where
  -- what follows a value, a colon and a name in one turn, which goes on with `more`
  abbrev pub rest_after_value : Reads Members → List ℕ → Document × List Token → Result (Members × List Token) Error
  rest_after_value more name first = member_end b missing first.1 more >>= λ rest. Ok (member name first.0 rest.0, rest.1)

  abbrev pub after_colon : Reads Members → List ℕ → List Token → Result (Members × List Token) Error
  after_colon more name ts = value ts >>= rest_after_value more name

  abbrev pub rest_after_name : Reads Members → List ℕ × List Token → Result (Members × List Token) Error
  rest_after_name more name = name_end b missing name.1 >>= after_colon more name.0

  -- after a member only fewer tokens are read
  after_same : (more more' : Reads Members) (ts : List Token) → ((us : List Token) → length us < length ts → more us ≡ more' us)
      → member_end b missing ts more ≡ member_end b missing ts more'
  after_same more more' [] same = refl
  after_same more more' (t ∷ ts) same = go t.form
    where
      go : (form : Form) → after_member b missing t form ts more ≡ after_member b missing t form ts more'
      go value_separator = same ts (omega arith)
      go end_object = refl
      go _ = refl

  -- so a turn may go on with any reader that is the same on fewer tokens
  turn_same : (more more' : Reads Members) (kind : ErrorType) (ts : List Token)
      → ((us : List Token) → length us < length ts → more us ≡ more' us)
      → (name_from b missing kind ts >>= rest_after_name more) ≡ (name_from b missing kind ts >>= rest_after_name more')
  turn_same more more' kind ts same =
      bind_same (name_from b missing kind ts) _ _ (λ p. length p.1 < length ts) (name_from-leaves b missing value takes.some kind ts)
      (λ name h. bind_same (name_end b missing name.1) _ _ (λ us. length us < length name.1)
      (name_end-leaves b missing value takes.some name.1)
      (λ colon i. bind_same (value colon) _ _ (λ p. length p.1 < length colon) (takes.some colon)
      (λ first j. ap (λ r. r >>= λ rest. Ok (member name.0 first.0 rest.0, rest.1))
      (after_same more more' first.1 (λ us k. same us (omega arith))))))

  -- as many turns as tokens are enough
  enough_turns : (m n : ℕ) (kind : ErrorType) (ts : List Token) → length ts ≤ m → length ts ≤ n
      → members_from b missing value m kind ts ≡ members_from b missing value n kind ts
  unfolding members_from
  enough_turns zero zero kind ts l k = refl
  enough_turns zero (suc n) kind [] l k = refl
  enough_turns zero (suc n) kind (t ∷ ts) l k = absurd (omega arith)
  enough_turns (suc m) zero kind [] l k = refl
  enough_turns (suc m) zero kind (t ∷ ts) l k = absurd (omega arith)
  enough_turns (suc m) (suc n) kind ts l k =
      turn_same (members_from b missing value m ExpectedObjectKey) (members_from b missing value n ExpectedObjectKey) kind ts
      (λ us h. enough_turns m n ExpectedObjectKey us (omega arith) (omega arith))

  -- One turn, with no bound in sight.
  pub members_by-turn : (kind : ErrorType) (ts : List Token) → members_by b missing value kind ts
      ≡ (name_from b missing kind ts >>= rest_after_name (members_by b missing value ExpectedObjectKey))
  unfolding members_from
  members_by-turn kind [] = refl
  members_by-turn kind (t ∷ ts) =
      turn_same (members_from b missing value (length ts) ExpectedObjectKey) (members_by b missing value ExpectedObjectKey) kind (t ∷ ts)
      (λ us h. enough_turns (length ts) (length us) ExpectedObjectKey us (omega arith) (omega arith))
