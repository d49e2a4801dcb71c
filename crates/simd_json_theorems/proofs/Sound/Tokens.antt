-- A token that is read stands where it is read, given that a string does.
use Rattle.std.proofs.Common.{◌≡◌, refl, ◌∙◌, ap, ℕ, suc, ◌<◌, List, [], ◌∷◌, length, drop, true, ◌||◌, ◌&&◌, ◌==◌, nat_le}
use Rattle.std.specs.Prelude.{Result, IfOk, if◌then◌else◌}
use Rattle.std.proofs.lemmas.Bool.{cond_both, eqb-true}
use Rattle.std.proofs.Math.Seq.{drop-cons}
use Rattle.simd_json_parts.specs.Bytes.{quote, byte_at}
use Rattle.simd_json_parts.specs.Strings.{IsStringLiteral}
use Rattle.simd_json_parts.specs.StringAt.{string_at}
use Rattle.simd_json_parts.specs.Tokens.{Form, begin_array, end_array, begin_object, end_object, name_separator, value_separator}
use Rattle.simd_json_parts.specs.Tokens.{string_token, scalar, stray, form_at}
use Rattle.simd_json_parts.specs.declared.error.Error.{Error}
use Rattle.simd_json_parts.proofs.Positions.Boundaries.{Boundary}
use Rattle.simd_json_theorems.proofs.Sound.SpelledTokens.{IsOwn, Owned}
use Rattle.simd_json_theorems.proofs.Sound.Scalars.{ScalarStands, atom-stands, number-stands}

-- the string that is read at index k, if any is, stands there up to its end
abbrev pub StringStands : List ℕ → ℕ → Result (List ℕ × ℕ) Error → Type 0
StringStands b k r = IfOk r (λ p. Owned b k (λ xs. IsStringLiteral xs p.0) p.1)

-- a token of this form stands at index k, if tokens go on after it
abbrev pub FormStands : List ℕ → ℕ → Form → Type 0
FormStands b k (string_token r) = StringStands b k r
FormStands b k (scalar r) = ScalarStands b k r
FormStands b k stray = Unit {0}
FormStands b k form = Owned b k (IsOwn form) (suc k)

-- That strings stand where they are read is given.
module _ (b : List ℕ)
    (strings : (k : ℕ) → k < length b → Boundary b k → (byte_at b k == quote) ≡ true → StringStands b k (string_at b k)) where
  -- A token of each form stands at a boundary.
  pub form-stands : (k : ℕ) → k < length b → Boundary b k → FormStands b k (form_at b k)
  unfolding form_at
  form-stands k l at =
      structural 91 begin_array _ (λ o. o) (structural 93 end_array _ (λ o. o) (structural 123 begin_object _ (λ o. o)
      (structural 125 end_object _ (λ o. o) (structural 58 name_separator _ (λ o. o) (structural 44 value_separator _ (λ o. o)
      (cond_both (x == quote) _ _ (FormStands b k) (λ e. strings k l at e)
      (λ _. cond_both ((x == 116) || (x == 102) || (x == 110)) _ _ (FormStands b k) (λ _. atom-stands b k)
      (λ _. cond_both ((x == 45) || (nat_le 48 x && nat_le x 57)) _ _ (FormStands b k) (λ _. number-stands b k) (λ _. tt)))))))))
    where
      x : ℕ
      x = byte_at b k

      structural : (c : ℕ) (form other : Form) → (Owned b k (λ xs. xs ≡ c ∷ []) (suc k) → FormStands b k form) → FormStands b k other
          → FormStands b k (if byte_at b k == c then form else other)
      structural c form other stands after =
          cond_both (byte_at b k == c) form other (FormStands b k)
          (λ e. stands (record {
            own = c ∷ [];
            split = drop-cons b k 32 l ∙ ap (λ y. y ∷ drop (suc k) b) (eqb-true (byte_at b k) c e);
            holds = refl;
          }))
          (λ _. after)
