-- An atom or a number that is read stands there: its bytes denote it by the grammar, and an integer fits.
use Rattle.std.proofs.Common.{◌≡◌, refl, sym, ◌∙◌, ap, ℕ, ◌+◌, inl, inr, List, ◌++◌, length, take, drop, true, false, ◌&&◌, ◌==◌}
use Rattle.std.proofs.Common.{nat_eq, nat_lt, arith}
use Rattle.std.specs.Prelude.{Option, Some, None, Result, IfOk, codes}
use Rattle.std.specs.List.{starts_with}
use Rattle.std.proofs.lemmas.Bool.{cond_both, and_parts, ltb-false, both_ways}
use Rattle.std.proofs.lemmas.Bool.Decides.{Decides-eqb}
use Rattle.std.proofs.lemmas.List.{take-append-drop, drop-drop}
use Rattle.std.proofs.lemmas.Slice.Eq.{starts_is}
use Rattle.simd_json_parts.specs.Bytes.{is_terminator, byte_at}
use Rattle.simd_json_parts.specs.Document.{Document, boolean, null}
use Rattle.simd_json_parts.specs.AtomAt.{atom_at, atom_or}
use Rattle.simd_json_parts.specs.Derivatives.{matches, longest_prefix}
use Rattle.simd_json_parts.specs.Numbers.{number_literal, integer_literal, decimal_literal, has_minus, magnitude}
use Rattle.simd_json_parts.specs.Patterns.{Matches}
use Rattle.simd_json_parts.specs.Integers.{max_magnitude}
use Rattle.simd_json_parts.specs.NumberAt.{number_at, integer_or, first_excess}
use Rattle.simd_json_parts.specs.declared.error.Error.{Error}
use Rattle.simd_json_parts.specs.declared.error.ErrorType.{ErrorType}
use Rattle.simd_json_parts.specs.declared.error.ErrorType.TheVariants.{ExpectedTrue, ExpectedFalse, ExpectedNull}
use Rattle.simd_json_parts.proofs.Patterns.Sets.{matches-Matches, Matches-matches}
use Rattle.simd_json_scalars.proofs.Numbers.Literals.{number-integer_or_decimal}
use Rattle.simd_json_theorems.proofs.Sound.SpelledTokens.{Accepted, Owned}

-- what is read at index k, if anything is, stands there up to its end
abbrev pub ScalarStands : List ℕ → ℕ → Result (Document × ℕ) Error → Type 0
ScalarStands b k r = IfOk r (λ p. Owned b k (Accepted 0 p.0) p.1)

-- ---- atoms

-- Letters that are found stand there.
letters-stand : (b : List ℕ) (k : ℕ) (letters : List ℕ) (d : Document) (kind : ErrorType) → Accepted 0 d letters
    → ScalarStands b k (atom_or letters d kind b k)
letters-stand b k letters d kind accepted =
    cond_both (starts_with nat_eq (drop k b) letters && is_terminator (byte_at b (k + length letters))) _ _ (ScalarStands b k)
    (λ h. record {
      own = letters;
      split = (starts_is Decides-eqb (drop k b) letters _ refl).0 (and_parts _ _ h).0
          ∙ ap (λ bs. letters ++ bs) (drop-drop (length letters) k b);
      holds = accepted;
    })
    (λ _. tt)

-- An atom that is read stands there.
pub atom-stands : (b : List ℕ) (k : ℕ) → ScalarStands b k (atom_at b k)
unfolding atom_at
atom-stands b k =
    cond_both (byte_at b k == 116) _ _ (ScalarStands b k) (λ _. letters-stand b k (codes "true") (boolean true) ExpectedTrue
    (record { denotes = refl; integers = tt; nesting = omega arith }))
    (λ _. cond_both (byte_at b k == 102) _ _ (ScalarStands b k) (λ _. letters-stand b k (codes "false")
    (boolean false) ExpectedFalse (record { denotes = refl; integers = tt; nesting = omega arith }))
    (λ _. letters-stand b k (codes "null") null ExpectedNull (record { denotes = refl; integers = tt; nesting = omega arith })))

-- ---- numbers

-- An integer within its range stands there.
integer-stands : (b : List ℕ) (k end : ℕ) (literal : List ℕ) (o : Option ℕ) → drop k b ≡ literal ++ drop end b
    → Matches integer_literal literal
    → ScalarStands b k (integer_or b k literal end o)
integer-stands b k end literal None split m =
    cond_both (nat_lt (max_magnitude (has_minus literal)) (magnitude literal)) _ _ (ScalarStands b k) (λ _. tt)
    (λ fits. record {
      own = literal;
      split = split;
      holds = record { denotes = (m, refl, refl); integers = ltb-false _ _ fits; nesting = omega arith };
    })
integer-stands b k end literal (Some i) split m = tt

-- A number that is read stands there.
pub number-stands : (b : List ℕ) (k : ℕ) → ScalarStands b k (number_at b k)
unfolding number_at
number-stands b k =
    cond_both (matches number_literal literal && is_terminator (byte_at b end)) _ _ (ScalarStands b k)
    (λ h. cond_both (matches integer_literal literal) _ _ (ScalarStands b k)
    (λ is. integer-stands b k end literal (first_excess literal) split (matches-Matches integer_literal literal is))
    (λ is_none. record {
      own = literal;
      split = split;
      holds = record { denotes = (decimal-literal (and_parts _ _ h).0 is_none, refl); integers = tt; nesting = omega arith };
    }))
    (λ _. tt)
  where
    n : ℕ
    n = longest_prefix number_literal (drop k b)

    literal : List ℕ
    literal = take n (drop k b)

    end : ℕ
    end = k + n

    split : drop k b ≡ literal ++ drop end b
    split = sym (take-append-drop n (drop k b)) ∙ ap (λ bs. literal ++ bs) (drop-drop n k b)

    decimal-literal : matches number_literal literal ≡ true → matches integer_literal literal ≡ false → Matches decimal_literal literal
    decimal-literal is is_none =
        elim (number-integer_or_decimal literal (matches-Matches number_literal literal is)) [
          | inl m ↦ absurd (both_ways (matches integer_literal literal) is_none (Matches-matches integer_literal literal m))
          | inr m ↦ m
        ]
