-- An atom or a number that has a fault begins a value before it, and one that is read has a terminator or the end after it.
use Rattle.std.proofs.Common.{◌≡◌, refl, sym, ◌∙◌, ap, subst, ℕ, zero, suc, ◌+◌, ◌<◌, ◌≤◌, inl, inr, List, [], ◌++◌, length, take}
use Rattle.std.proofs.Common.{drop, append_assoc, true, false, ◌&&◌, ◌==◌, nat_eq, nat_lt, arith}
use Rattle.std.specs.Prelude.{Option, Some, None, Result, Ok, Err, codes, find, Bool}
use Rattle.std.specs.List.{starts_with, range_with_len}
use Rattle.std.proofs.lemmas.Bool.{cond_both, cases_Bool, and_parts, cond-true, cond-false}
use Rattle.std.proofs.lemmas.List.{take-append-drop, take-take, length-take-le, drop-drop}
use Rattle.simd_json_parts.specs.Bytes.{is_terminator, byte_at}
use Rattle.simd_json_parts.specs.Document.{Document, boolean, null, integer, decimal}
use Rattle.simd_json_parts.specs.AtomAt.{atom_at, atom_or}
use Rattle.simd_json_parts.specs.Derivatives.{matches, longest_prefix}
use Rattle.simd_json_parts.specs.ErrorKinds.{is_unexpected_token}
use Rattle.simd_json_parts.specs.Grammar.{IsValue}
use Rattle.simd_json_parts.specs.Numbers.{number_literal, integer_literal, has_minus, magnitude}
use Rattle.simd_json_parts.specs.Patterns.{Begins}
use Rattle.simd_json_parts.specs.Integers.{max_magnitude}
use Rattle.simd_json_parts.specs.NumberAt.{number_at, integer_or, first_excess}
use Rattle.simd_json_parts.specs.declared.error.Error.{Error}
use Rattle.simd_json_parts.specs.declared.error.ErrorType.{ErrorType}
use Rattle.simd_json_parts.specs.declared.error.ErrorType.TheVariants.{ExpectedTrue, ExpectedFalse, ExpectedNull}
use Rattle.simd_json_parts.proofs.Patterns.Sets.{Begins-longest_prefix, longest_prefix-le}
use Rattle.simd_json_scalars.proofs.Numbers.Literals.{number-integer_or_decimal}
use Rattle.simd_json_theorems.proofs.Sound.FaultsWithin.{FaultWithin}

-- the bytes are some value
abbrev pub IsSomeValue : List ℕ → Type 0
IsSomeValue bs = (d : Document) × IsValue d bs

-- what is known of the scalar at index k
abbrev pub ScalarReported : List ℕ → ℕ → Result (Document × ℕ) Error → Type 0
ScalarReported b k (Ok r) = is_terminator (byte_at b r.1) ≡ true
ScalarReported b k (Err e) = FaultWithin b k IsSomeValue e

-- ---- atoms

-- Letters that are not found are reported at the first.
letters-reported : (b : List ℕ) (k : ℕ) (letters : List ℕ) (d : Document) (kind : ErrorType) → IsValue d letters
    → is_unexpected_token kind ≡ false → ScalarReported b k (atom_or letters d kind b k)
letters-reported b k letters d kind is other =
    cond_both (starts_with nat_eq (drop k b) letters && is_terminator (byte_at b (k + length letters))) _ _ (ScalarReported b k)
    (λ h. (and_parts _ _ h).1) (λ _. record { prefix = []; rest = letters; split = refl; goes_on = (d, is); kind = other })

pub atom-reported : (b : List ℕ) (k : ℕ) → ScalarReported b k (atom_at b k)
unfolding atom_at
atom-reported b k =
    cond_both (byte_at b k == 116) _ _ (ScalarReported b k) (λ _. letters-reported b k (codes "true") (boolean true) ExpectedTrue refl refl)
    (λ _. cond_both (byte_at b k == 102) _ _ (ScalarReported b k)
    (λ _. letters-reported b k (codes "false") (boolean false) ExpectedFalse refl refl)
    (λ _. letters-reported b k (codes "null") null ExpectedNull refl refl))

-- ---- numbers

-- Bytes that begin a number literal begin a value.
begins-value : (xs : List ℕ) → Begins number_literal xs → (rest : List ℕ) × IsSomeValue (xs ++ rest)
begins-value xs (rest, m) = (
  rest,
  elim (number-integer_or_decimal (xs ++ rest) m) [
    | inl h ↦ (integer (has_minus (xs ++ rest)) (magnitude (xs ++ rest)), (h, refl, refl))
    | inr h ↦ (decimal (xs ++ rest), (h, refl))
  ],
)

-- What is found among numbers in a row is one of them.
found-less : (test : ℕ → Bool) (n start k : ℕ) → find test (range_with_len start n) ≡ Some k → k < start + n
found-less test zero start k e = cc
found-less test (suc n) start k e =
    elim (cases_Bool (test start)) [
      | inl h ↦ let same : start ≡ k = cc (sym (cond-true _ _ _ h) ∙ e) in omega arith
      | inr h ↦ omega (arith, found-less test n (start + 1) k (sym (cond-false _ _ _ h) ∙ e))
    ]

module _ (b : List ℕ) (k : ℕ) where
  -- the longest prefix that begins a number, and where it ends
  abbrev longest : ℕ
  longest = longest_prefix number_literal (drop k b)

  abbrev literal : List ℕ
  literal = take longest (drop k b)

  -- Each front of it begins a value.
  prefix-reported : (n : ℕ) → n ≤ longest → (e : Error) → e.index ≡ k + n → is_unexpected_token e.error ≡ false
      → FaultWithin b k IsSomeValue e
  prefix-reported n l e at other =
      let begins : Begins number_literal literal = Begins-longest_prefix number_literal (drop k b) refl in
      let more : (rest : List ℕ) × IsSomeValue (literal ++ rest) = begins-value literal begins in
      let prefix : List ℕ = take n (drop k b) in
      let between : prefix ++ drop n literal ≡ literal =
      ap (λ us. us ++ drop n literal) (sym (take-take n longest (drop k b) l)) ∙ take-append-drop n literal in
      record {
        prefix = prefix;
        rest = drop n literal ++ more.0;
        split = sym (take-append-drop n (drop k b)) ∙ ap (λ us. prefix ++ us) (drop-drop n k b ∙ ap (λ i. drop i b) (sym at));
        goes_on = subst IsSomeValue (ap (λ us. us ++ more.0) (sym between) ∙ append_assoc prefix (drop n literal) more.0) more.1;
        kind = other;
      }

  -- An integer that is too great is reported at a digit of it, or after it.
  integer-reported : (o : Option ℕ) → first_excess literal ≡ o → is_terminator (byte_at b (k + longest)) ≡ true
      → ScalarReported b k (integer_or b k literal (k + longest) o)
  integer-reported None none ended =
      cond_both (nat_lt (max_magnitude (has_minus literal)) (magnitude literal)) _ _ (ScalarReported b k)
      (λ _. prefix-reported longest (omega arith) _ refl refl) (λ _. ended)
  integer-reported (Some i) some ended =
      let less : i < 0 + length literal = found-less _ (length literal) 0 i some in
      prefix-reported i (omega (arith, less, length-take-le longest (drop k b) (longest_prefix-le number_literal (drop k b)))) _ refl refl

  pub number-reported : ScalarReported b k (number_at b k)
  unfolding number_at
  number-reported =
      cond_both (matches number_literal literal && is_terminator (byte_at b (k + longest))) _ _ (ScalarReported b k)
      (λ h. cond_both (matches integer_literal literal) _ _ (ScalarReported b k)
      (λ _. integer-reported (first_excess literal) refl (and_parts _ _ h).1) (λ _. (and_parts _ _ h).1))
      (λ _. prefix-reported longest (omega arith) _ refl refl)
