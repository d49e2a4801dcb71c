-- The tokens that are read are those at the positions, one after another.
use Rattle.std.proofs.Common.{◌≡◌, refl, sym, ◌∙◌, ap, ℕ, zero, suc, ◌+◌, ◌-◌, ◌<◌, ◌≤◌, inl, inr, List, [], ◌∷◌, length, take}
use Rattle.std.proofs.Common.{drop, add-zero, true, false, not, cond, filter, ◌&&◌, ◌||◌, ◌==◌, nat_eq, nat_lt, nat_le, arith}
use Rattle.std.specs.Prelude.{Ok, Err, Option, Some, None, if◌then◌else◌, codes}
use Rattle.std.specs.List.{starts_with, list_all, range_with_len}
use Rattle.std.proofs.lemmas.Bool.{cases_Bool, cases_lt, and_parts, cond_both, cond-true, cond-false, eqb-true, false≢true, not-true}
use Rattle.std.proofs.lemmas.Bool.Decides.{Decides-eqb}
use Rattle.std.proofs.lemmas.List.{drop_all, take-append-drop, length-take-le}
use Rattle.std.proofs.lemmas.List.Sums.{AllPass-from_list_all}
use Rattle.std.proofs.lemmas.Slice.Eq.{starts_is}
use Rattle.std.proofs.Math.Seq.{drop-cons}
use Rattle.simd_json_parts.specs.Bytes.{quote, is_whitespace, is_structural, is_terminator, byte_at}
use Rattle.simd_json_parts.specs.Document.{Document, boolean, null}
use Rattle.simd_json_parts.specs.Positions.{real_quotes, is_position, positions}
use Rattle.simd_json_parts.specs.AtomAt.{atom_at, atom_or}
use Rattle.simd_json_parts.specs.Derivatives.{matches, longest_prefix}
use Rattle.simd_json_parts.specs.Numbers.{number_literal, integer_literal, has_minus, magnitude}
use Rattle.simd_json_parts.specs.Integers.{max_magnitude}
use Rattle.simd_json_parts.specs.NumberAt.{number_at, integer_or, first_excess}
use Rattle.simd_json_parts.specs.StringAt.{string_at, string_read, closing_quote}
use Rattle.simd_json_parts.specs.Tokens.{Form, begin_array, end_array, begin_object, end_object, name_separator, value_separator}
use Rattle.simd_json_parts.specs.Tokens.{string_token, scalar, stray, Token, form_at, after_token, token_or_space, tokens_from, tokens}
use Rattle.simd_json_parts.specs.TokensAlong.{goes_on, tokens_along}
use Rattle.simd_json_parts.specs.declared.error.ErrorType.{ErrorType}
use Rattle.simd_json_parts.specs.declared.error.ErrorType.TheVariants.{ExpectedTrue, ExpectedFalse, ExpectedNull}
use Rattle.simd_json_parts.proofs.Patterns.Sets.{matches-Matches, longest_prefix-le}
use Rattle.simd_json_parts.proofs.Patterns.Bytes.{All-Matches}
use Rattle.simd_json_parts.proofs.Positions.Scan.{positions_from, positions_from-end, positions_from-position}
use Rattle.simd_json_parts.proofs.Positions.Scan.{positions_from-other, positions_from-through}
use Rattle.simd_json_parts.proofs.Positions.Boundaries.{Boundary, EndsBefore, is_position-space, boundary-space}
use Rattle.simd_json_parts.proofs.Positions.Boundaries.{is_position-token, ends-structural, ends-string, ends-run, is_special}

-- ---- the tokens from index i on

abbrev pub tokens_at : List ℕ → ℕ → List Token
tokens_at b i = tokens_from b i 0 (drop i b)

pub tokens_at-end : (b : List ℕ) (i : ℕ) → length b ≤ i → tokens_at b i ≡ []
unfolding tokens_from
tokens_at-end b i l = ap (tokens_from b i 0) (drop_all i b l)

-- the bytes of a token are passed over
pub tokens_from-skip : (b : List ℕ) (i n : ℕ) → tokens_from b i n (drop i b) ≡ tokens_at b (i + n)
unfolding tokens_from
tokens_from-skip b i zero = ap (tokens_at b) (sym (add-zero i))
tokens_from-skip b i (suc n) =
    let next : suc i + n ≡ i + suc n = omega arith in
    elim (cases_lt i (length b)) [
      | inl l ↦ ap (tokens_from b i (suc n)) (drop-cons b i 32 l) ∙ tokens_from-skip b (suc i) n ∙ ap (tokens_at b) next
      | inr l ↦ ap (tokens_from b i (suc n)) (drop_all i b l) ∙ sym (tokens_at-end b (i + suc n) (omega arith))
    ]

-- what the descent reads at index i
tokens_at-step : (b : List ℕ) (i : ℕ) → i < length b
    → tokens_at b i ≡ token_or_space b i (byte_at b i) (λ n. tokens_from b (suc i) n (drop (suc i) b))
unfolding tokens_from
tokens_at-step b i l = ap (tokens_from b i 0) (drop-cons b i 32 l)

pub tokens_at-space : (b : List ℕ) (i : ℕ) → i < length b → is_whitespace (byte_at b i) ≡ true → tokens_at b i ≡ tokens_at b (suc i)
tokens_at-space b i l space = tokens_at-step b i l ∙ cond-true _ _ _ space

pub tokens_at-token : (b : List ℕ) (i : ℕ) → i < length b → is_whitespace (byte_at b i) ≡ false
    → tokens_at b i ≡ record { index = i; form = form_at b i } ∷ after_token i (form_at b i) (λ n. tokens_from b (suc i) n (drop (suc i) b))
tokens_at-token b i l token = tokens_at-step b i l ∙ cond-false _ _ _ token

-- ---- where tokens end

-- a token of this form at index k ends where the form says, if tokens go on after it
abbrev pub IsEnded : List ℕ → ℕ → Form → Type 0
IsEnded b k (string_token (Ok r)) = EndsBefore b k r.1
IsEnded b k (string_token (Err e)) = Unit {0}
IsEnded b k (scalar (Ok r)) = EndsBefore b k r.1
IsEnded b k (scalar (Err e)) = Unit {0}
IsEnded b k stray = Unit {0}
IsEnded b k _ = EndsBefore b k (suc k)

-- a string, an atom, a number
IsEnded-string : (b : List ℕ) (k end : ℕ) (r : List ℕ × List ℕ) → EndsBefore b k (suc end) → IsEnded b k (string_token (string_read r end))
IsEnded-string b k end (t, []) h = h
IsEnded-string b k end (t, x ∷ left) h = tt

IsEnded-letters : (b : List ℕ) (k : ℕ) (letters : List ℕ) (d : Document) (kind : ErrorType) → Boundary b k → 0 < length letters
    → list_all (λ c. not (is_special c)) letters ≡ true → IsEnded b k (scalar (atom_or letters d kind b k))
IsEnded-letters b k letters d kind at some plain =
    cond_both (starts_with nat_eq (drop k b) letters && is_terminator (byte_at b (k + length letters))) _ _
    (λ r. IsEnded b k (scalar r)) ends (λ _. tt)
  where
    ends : (starts_with nat_eq (drop k b) letters && is_terminator (byte_at b (k + length letters))) ≡ true
        → EndsBefore b k (k + length letters)
    ends h =
        let both : (starts_with nat_eq (drop k b) letters ≡ true) × (is_terminator (byte_at b (k + length letters)) ≡ true) =
        and_parts _ _ h in
        ends-run b k at (length letters) letters (drop (length letters) (drop k b))
        ((starts_is Decides-eqb (drop k b) letters _ refl).0 both.0) refl some
        (λ i c l. not-true _ (AllPass-from_list_all (λ c. not (is_special c)) letters plain i c l)) both.1

IsEnded-atom : (b : List ℕ) (k : ℕ) → Boundary b k → IsEnded b k (scalar (atom_at b k))
unfolding atom_at
IsEnded-atom b k at =
    cond_both (byte_at b k == 116) _ _ (λ r. IsEnded b k (scalar r))
    (λ _. IsEnded-letters b k (codes "true") (boolean true) ExpectedTrue at (omega arith) refl)
    (λ _. cond_both (byte_at b k == 102) _ _ (λ r. IsEnded b k (scalar r))
    (λ _. IsEnded-letters b k (codes "false") (boolean false) ExpectedFalse at (omega arith) refl)
    (λ _. IsEnded-letters b k (codes "null") null ExpectedNull at (omega arith) refl))

-- no number is empty
pub some_byte : (n : ℕ) (xs : List ℕ) → matches number_literal (take n xs) ≡ true → 0 < n
some_byte zero xs h = absurd (false≢true h)
some_byte (suc n) xs h = omega arith

IsEnded-integer : (b : List ℕ) (k end : ℕ) (literal : List ℕ) (o : Option ℕ) → EndsBefore b k end
    → IsEnded b k (scalar (integer_or b k literal end o))
IsEnded-integer b k end literal None ends =
    cond_both (nat_lt (max_magnitude (has_minus literal)) (magnitude literal)) _ _ (λ r. IsEnded b k (scalar r)) (λ _. tt) (λ _. ends)
IsEnded-integer b k end literal (Some i) ends = tt

IsEnded-number : (b : List ℕ) (k : ℕ) → Boundary b k → IsEnded b k (scalar (number_at b k))
unfolding number_at
IsEnded-number b k at =
    cond_both (matches number_literal literal && is_terminator (byte_at b end)) _ _ (λ r. IsEnded b k (scalar r))
    (λ h. cond_both (matches integer_literal literal) _ _ (λ r. IsEnded b k (scalar r))
    (λ _. IsEnded-integer b k end literal (first_excess literal) (ends h)) (λ _. ends h))
    (λ _. tt)
  where
    n : ℕ
    n = longest_prefix number_literal (drop k b)

    literal : List ℕ
    literal = take n (drop k b)

    end : ℕ
    end = k + n

    ends : (matches number_literal literal && is_terminator (byte_at b end)) ≡ true → EndsBefore b k end
    ends h =
        let both : (matches number_literal literal ≡ true) × (is_terminator (byte_at b end) ≡ true) = and_parts _ _ h in
        ends-run b k at n literal (drop n (drop k b)) (sym (take-append-drop n (drop k b)))
        (length-take-le n (drop k b) (longest_prefix-le number_literal (drop k b)))
        (some_byte n (drop k b) both.0)
        (All-Matches is_special number_literal literal refl (matches-Matches number_literal literal both.0)) both.1

module _ (b : List ℕ) where
  -- Every form at a boundary ends where it says.
  pub IsEnded-form : (k : ℕ) → Boundary b k → IsEnded b k (form_at b k)
  unfolding form_at string_at
  IsEnded-form k at =
      structural 91 begin_array _ refl (λ h. h) (structural 93 end_array _ refl (λ h. h) (structural 123 begin_object _ refl (λ h. h)
      (structural 125 end_object _ refl (λ h. h)
      (structural 58 name_separator _ refl (λ h. h) (structural 44 value_separator _ refl (λ h. h)
      (cond_both (x == quote) _ _ (IsEnded b k) (λ e. IsEnded-string b k (closing_quote b k) _ (ends-string b k at e))
      (λ _. cond_both ((x == 116) || (x == 102) || (x == 110)) _ _ (IsEnded b k) (λ _. IsEnded-atom b k at)
      (λ _. cond_both ((x == 45) || (nat_le 48 x && nat_le x 57)) _ _ (IsEnded b k) (λ _. IsEnded-number b k at) (λ _. tt)))))))))
    where
      x : ℕ
      x = byte_at b k

      structural : (c : ℕ) (form other : Form) → is_structural c ≡ true → (EndsBefore b k (suc k) → IsEnded b k form) → IsEnded b k other
          → IsEnded b k (if byte_at b k == c then form else other)
      structural c form other is ended after =
          cond_both (byte_at b k == c) form other (IsEnded b k)
          (λ e. ended (ends-structural b k at (ap is_structural (eqb-true (byte_at b k) c e) ∙ is))) (λ _. after)

  -- ---- the tokens from a boundary on

  abbrev AtPositions : ℕ → Type 0
  AtPositions k = tokens_at b k ≡ tokens_along b (positions_from b k)

  -- after a token that goes on
  after : (k end n : ℕ) → suc k + n ≡ end → EndsBefore b k end → AtPositions end
      → tokens_from b (suc k) n (drop (suc k) b) ≡ tokens_along b (positions_from b (suc k))
  after k end n e ends more =
      tokens_from-skip b (suc k) n ∙ ap (tokens_at b) e ∙ more
      ∙ ap (tokens_along b) (sym (positions_from-through b (suc k) end ends.after ends.none))

  -- after a token of each form
  along-after : (k : ℕ) (form : Form) → IsEnded b k form → ((end : ℕ) → EndsBefore b k end → AtPositions end)
      → after_token k form (λ n. tokens_from b (suc k) n (drop (suc k) b))
      ≡ cond (goes_on form) (tokens_along b (positions_from b (suc k))) []
  along-after k (string_token (Ok r)) ends more = after k r.1 (r.1 - suc k) (omega (arith, ends.after)) ends (more r.1 ends)
  along-after k (string_token (Err e)) ends more = refl
  along-after k (scalar (Ok r)) ends more = after k r.1 (r.1 - suc k) (omega (arith, ends.after)) ends (more r.1 ends)
  along-after k (scalar (Err e)) ends more = refl
  along-after k stray ends more = refl
  along-after k _ ends more = after k (suc k) (suc k - suc k) (omega arith) ends (more (suc k) ends)

  -- From a boundary on, or from the end, the tokens are those at the positions; n bytes are left at most.
  stands : (n k : ℕ) → length b ≤ k + n → (k < length b → Boundary b k) → AtPositions k
  stands zero k l at = tokens_at-end b k (omega arith) ∙ ap (tokens_along b) (sym (positions_from-end b k (omega arith)))
  stands (suc n) k l at =
      elim (cases_lt k (length b)) [
        | inl h ↦ elim (cases_Bool (is_whitespace (byte_at b k))) [
          | inl space ↦
              tokens_at-space b k h space ∙ stands n (suc k) (omega arith) (λ _. boundary-space b k (at h) space)
              ∙ ap (tokens_along b) (sym (positions_from-other b k (is_position-space b k (at h) space)))
          | inr token ↦
              tokens_at-token b k h token
              ∙ ap (λ ts. record { index = k; form = form_at b k } ∷ ts)
              (along-after k (form_at b k) (IsEnded-form k (at h)) (λ end ends. stands n end (omega (arith, ends.after)) ends.boundary))
              ∙ ap (tokens_along b) (sym (positions_from-position b k h (is_position-token b k (at h) token)))
        ]
        | inr h ↦ tokens_at-end b k h ∙ ap (tokens_along b) (sym (positions_from-end b k h))
      ]

-- The tokens that are read are those at the positions, also where a string has no closing quote.
pub tokens-positions : (b : List ℕ) → tokens b ≡ tokens_along b (positions b)
unfolding positions real_quotes
tokens-positions b =
    let whole : length b - 0 ≡ length b = omega arith in
    stands b (length b) 0 (omega arith) (λ _. record { closed = refl; free = inr refl })
    ∙ ap (λ n. tokens_along b (filter (is_position b) (range_with_len 0 n))) whole
