-- Atoms, numbers, strings and names of the grammar are read where they stand.
use Rattle.std.proofs.Common.{◌≡◌, refl, sym, ◌∙◌, ap, ℕ, zero, suc, ◌+◌, ◌≤◌, inl, inr, List, [], ◌∷◌, ◌++◌, length, drop}
use Rattle.std.proofs.Common.{append_assoc, Bool, true, false, ◌||◌, ◌&&◌, ◌==◌, nat_eq, nat_le, if◌then◌else◌, arith}
use Rattle.std.specs.Prelude.{Result, Ok, codes}
use Rattle.std.specs.List.{starts_with}
use Rattle.std.proofs.lemmas.Bool.{and_from, or_left, or_right, eq-eqb, le-leb, cond-true}
use Rattle.std.proofs.lemmas.Bool.Decides.{nat_tests}
use Rattle.std.proofs.lemmas.List.{get_or-drop}
use Rattle.simd_json_parts.specs.Bytes.{is_whitespace, is_terminator, byte_at}
use Rattle.simd_json_parts.specs.Document.{Document, null, boolean, integer, decimal, string}
use Rattle.simd_json_parts.specs.Patterns.{Matches}
use Rattle.simd_json_parts.specs.Numbers.{number_literal, has_minus, magnitude}
use Rattle.simd_json_parts.specs.Integers.{max_magnitude}
use Rattle.simd_json_parts.specs.Limits.{IntegersFit}
use Rattle.simd_json_parts.specs.Grammar.{IsValue}
use Rattle.simd_json_parts.specs.Strings.{IsStringLiteral}
use Rattle.simd_json_parts.specs.AtomAt.{atom_at, atom_or}
use Rattle.simd_json_parts.specs.NumberAt.{number_at}
use Rattle.simd_json_parts.specs.Tokens.{Token, string_token, scalar, form_of}
use Rattle.simd_json_parts.specs.Descent.{name_from, value_from}
use Rattle.simd_json_parts.specs.declared.error.Error.{Error}
use Rattle.simd_json_parts.specs.declared.error.ErrorType.{ErrorType}
use Rattle.simd_json_parts.specs.declared.error.ErrorType.TheVariants.{ExpectedTrue, ExpectedFalse, ExpectedNull}
use Rattle.simd_json_parts.proofs.Lists.Drops.{drop-head, drop-tail, drop-through}
use Rattle.simd_json_parts.proofs.Positions.Boundaries.{apart}
use Rattle.simd_json_parts.proofs.Patterns.Bytes.{byte_at-append}
use Rattle.simd_json_scalars.proofs.Numbers.Literals.{integer-number, decimal-number, number_at-integer, number_at-decimal}
use Rattle.simd_json_theorems.proofs.Literals.Quotes.{string_at-literal}
use Rattle.simd_json_parts.proofs.Positions.TokensAtPositions.{tokens_at}
use Rattle.simd_json_theorems.proofs.Complete.TokensHere.{Ended, Got, ReadsHere, string_here, scalar_here}

-- ---- the first byte of a number: `-` or a digit

abbrev begins_number : ℕ → Bool
begins_number c = (c == 45) || (nat_le 48 c && nat_le c 57)

-- a list whose first byte can begin a number
record BeginsNumber (xs : List ℕ) : Type 0 where
  pub first : ℕ
  pub rest : List ℕ
  pub whole : xs ≡ first ∷ rest
  pub fits : begins_number first ≡ true

-- A number begins so.
begins_number-digit : (c : ℕ) → 48 ≤ c → c ≤ 57 → begins_number c ≡ true
begins_number-digit c low high = or_right _ _ (and_from _ _ (le-leb 48 c low) (le-leb c 57 high))

number_begins : (xs : List ℕ) → Matches number_literal xs → BeginsNumber xs
number_begins xs (ss, ys, e, inr (c, g, low, high), more) =
    record { first = c; rest = ys; whole = simp (e, g); fits = or_left _ _ (eq-eqb c 45 (omega arith)) }
number_begins xs (ss, ys, e, inl none, (zs, ws, f, inl (c, g, low, high), more)) =
    record { first = c; rest = ws; whole = simp (e, none, f, g); fits = begins_number-digit c low (omega arith) }
number_begins xs (ss, ys, e, inl none, (zs, ws, f, inr (us, vs, g, (c, h, low, high), many), more)) =
    record { first = c; rest = vs ++ ws; whole = simp (e, none, f, g, h); fits = begins_number-digit c (omega arith) high }

-- Such a byte is no whitespace, and a number is read there.
begins_number-space : (c : ℕ) → begins_number c ≡ true → is_whitespace c ≡ false
begins_number-space c h = grind (arith, nat_tests)

form_of-number : (b : List ℕ) (k c : ℕ) → begins_number c ≡ true → form_of b k c ≡ scalar (number_at b k)
form_of-number b k c h =
    let no : (n : ℕ) → begins_number n ≡ false → (c == n) ≡ false = λ n bad. apart begins_number c n h bad in
    rw (no 91 refl, no 93 refl, no 123 refl, no 125 refl, no 58 refl, no 44 refl, no 34 refl, no 116 refl, no 102 refl, no 110 refl, h) refl

module _ (b : List ℕ) where
  -- ---- atoms

  -- by the first letter
  atom_for : ℕ → ℕ → Result (Document × ℕ) Error
  atom_for c k =
      if c == 116 then atom_or (codes "true") (boolean true) ExpectedTrue b k
      else if c == 102 then atom_or (codes "false") (boolean false) ExpectedFalse b k
      else atom_or (codes "null") null ExpectedNull b k

  atom_at-for : (k c : ℕ) (rest : List ℕ) → drop k b ≡ c ∷ rest → atom_at b k ≡ atom_for c k
  unfolding atom_at atom_for
  atom_at-for k c rest e = ap (λ x. atom_for x k) (drop-head k b c rest e)

  -- letters that stand there, with a terminator or the end after them
  letters_read : (letters : List ℕ) (d : Document) (kind : ErrorType) (k : ℕ) (rest : List ℕ) → drop k b ≡ letters ++ rest
      → starts_with nat_eq (letters ++ rest) letters ≡ true → Ended rest → atom_or letters d kind b k ≡ Ok (d, k + length letters)
  letters_read letters d kind k rest e begins t =
      let after : byte_at b (k + length letters) ≡ byte_at rest 0 =
      sym (get_or-drop k b (length letters) 32) ∙ ap (λ l. byte_at l (length letters)) e ∙ byte_at-append letters rest in
      cond-true _ _ _ (and_from _ _ (ap (λ l. starts_with nat_eq l letters) e ∙ begins) (ap is_terminator after ∙ t))

  -- ---- strings

  -- a string literal at index k is a token
  record StringHere (k : ℕ) (t rest : List ℕ) : Type 0 where
    pub end : ℕ
    pub there : drop end b ≡ rest
    pub is : tokens_at b k ≡ record { index = k; form = string_token (Ok (t, end)) } ∷ tokens_at b end

  literal_here : (k : ℕ) (xs rest t : List ℕ) → IsStringLiteral xs t → drop k b ≡ xs ++ rest → StringHere k t rest
  literal_here k xs rest t (content, cs, same, pieces, spells) e =
      record {
        end = suc (suc k + length content);
        there = drop-tail (suc k + length content) b 34 rest
            (drop-through (suc k) b content (34 ∷ rest) (drop-tail k b 34 (content ++ 34 ∷ rest) whole));
        is = string_here b k (suc (suc k + length content)) (content ++ 34 ∷ rest) (omega arith) t whole
            (string_at-literal b k content rest cs whole pieces ∙ ap (λ us. Ok (us, suc (suc k + length content))) (sym spells));
      }
    where
      whole : drop k b ≡ 34 ∷ (content ++ 34 ∷ rest)
      whole = e ∙ ap (λ us. us ++ rest) same ∙ ap (λ us. 34 ∷ us) (append_assoc content (34 ∷ []) rest)

  module _ (missing : Error) where
    -- Names are read.
    pub name_reads : (kind : ErrorType) (name : List ℕ) → ReadsHere b (name_from b missing kind) name (λ xs. IsStringLiteral xs name)
    name_reads kind name k xs rest h e t =
        let p : StringHere k name rest = literal_here k xs rest name h e in
        record { end = p.end; there = p.there; is = ap (name_from b missing kind) p.is }

    module _ (levels : ℕ) where
      -- what was read at a string or a scalar is a value, however many containers may be open
      value_from-string : (n k : ℕ) (r : List ℕ × ℕ) (ts : List Token)
          → value_from b missing n (record { index = k; form = string_token (Ok r) } ∷ ts) ≡ Ok (string r.0, ts)
      unfolding value_from
      value_from-string zero k r ts = refl
      value_from-string (suc n) k r ts = refl

      value_from-scalar : (n k : ℕ) (r : Document × ℕ) (ts : List Token)
          → value_from b missing n (record { index = k; form = scalar (Ok r) } ∷ ts) ≡ Ok (r.0, ts)
      unfolding value_from
      value_from-scalar zero k r ts = refl
      value_from-scalar (suc n) k r ts = refl

      -- Strings are read.
      pub string_reads : (t : List ℕ) → ReadsHere b (value_from b missing levels) (string t) (IsValue (string t))
      string_reads t k xs rest h e ended =
          let p : StringHere k t rest = literal_here k xs rest t h e in
          record {
            end = p.end;
            there = p.there;
            is = ap (value_from b missing levels) p.is ∙ value_from-string levels k (t, p.end) (tokens_at b p.end);
          }

      -- a scalar that is read, by its first byte
      scalar_reads : (k c : ℕ) (cs xs rest : List ℕ) (d : Document) → xs ≡ c ∷ cs → drop k b ≡ xs ++ rest → is_whitespace c ≡ false
          → form_of b k c ≡ scalar (Ok (d, k + length xs))
          → Got b (value_from b missing levels (tokens_at b k)) d rest
      scalar_reads k c cs xs rest d same e token is =
          record {
            end = k + length xs;
            there = drop-through k b xs rest e;
            is = ap (value_from b missing levels) (scalar_here b k (k + length xs) (cs ++ rest) (omega (arith, ap length same)) c d
                (e ∙ ap (λ us. us ++ rest) same) token is)
                ∙ value_from-scalar levels k (d, k + length xs) (tokens_at b (k + length xs));
          }

      -- an atom, by its first letter
      atom_reads : (k c : ℕ) (cs xs rest : List ℕ) (d : Document) (kind : ErrorType) → xs ≡ c ∷ cs → drop k b ≡ xs ++ rest → Ended rest
          → is_whitespace c ≡ false → form_of b k c ≡ scalar (atom_at b k) → atom_for c k ≡ atom_or (c ∷ cs) d kind b k
          → starts_with nat_eq ((c ∷ cs) ++ rest) (c ∷ cs) ≡ true
          → Got b (value_from b missing levels (tokens_at b k)) d rest
      atom_reads k c cs xs rest d kind same e t token form is begins =
          let f : drop k b ≡ (c ∷ cs) ++ rest = e ∙ ap (λ us. us ++ rest) same in
          scalar_reads k c cs (c ∷ cs) rest d refl f token
          (form ∙ ap scalar (atom_at-for k c (cs ++ rest) f ∙ is ∙ letters_read (c ∷ cs) d kind k rest f begins t))

      -- Atoms are read.
      pub null_reads : ReadsHere b (value_from b missing levels) null (IsValue null)
      unfolding atom_for
      null_reads k xs rest h e t = atom_reads k 110 (codes "ull") xs rest null ExpectedNull h e t refl refl refl refl

      pub boolean_reads : (x : Bool) → ReadsHere b (value_from b missing levels) (boolean x) (IsValue (boolean x))
      unfolding atom_for
      boolean_reads true k xs rest h e t = atom_reads k 116 (codes "rue") xs rest (boolean true) ExpectedTrue h e t refl refl refl refl
      boolean_reads false k xs rest h e t = atom_reads k 102 (codes "alse") xs rest (boolean false) ExpectedFalse h e t refl refl refl refl

      -- a number that is read
      number_reads : (k : ℕ) (xs rest : List ℕ) (d : Document) → BeginsNumber xs → drop k b ≡ xs ++ rest
          → number_at b k ≡ Ok (d, k + length xs) → Got b (value_from b missing levels (tokens_at b k)) d rest
      number_reads k xs rest d h e is =
          scalar_reads k h.first h.rest xs rest d h.whole e (begins_number-space h.first h.fits)
          (form_of-number b k h.first h.fits ∙ ap scalar is)

      -- Numbers are read.
      pub integer_reads : (minus : Bool) (n : ℕ) → IntegersFit (integer minus n)
          → ReadsHere b (value_from b missing levels) (integer minus n) (IsValue (integer minus n))
      integer_reads minus n fits k xs rest (m, sign, size) e t =
          let small : magnitude xs ≤ max_magnitude (has_minus xs) = rw (size, sign) fits in
          number_reads k xs rest (integer minus n) (number_begins xs (integer-number xs m)) e
          (number_at-integer b k xs rest e t m small ∙ ap (λ s. Ok (integer s (magnitude xs), k + length xs)) sign
          ∙ ap (λ u. Ok (integer minus u, k + length xs)) size)

      pub decimal_reads : (literal : List ℕ) → ReadsHere b (value_from b missing levels) (decimal literal) (IsValue (decimal literal))
      decimal_reads literal k xs rest (m, same) e t =
          number_reads k xs rest (decimal literal) (number_begins xs (decimal-number xs m)) e
          (number_at-decimal b k xs rest e t m ∙ ap (λ us. Ok (decimal us, k + length xs)) same)
