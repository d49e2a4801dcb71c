-- The literal of a number is the text of a float: a reader of floats (`float_scan_step`) comes to its end.
use Rattle.std.proofs.Common.{◌≡◌, refl, sym, ◌∙◌, ap, ℕ, ◌+◌, ◌≤◌, List, [], ◌∷◌, ◌++◌, true, ◌||◌, ◌&&◌, ◌==◌, cond, nat_lt, arith, inl}
use Rattle.std.proofs.Common.{inr, ◌-◌, take, drop, Option, Some, None, append_assoc, append-nil}
use Rattle.std.specs.Prelude.{Result, Ok, Err, IfOk, is_some, option_map, option_and_then, slice_range}
use Rattle.std.specs.Float.{binary64}
use Rattle.std.specs.Float.Ieee.{Float}
use Rattle.std.specs.List.{concat, AllByRecursion}
use Rattle.std.specs.Char.{is_ascii_digit}
use Rattle.std.specs.Float.Parse.{float_scan_step, completes_number, without_sign, is_infinity_text, is_nan_text, is_float_text}
use Rattle.std.proofs.lemmas.Bool.{cases_Bool, cond_both, and_parts}
use Rattle.std.proofs.lemmas.Float.Parse.{is_some-parse_float}
use Rattle.fast_float.specs.Parse.{parse_float}
use Rattle.simd_json_parts.proofs.Patterns.Sets.{matches-Matches}
use Rattle.simd_json_parts.specs.Bytes.{byte_at, is_terminator}
use Rattle.simd_json_parts.specs.Derivatives.{matches, longest_prefix}
use Rattle.simd_json_parts.specs.Document.{Document}
use Rattle.simd_json_parts.specs.Integers.{max_magnitude}
use Rattle.simd_json_parts.specs.NumberAt.{number_at, integer_or, first_excess}
use Rattle.simd_json_parts.specs.Patterns.{Pattern, Matches, range, byte, ◌then◌, ◌or◌, many, optional, at_least_one}
use Rattle.simd_json_parts.specs.Numbers.{minus, plus, decimal_point, zero_digit, digit1-9, digit, e, int, frac, exp, number_literal}
use Rattle.simd_json_parts.specs.Numbers.{integer_literal, has_minus, magnitude}
use Rattle.simd_json_parts.specs.Tokens.{scalar, form_at}
use Rattle.simd_json_parts.specs.declared.error.Error.{Error}
use Rattle.simd_json_stages.proofs.Tokens.ScalarLaws.{form_at-number}
use Rattle.simd_json_ondemand.specs.Docs.{text, index_of, literal, number}
use Rattle.simd_json_ondemand.specs.Numerals.{IsDecimalFloat}
use Rattle.simd_json_check.specs.Scalars.{begins_number}
use Rattle.simd_json_ondemand.specs.Standing.{literal_end}
use Rattle.simd_json_ondemand.specs.declared.value.Value.{Value}

-- from state s the pattern leads to state t
abbrev Leads : Pattern → ℕ → ℕ → Type 0
Leads p s t = (xs ys : List ℕ) → Matches p xs → completes_number s (xs ++ ys) ≡ completes_number t ys

one : (low high s t : ℕ) → ((c : ℕ) → low ≤ c → c ≤ high → float_scan_step s c ≡ t) → Leads (range low high) s t
one low high s t step xs ys (c, is, l, h) =
    ap (λ zs. completes_number s (zs ++ ys)) is ∙ ap (λ n. completes_number n ys) (step c l h)

both : (p q : Pattern) (s t u : ℕ) → Leads p s t → Leads q t u → Leads (p then q) s u
both p q s t u f g xs ys (front, bs, is, m, n) =
    ap (λ zs. completes_number s (zs ++ ys)) is ∙ ap (completes_number s) (append_assoc front bs ys) ∙ f front (bs ++ ys) m ∙ g bs ys n

either : (p q : Pattern) (s t : ℕ) → Leads p s t → Leads q s t → Leads (p or q) s t
either p q s t f g xs ys (inl m) = f xs ys m
either p q s t f g xs ys (inr m) = g xs ys m

again : (p : Pattern) (s : ℕ) → Leads p s s → Leads (many p) s s
again p s f xs ys (parts, is, all) = ap (λ zs. completes_number s (zs ++ ys)) is ∙ go parts all
  where
    go : (parts : List (List ℕ)) → AllByRecursion (Matches p) parts → completes_number s (concat parts ++ ys) ≡ completes_number s ys
    go [] h = refl
    go (x ∷ parts) h = ap (completes_number s) (append_assoc x (concat parts) ys) ∙ f x (concat parts ++ ys) h.0 ∙ go parts h.1

-- ---- bytes

is_digit : (c : ℕ) → 48 ≤ c → c ≤ 57 → is_ascii_digit c ≡ true
is_digit c l h = grind arith

-- at a digit
at_digit : (s c : ℕ) → 48 ≤ c → c ≤ 57
    → float_scan_step s c ≡ cond (nat_lt s 2) 1 (cond (nat_lt s 4) 3 (cond (nat_lt s 7) 6 7))
at_digit s c l h =
    ap (λ t. cond t (cond (nat_lt s 2) 1 (cond (nat_lt s 4) 3 (cond (nat_lt s 7) 6 7)))
    (cond (c == 46) (cond (nat_lt s 2) (cond (s == 0) 2 3) 7)
    (cond ((c == 101) || (c == 69)) (cond ((s == 1) || (s == 3)) 4 7)
    (cond (((c == 43) || (c == 45)) && (s == 4)) 5 7)))) (is_digit c l h)

-- at one byte
at_byte : (s k c : ℕ) → k ≤ c → c ≤ k → float_scan_step s c ≡ float_scan_step s k
at_byte s k c l h = let same : c ≡ k = omega arith in ap (float_scan_step s) same

digits : (s : ℕ) → Leads digit s 6 → Leads digit 6 6 → Leads (at_least_one digit) s 6
digits s f g = both digit (many digit) s 6 6 f (again digit 6 g)

-- ---- the parts of a number

whole : Leads int 0 1
whole =
    either zero_digit (digit1-9 then many digit) 0 1 (one 48 48 0 1 (λ c l h. at_digit 0 c (omega arith) (omega arith)))
    (both digit1-9 (many digit) 0 1 1 (one 49 57 0 1 (λ c l h. at_digit 0 c (omega arith) (omega arith)))
    (again digit 1 (one 48 57 1 1 (λ c l h. at_digit 1 c l h))))

fraction : Leads frac 1 3
fraction =
    both decimal_point (at_least_one digit) 1 3 3 (one 46 46 1 3 (λ c l h. at_byte 1 46 c l h))
    (both digit (many digit) 3 3 3 (one 48 57 3 3 (λ c l h. at_digit 3 c l h)) (again digit 3 (one 48 57 3 3 (λ c l h. at_digit 3 c l h))))

-- after the letter: a sign or none, and digits
signed : Leads (optional (minus or plus) then at_least_one digit) 4 6
signed xs ys (front, bs, is, inl none, n) =
    ap (λ zs. completes_number 4 (zs ++ ys)) (is ∙ ap (λ zs. zs ++ bs) none)
    ∙ digits 4 (one 48 57 4 6 (λ c l h. at_digit 4 c l h)) (one 48 57 6 6 (λ c l h. at_digit 6 c l h)) bs ys n
signed xs ys (front, bs, is, inr sign, n) =
    both (minus or plus) (at_least_one digit) 4 5 6
    (either minus plus 4 5 (one 45 45 4 5 (λ c l h. at_byte 4 45 c l h)) (one 43 43 4 5 (λ c l h. at_byte 4 43 c l h)))
    (digits 5 (one 48 57 5 6 (λ c l h. at_digit 5 c l h)) (one 48 57 6 6 (λ c l h. at_digit 6 c l h))) xs ys (front, bs, is, sign, n)

exponent : (s : ℕ) → float_scan_step s 101 ≡ 4 → float_scan_step s 69 ≡ 4 → Leads exp s 6
exponent s small big =
    both e (optional (minus or plus) then at_least_one digit) s 4 6
    (either (byte 101) (byte 69) s 4 (one 101 101 s 4 (λ c l h. at_byte s 101 c l h ∙ small))
    (one 69 69 s 4 (λ c l h. at_byte s 69 c l h ∙ big))) signed

-- ---- a number

-- the end, from a state after digits
ended : (s : ℕ) → completes_number s [] ≡ true → Leads exp s 6 → (es : List ℕ) → Matches (optional exp) es → completes_number s es ≡ true
ended s done lead es (inl none) = ap (completes_number s) none ∙ done
ended s done lead es (inr m) = ap (completes_number s) (sym (append-nil es)) ∙ lead es [] m

unsigned : (xs : List ℕ) → Matches (int then optional frac then optional exp) xs → completes_number 0 xs ≡ true
unsigned xs (front, rest, is, m, (bs, es, next, inl none, n)) =
    ap (completes_number 0) is ∙ whole front rest m ∙ ap (completes_number 1) (next ∙ ap (λ zs. zs ++ es) none)
    ∙ ended 1 refl (exponent 1 refl refl) es n
unsigned xs (front, rest, is, m, (bs, es, next, inr f, n)) =
    ap (completes_number 0) is ∙ whole front rest m ∙ ap (completes_number 1) next ∙ fraction bs es f
    ∙ ended 3 refl (exponent 3 refl refl) es n

-- it begins with a digit
first : (xs : List ℕ) → Matches int xs → (c : ℕ) × (more : List ℕ) × (xs ≡ c ∷ more) × (48 ≤ c) × (c ≤ 57)
first xs (inl (c, is, l, h)) = (c, [], is, omega (arith, l), omega (arith, h))
first xs (inr (front, bs, is, (c, same, l, h), m)) = (c, bs, is ∙ ap (λ zs. zs ++ bs) same, omega (arith, l), h)

no_sign : (c : ℕ) (more : List ℕ) → 48 ≤ c → without_sign (c ∷ more) ≡ c ∷ more
no_sign c more l = grind arith

pub is-float : (xs : List ℕ) → Matches number_literal xs → is_float_text xs ≡ true
is-float xs m = ap (λ t. t || (is_infinity_text (without_sign xs) || is_nan_text (without_sign xs))) (complete xs m)
  where
    complete : (xs : List ℕ) → Matches number_literal xs → completes_number 0 (without_sign xs) ≡ true
    complete xs (front, rest, is, inl none, (front', more, here, m, n)) =
        let start = first front' m in
        let all : xs ≡ start.0 ∷ start.1 ++ more = is ∙ ap (λ zs. zs ++ rest) none ∙ here ∙ ap (λ zs. zs ++ more) start.2 in
        ap (λ zs. completes_number 0 (without_sign zs)) all ∙ ap (completes_number 0) (no_sign start.0 (start.1 ++ more) start.3)
        ∙ ap (completes_number 0) (sym all ∙ is ∙ ap (λ zs. zs ++ rest) none) ∙ unsigned rest (front', more, here, m, n)
    complete xs (front, rest, is, inr (c, same, l, h), m) =
        let all : xs ≡ c ∷ rest = is ∙ ap (λ zs. zs ++ rest) same in
        let minus : c ≡ 45 = omega (arith, l, h) in
        ap (λ zs. completes_number 0 (without_sign zs)) (all ∙ ap (λ x. x ∷ rest) minus) ∙ unsigned rest m

-- ---- the literal at a value

module _ (b : List ℕ) (i : ℕ) where
  -- what is read is a literal of the grammar
  read-literal : IfOk (number_at b i) (λ p. matches number_literal (slice_range b i p.1) ≡ true)
  unfolding number_at
  read-literal =
      cond_both (matches number_literal xs && is_terminator (byte_at b end)) _ _ Right
      (λ h. cond_both (matches integer_literal xs) _ _ Right (λ _. range (first_excess xs) (right h)) (λ _. right h)) (λ _. tt)
    where
      Right : Result (Document × ℕ) Error → Type 0
      Right r = IfOk r (λ p. matches number_literal (slice_range b i p.1) ≡ true)

      n : ℕ
      n = longest_prefix number_literal (drop i b)

      xs : List ℕ
      xs = take n (drop i b)

      end : ℕ
      end = i + n

      right : (matches number_literal xs && is_terminator (byte_at b end)) ≡ true → matches number_literal (slice_range b i end) ≡ true
      right h = let same : end - i ≡ n = omega arith in
          ap (λ k. matches number_literal (take k (drop i b))) same ∙ (and_parts _ _ h).0

      range : (o : Option ℕ) → matches number_literal (slice_range b i end) ≡ true → Right (integer_or b i xs end o)
      range (Some k) h = tt
      range None h = cond_both (nat_lt (max_magnitude (has_minus xs)) (magnitude xs)) _ _ Right (λ _. tt) (λ _. h)

  float-there : (r : Result (Document × ℕ) Error) → IfOk r (λ p. matches number_literal (slice_range b i p.1) ≡ true)
      → is_some (option_and_then (parse_float binary64) (option_map (slice_range b i) (literal_end b i (scalar r))))
      ≡ is_some (option_map (slice_range b i) (literal_end b i (scalar r)))
  float-there (Ok s) h = is_some-parse_float binary64 (slice_range b i s.1)
      ∙ is-float (slice_range b i s.1) (matches-Matches number_literal (slice_range b i s.1) h)
  float-there (Err f) h = refl

pub number-float : (v : Value) → is_some (option_and_then (parse_float binary64) (number v)) ≡ is_some (number v)
number-float v =
    elim (cases_Bool (begins_number (byte_at b i))) [
      | inl begins ↦ ap (λ t. is_some (option_and_then (parse_float binary64) (cond t (literal v) None))) begins
          ∙ ap (λ form. is_some (option_and_then (parse_float binary64) (option_map (slice_range b i) (literal_end b i form))))
          (token begins)
          ∙ float-there b i (number_at b i) (read-literal b i)
          ∙ sym (ap (λ t. is_some (cond t (literal v) None)) begins
          ∙ ap (λ form. is_some (option_map (slice_range b i) (literal_end b i form))) (token begins))
      | inr other ↦ ap (λ t. is_some (option_and_then (parse_float binary64) (cond t (literal v) None))) other
          ∙ sym (ap (λ t. is_some (cond t (literal v) None)) other)
    ]
  where
    b : List ℕ
    b = text v.document

    i : ℕ
    i = index_of v

    token : begins_number (byte_at b i) ≡ true → form_at b i ≡ scalar (number_at b i)
    token begins = form_at-number b i (byte_at b i) refl begins

-- so the literal is the text of a float
pub some-float : (v : Value) (xs : List ℕ) → number v ≡ Some xs → is_float_text xs ≡ is_some (number v)
some-float v xs is =
    sym (is_some-parse_float binary64 xs) ∙ ap (λ o. is_some (option_and_then (parse_float binary64) o)) (sym is) ∙ number-float v

-- a decimal that begins at the value, and the float nearest to it
pub decimal-float : (v : Value) → begins_number (byte_at (text v.document) (index_of v)) ≡ true → (x : Float)
    → IsDecimalFloat (text v.document) (index_of v) x → option_and_then (parse_float binary64) (number v) ≡ Some x
decimal-float v begins x (len, there, float) =
    let b : List ℕ = text v.document in
    let i : ℕ = index_of v in
    let span : (i + len) - i ≡ len = omega arith in
    ap (λ t. option_and_then (parse_float binary64) (cond t (literal v) None)) begins
    ∙ ap (λ form. option_and_then (parse_float binary64) (option_map (slice_range b i) (literal_end b i form)))
    (form_at-number b i (byte_at b i) refl begins ∙ ap scalar there)
    ∙ ap (λ n. parse_float binary64 (take n (drop i b))) span ∙ float
