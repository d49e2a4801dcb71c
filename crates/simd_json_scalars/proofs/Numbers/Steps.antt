-- What stands after each part of a number's literal: the derivatives of its pattern, byte by byte.
use Rattle.std.proofs.Common.{◌≡◌, ◌≢◌, refl, sym, ◌∙◌, ap, subst, ℕ, ◌+◌, ◌≤◌, ◌<◌, ◌⊎◌, inl, inr, List, length, drop, true, false}
use Rattle.std.proofs.Common.{◌&&◌, ◌==◌, nat_le, if◌then◌else◌, Result, Ok, Err, arith}
use Rattle.std.specs.Char.{is_ascii_digit}
use Rattle.std.specs.List.{prefix_len}
use Rattle.std.proofs.lemmas.Bool.{cases_Bool, cond-true, cond-false, both_ways, and_parts, and_from, le-leb, leb-true, eqb-true}
use Rattle.std.proofs.lemmas.Bool.{eqb-false, false_from_ne_true}
use Rattle.simd_json_parts.specs.Bytes.{byte_at, is_terminator}
use Rattle.simd_json_parts.specs.Patterns.{Pattern, never, empty, ◌then◌, ◌or◌, many, optional, at_least_one}
use Rattle.simd_json_parts.specs.Numbers.{number_literal, integer_literal, int, frac, exp, digit, minus, plus}
use Rattle.simd_json_parts.specs.Derivatives.{derivative}
use Rattle.simd_json_scalars.proofs.Numbers.Prefixes.{Leads, Leads-Leads, Leads-to, stay, over_byte, Reads, Leads-Reads}
use Rattle.simd_json_scalars.proofs.Numbers.Prefixes.{Reads-whole, Reads-part, run-digit, TakesDigits, over_digits, no_digits}

-- ---- what the tests of a pattern give at a byte

-- at another byte than d
no_byte : (d c : ℕ) → c ≢ d → (nat_le d c && nat_le c d) ≡ false
no_byte d c n =
    false_from_ne_true _ (λ y.
    let both : (nat_le d c ≡ true) × (nat_le c d ≡ true) = and_parts _ _ y in
    n (omega (arith, leb-true d c both.0, leb-true c d both.1)))

-- at a digit, where d is none
pub no_digit : (d c : ℕ) → is_ascii_digit c ≡ true → is_ascii_digit d ≡ false → (nat_le d c && nat_le c d) ≡ false
no_digit d c h n = no_byte d c (λ e. both_ways (is_ascii_digit d) n (ap is_ascii_digit (sym e) ∙ h))

-- at no digit, where d is one
no_digit_byte : (d c : ℕ) → is_ascii_digit c ≡ false → is_ascii_digit d ≡ true → (nat_le d c && nat_le c d) ≡ false
no_digit_byte d c h n = no_byte d c (λ e. both_ways (is_ascii_digit c) h (ap is_ascii_digit e ∙ n))

-- at 1 to 9
nonzero : (c : ℕ) → c ≢ 48 → is_ascii_digit c ≡ true → (nat_le 49 c && nat_le c 57) ≡ true
nonzero c n h =
    let both : (nat_le 48 c ≡ true) × (nat_le c 57 ≡ true) = and_parts _ _ h in
    let low : 48 ≤ c = leb-true 48 c both.0 in
    and_from _ _ (le-leb 49 c (omega arith)) both.1

no_nonzero : (c : ℕ) → is_ascii_digit c ≡ false → (nat_le 49 c && nat_le c 57) ≡ false
no_nonzero c h =
    false_from_ne_true _ (λ y.
    let both : (nat_le 49 c ≡ true) × (nat_le c 57 ≡ true) = and_parts _ _ y in
    both_ways (is_ascii_digit c) h (and_from _ _ (le-leb 48 c (omega (arith, leb-true 49 c both.0))) both.1))

-- ---- the exponent

abbrev exp_digits : Pattern
exp_digits = at_least_one digit

abbrev after_mark : Pattern
after_mark = optional (minus or plus) then exp_digits

takes_exp_digits : TakesDigits (many digit) empty
takes_exp_digits = record {
  possible = refl;
  each = λ c h. rw h refl;
  after = λ c h. rw h refl;
  ends = refl;
}

first_exp_digit : (c : ℕ) → is_ascii_digit c ≡ true → derivative c exp_digits ≡ many digit
first_exp_digit c h = rw h refl

no_exp_digit : (c : ℕ) → is_ascii_digit c ≡ false → derivative c exp_digits ≡ never
no_exp_digit c h = rw h refl

no_sign : (c : ℕ) → c ≢ 45 → c ≢ 43 → derivative c after_mark ≡ derivative c exp_digits
no_sign c x y = rw (no_byte 45 c x, no_byte 43 c y) refl

-- a mark stands at i, and a sign after it if the digits are to stand at j = i + 2
pub record IsMarked (b : List ℕ) (i j : ℕ) : Type 0 where
  pub mark : (byte_at b i ≡ 69) ⊎ (byte_at b i ≡ 101)
  pub sign : ((byte_at b (i + 1) ≡ 43) ⊎ (byte_at b (i + 1) ≡ 45)) × (j ≡ i + 1 + 1)
      ⊎ (byte_at b (i + 1) ≢ 43) × (byte_at b (i + 1) ≢ 45) × (j ≡ i + 1)

over_mark : (b : List ℕ) (i : ℕ) → (byte_at b i ≡ 69) ⊎ (byte_at b i ≡ 101) → Leads b (optional exp) i after_mark (i + 1)
over_mark b i (inl e) = over_byte b (optional exp) after_mark i 69 e refl refl refl
over_mark b i (inr e) = over_byte b (optional exp) after_mark i 101 e refl refl refl

over_sign : (b : List ℕ) (i j : ℕ) → i ≤ length b
    → ((byte_at b i ≡ 43) ⊎ (byte_at b i ≡ 45)) × (j ≡ i + 1) ⊎ (byte_at b i ≢ 43) × (byte_at b i ≢ 45) × (j ≡ i)
    → Leads b after_mark i exp_digits j
over_sign b i j l (inl (inl e, at)) =
    Leads-to b after_mark exp_digits i (i + 1) j at (over_byte b after_mark exp_digits i 43 e refl refl refl)
over_sign b i j l (inl (inr e, at)) =
    Leads-to b after_mark exp_digits i (i + 1) j at (over_byte b after_mark exp_digits i 45 e refl refl refl)
over_sign b i j l (inr (p, m, at)) =
    Leads-to b after_mark exp_digits i i j at (stay b after_mark exp_digits i l refl (no_sign (byte_at b i) m p))

IsMarked-Leads : (b : List ℕ) (i j : ℕ) → IsMarked b i j → Leads b (optional exp) i exp_digits j
IsMarked-Leads b i j m =
    let x : Leads b (optional exp) i after_mark (i + 1) = over_mark b i m.mark in
    Leads-Leads b (optional exp) after_mark exp_digits i (i + 1) j x (over_sign b (i + 1) j x.inside m.sign)

pub exponent-whole : (b : List ℕ) (i j end : ℕ) → IsMarked b i j → end ≡ j + prefix_len is_ascii_digit (drop j b)
    → j < end → Reads (optional exp) b i (Ok end)
exponent-whole b i j end m run some =
    let x : Leads b (optional exp) i exp_digits j = IsMarked-Leads b i j m in
    Leads-Reads b (optional exp) exp_digits i j (Ok end) x
    (Reads-whole b exp_digits j end (over_digits b exp_digits (many digit) empty j end x.inside run some
    (first_exp_digit (byte_at b j) (run-digit b j end x.inside run j (omega arith) some))
    takes_exp_digits))

pub exponent-part : (b : List ℕ) (i j end : ℕ) → IsMarked b i j → end ≡ j + prefix_len is_ascii_digit (drop j b)
    → end ≡ j → Reads (optional exp) b i (Err end)
exponent-part b i j end m run none =
    let x : Leads b (optional exp) i exp_digits j = IsMarked-Leads b i j m in
    Leads-Reads b (optional exp) exp_digits i j (Err end) x
    (Reads-part b exp_digits j end (no_digits b exp_digits j end x.inside run none refl no_exp_digit))

-- Nothing of it stands before a terminator.
pub no-exponent : (b : List ℕ) (i : ℕ) → i ≤ length b → is_terminator (byte_at b i) ≡ true → Reads (optional exp) b i (Ok i)
no-exponent b i inside t =
    let other : (d : ℕ) → is_terminator d ≡ false → byte_at b i ≢ d =
    λ d f e. both_ways (is_terminator d) f (ap is_terminator (sym e) ∙ t) in
    Reads-whole b (optional exp) i i
    (stay b (optional exp) empty i inside refl (rw (no_byte 101 _ (other 101 refl), no_byte 69 _ (other 69 refl)) refl))

-- ---- the fraction

abbrev pub after_int : Pattern
after_int = optional frac then optional exp

abbrev after_point : Pattern
after_point = at_least_one digit then optional exp

takes_fraction : TakesDigits (many digit then optional exp) (optional exp)
takes_fraction = record {
  possible = refl;
  each = λ c h. rw (h, no_digit 101 c h refl, no_digit 69 c h refl) refl;
  after = λ c h. rw h refl;
  ends = refl;
}

first_fraction_digit : (c : ℕ) → is_ascii_digit c ≡ true → derivative c after_point ≡ many digit then optional exp
first_fraction_digit c h = rw h refl

no_fraction_digit : (c : ℕ) → is_ascii_digit c ≡ false → derivative c after_point ≡ never
no_fraction_digit c h = rw h refl

over_point : (b : List ℕ) (i : ℕ) → byte_at b i ≡ 46 → Leads b after_int i after_point (i + 1)
over_point b i e = over_byte b after_int after_point i 46 e refl refl refl

pub fraction-part : (b : List ℕ) (i end : ℕ) → byte_at b i ≡ 46
    → end ≡ i + 1 + prefix_len is_ascii_digit (drop (i + 1) b) → end ≡ i + 1 → Reads after_int b i (Err end)
fraction-part b i end e run none =
    let x : Leads b after_int i after_point (i + 1) = over_point b i e in
    Leads-Reads b after_int after_point i (i + 1) (Err end) x
    (Reads-part b after_point (i + 1) end (no_digits b after_point (i + 1) end x.inside run none refl no_fraction_digit))

-- at another byte than the point
pub no-fraction : (b : List ℕ) (i : ℕ) (result : Result ℕ ℕ) → i ≤ length b → byte_at b i ≢ 46 → Reads (optional exp) b i result
    → Reads after_int b i result
no-fraction b i result inside n r =
    Leads-Reads b after_int (optional exp) i i result (stay b after_int (optional exp) i inside refl (rw (no_byte 46 _ n) refl)) r

pub fraction-exponent : (b : List ℕ) (i end : ℕ) (result : Result ℕ ℕ) → byte_at b i ≡ 46
    → end ≡ i + 1 + prefix_len is_ascii_digit (drop (i + 1) b) → i + 1 < end
    → Reads (optional exp) b end result → Reads after_int b i result
fraction-exponent b i end result e run some r =
    let x : Leads b after_int i after_point (i + 1) = over_point b i e in
    Leads-Reads b after_int after_point i (i + 1) result x
    (Leads-Reads b after_point (optional exp) (i + 1) end result
    (over_digits b after_point (many digit then optional exp) (optional exp) (i + 1) end x.inside run some
    (first_fraction_digit (byte_at b (i + 1)) (run-digit b (i + 1) end x.inside run (i + 1) (omega arith) some))
    takes_fraction)
    r)

-- ---- the integer part

abbrev after_sign : Pattern
after_sign = int then after_int

takes_int : TakesDigits (many digit then after_int) after_int
takes_int = record {
  possible = refl;
  each = λ c h. rw (h, no_digit 46 c h refl, no_digit 101 c h refl, no_digit 69 c h refl) refl;
  after = λ c h. rw h refl;
  ends = refl;
}

first_digit : (c : ℕ) → c ≢ 48 → is_ascii_digit c ≡ true → derivative c after_sign ≡ many digit then after_int
first_digit c n h = rw (no_byte 48 c n, nonzero c n h) refl

first_digit-int : (c : ℕ) → c ≢ 48 → is_ascii_digit c ≡ true → derivative c int ≡ many digit
first_digit-int c n h = rw (no_byte 48 c n, nonzero c n h) refl

no_int : (c : ℕ) → is_ascii_digit c ≡ false → derivative c after_sign ≡ never
no_int c h = rw (no_digit_byte 48 c h refl, no_nonzero c h) refl

-- the minus, if any
abbrev pub SignEnd : List ℕ → ℕ → Type 0
SignEnd b j = (byte_at b 0 ≡ 45) × (j ≡ 1) ⊎ (byte_at b 0 ≢ 45) × (j ≡ 0)

sign-number : (b : List ℕ) (j : ℕ) → SignEnd b j → Leads b number_literal 0 after_sign j
sign-number b j (inl (e, at)) = Leads-to b number_literal after_sign 0 1 j at (over_byte b number_literal after_sign 0 45 e refl refl refl)
sign-number b j (inr (n, at)) = Leads-to b number_literal after_sign 0 0 j at
    (stay b number_literal after_sign 0 (omega arith) refl (rw (no_byte 45 (byte_at b 0) n) refl))

sign-integer : (b : List ℕ) (j : ℕ) → SignEnd b j → Leads b integer_literal 0 int j
sign-integer b j (inl (e, at)) = Leads-to b integer_literal int 0 1 j at (over_byte b integer_literal int 0 45 e refl refl refl)
sign-integer b j (inr (n, at)) =
    Leads-to b integer_literal int 0 0 j at (stay b integer_literal int 0 (omega arith) refl (rw (no_byte 45 (byte_at b 0) n) refl))

-- an integer's literal, up to whole
pub record IsWhole (b : List ℕ) (whole : ℕ) : Type 0 where
  pub number : Leads b number_literal 0 after_int whole
  pub integer : Leads b integer_literal 0 empty whole

module _ (b : List ℕ) (j whole : ℕ) (sign : SignEnd b j) where
  over_zero : byte_at b j ≡ 48 → whole ≡ j + 1 → IsWhole b whole
  over_zero e w =
      subst (IsWhole b) (sym w) (record {
        number = Leads-Leads b number_literal after_sign after_int 0 j (j + 1) (sign-number b j sign)
            (over_byte b after_sign after_int j 48 e refl refl refl);
        integer = Leads-Leads b integer_literal int empty 0 j (j + 1) (sign-integer b j sign) (over_byte b int empty j 48 e refl refl refl);
      })

  over_int : byte_at b j ≢ 48 → whole ≡ j + prefix_len is_ascii_digit (drop j b) → j < whole → IsWhole b whole
  over_int n run some =
      let number : Leads b number_literal 0 after_sign j = sign-number b j sign in
      let first : is_ascii_digit (byte_at b j) ≡ true = run-digit b j whole number.inside run j (omega arith) some in
      record {
        number = Leads-Leads b number_literal after_sign after_int 0 j whole number
            (over_digits b after_sign (many digit then after_int) after_int j whole number.inside run some
            (first_digit (byte_at b j) n first) takes_int);
        integer = Leads-Leads b integer_literal int empty 0 j whole (sign-integer b j sign)
            (over_digits b int (many digit) empty j whole number.inside run some
            (first_digit-int (byte_at b j) n first) takes_exp_digits);
      }

  -- from the contract of the function that finds the end of the integer part
  module _ (end : whole ≡ (if byte_at b j == 48 then j + 1 else j + prefix_len is_ascii_digit (drop j b))) where
    pub int-whole : whole ≢ j → IsWhole b whole
    int-whole n =
        elim (cases_Bool (byte_at b j == 48)) [
          | inl t ↦ over_zero (eqb-true (byte_at b j) 48 t) (end ∙ cond-true _ _ _ t)
          | inr f ↦
              let run : whole ≡ j + prefix_len is_ascii_digit (drop j b) = end ∙ cond-false _ _ _ f in
              over_int (eqb-false (byte_at b j) 48 f) run (omega arith)
        ]

    pub int-none : whole ≡ j → Leads b number_literal 0 never whole
    int-none e =
        let number : Leads b number_literal 0 after_sign j = sign-number b j sign in
        elim (cases_Bool (byte_at b j == 48)) [
          | inl t ↦ let zero : whole ≡ j + 1 = end ∙ cond-true _ _ _ t in absurd (omega arith)
          | inr f ↦
              let run : whole ≡ j + prefix_len is_ascii_digit (drop j b) = end ∙ cond-false _ _ _ f in
              Leads-Leads b number_literal after_sign never 0 j whole number
              (no_digits b after_sign j whole number.inside run e refl no_int)
        ]
