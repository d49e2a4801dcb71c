-- What a computation shows of each number below a bound.
use Rattle.std.proofs.Common.{◌≡◌, refl, ℕ, zero, suc, ◌<◌, Bool, true, false, ◌&&◌, inl, inr, T, arith, subst}
use Rattle.std.proofs.lemmas.Bool.{cases_lt}

-- f is true at each number below n
abbrev pub upto : (ℕ → Bool) → ℕ → Bool
upto f zero = true
upto f (suc n) = f n && upto f n

both : (s t : Bool) → T (s && t) → T s × T t
both true true h = (tt, tt)
both true false h = absurd h
both false t h = absurd h

pub upto_sound : (f : ℕ → Bool) (n : ℕ) → T (upto f n) → (i : ℕ) → i < n → T (f i)
upto_sound f zero h i l = absurd (omega arith)
upto_sound f (suc n) h i l = elim (cases_lt i n) [
  | inl below ↦ upto_sound f n (both (f n) (upto f n) h).1 i below
  | inr there ↦ let last : n ≡ i = omega arith in subst (λ k. T (f k)) last (both (f n) (upto f n) h).0
]

abbrev pub same : Bool → Bool → Bool
same true true = true
same true false = false
same false true = false
same false false = true

pub same_is : (s t : Bool) → T (same s t) → s ≡ t
same_is true true h = refl
same_is true false h = absurd h
same_is false true h = absurd h
same_is false false h = refl

-- ---- of booleans, by their tables

abbrev pub table : (Bool → Bool) → (Bool → Bool) → Bool
table f g = same (f true) (g true) && same (f false) (g false)

pub equal-one : (f g : Bool → Bool) → T (table f g) → (s : Bool) → f s ≡ g s
equal-one f g h true = same_is _ _ (both (same (f true) (g true)) (same (f false) (g false)) h).0
equal-one f g h false = same_is _ _ (both (same (f true) (g true)) (same (f false) (g false)) h).1

abbrev pub table2 : (Bool → Bool → Bool) → (Bool → Bool → Bool) → Bool
table2 f g = table (f true) (g true) && table (f false) (g false)

pub equal-two : (f g : Bool → Bool → Bool) → T (table2 f g) → (s t : Bool) → f s t ≡ g s t
equal-two f g h true = equal-one (f true) (g true) (both (table (f true) (g true)) (table (f false) (g false)) h).0
equal-two f g h false = equal-one (f false) (g false) (both (table (f true) (g true)) (table (f false) (g false)) h).1

pub equal-three : (f g : Bool → Bool → Bool → Bool) → T (table2 (f true) (g true) && table2 (f false) (g false))
    → (s t u : Bool) → f s t u ≡ g s t u
equal-three f g h true = equal-two (f true) (g true) (both (table2 (f true) (g true)) (table2 (f false) (g false)) h).0
equal-three f g h false = equal-two (f false) (g false) (both (table2 (f true) (g true)) (table2 (f false) (g false)) h).1

-- and of two bits
pub equal-bits : (f g : ℕ → ℕ → Bool) → T (upto (λ a. upto (λ b. same (f a b) (g a b)) 2) 2) → (a b : ℕ) → a < 2 → b < 2 → f a b ≡ g a b
equal-bits f g all a b l m = same_is _ _ (upto_sound (λ d. same (f a d) (g a d)) 2
    (upto_sound (λ d. upto (λ e. same (f d e) (g d e)) 2) 2 all a l) b m)
