-- What `parse` reads of a word that has digits alone.
use Rattle.std.proofs.Common.{◌≡◌, refl, sym, ap, ◌∙◌, ℕ, ◌<◌, ◌^◌, List, [], ◌∷◌, length, Bool, true, false, ◌&&◌, cond, nat_lt}
use Rattle.std.proofs.Common.{Some, None, Result, Ok, Err}
use Rattle.std.specs.Char.{is_ascii_digit}
use Rattle.std.specs.List.{list_all}
use Rattle.std.specs.Result.{OkIff, result_ok}
use Rattle.std.specs.Str.{all_ascii_digits}
use Rattle.std.specs.Str.Parse.{ParsesUnsigned, digits_value}
use Rattle.std.proofs.lemmas.Bool.{lt-ltb, ltb-true, false≢true}
use Rattle.std.proofs.lemmas.Str.Parse.{numerals_by_value, tells_all_ascii_digits, parse_digits}
use Rattle.jtape.specs.Settings.{word_number}

digits-all : (ds : List ℕ) → list_all is_ascii_digit ds ≡ all_ascii_digits ds
digits-all [] = refl
digits-all (d ∷ ds) = ap (λ t. is_ascii_digit d && t) (digits-all ds)

if_all : {A : Type 0} (p q r : Bool) (x y : A) → p ≡ true → q ≡ true → r ≡ true → cond (p && q && r) x y ≡ x
if_all true true true x y p q r = refl
if_all false q r x y is _ _ = absurd (false≢true is)
if_all true false r x y _ is _ = absurd (false≢true is)
if_all true true false x y _ _ is = absurd (false≢true is)

unless_all : {A : Type 0} (p q r : Bool) (x y : A) → (q ≡ true → r ≡ true → ⊥) → cond (p && q && r) x y ≡ y
unless_all true true true x y none = absurd (none refl refl)
unless_all true true false x y none = refl
unless_all true false r x y none = refl
unless_all false q r x y none = refl

read-as : {E : Type 0} (word : List ℕ) (r : Result ℕ E) → list_all is_ascii_digit word ≡ true
    → OkIff r ((0 < length word) × (digits_value 10 word < 2 ^ 64)) (digits_value 10 word) → result_ok r ≡ word_number word
read-as word (Ok x) digits h =
    ap Some h.1 ∙ sym (if_all (list_all is_ascii_digit word) (nat_lt 0 (length word)) (nat_lt (digits_value 10 word) (2 ^ 64))
    (Some (digits_value 10 word)) None digits (lt-ltb 0 (length word) h.0.0) (lt-ltb (digits_value 10 word) (2 ^ 64) h.0.1))
read-as word (Err e) digits h =
    sym (unless_all (list_all is_ascii_digit word) (nat_lt 0 (length word)) (nat_lt (digits_value 10 word) (2 ^ 64))
    (Some (digits_value 10 word)) None (λ p q. h (ltb-true 0 (length word) p, ltb-true (digits_value 10 word) (2 ^ 64) q)))

pub number-read : {E : Type 0} (word : List ℕ) (r : Result ℕ E) → list_all is_ascii_digit word ≡ true → ParsesUnsigned 64 10 word r
    → result_ok r ≡ word_number word
number-read word r digits parsed =
    read-as word r digits (parse_digits (numerals_by_value (λ ds. all_ascii_digits ds ≡ true) tells_all_ascii_digits)
    64 word r parsed (sym (digits-all word) ∙ digits))
