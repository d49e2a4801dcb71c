-- The table of the bytes that a value may begin with, proved once by computing.
use Rattle.std.proofs.Common.{◌≡◌, refl, sym, ◌∙◌, ap, ℕ, zero, suc, ◌+◌, ◌<◌, List, [], ◌∷◌, length, get_or, Bool, true, false}
use Rattle.std.proofs.Common.{add-zero, arith}
use Rattle.std.proofs.lemmas.Bool.{and_parts}
use Rattle.simd_json_parts.proofs.Tables.{agree, lists_tests}
use Rattle.simd_json_ondemand.specs.Walks.{may_begin_value}

agree-same : (t u : Bool) → agree t u ≡ true → t ≡ u
agree-same true true e = refl
agree-same false false e = refl
agree-same true false e = sym e
agree-same false true e = e

tests-from : (f : ℕ → Bool) (k : ℕ) (ts : List Bool) (i : ℕ) → lists_tests f k ts ≡ true → i < length ts → get_or ts i false ≡ f (k + i)
tests-from f k [] i all l = absurd (omega arith)
tests-from f k (t ∷ ts) zero all l = agree-same t (f k) (and_parts _ _ all).0 ∙ ap f (sym (add-zero k))
tests-from f k (t ∷ ts) (suc i) all l =
    let later : suc k + i ≡ k + suc i = omega arith in
    tests-from f (suc k) ts i (and_parts _ _ all).1 (omega arith) ∙ ap f later

pub beginnings : (ts : List Bool) (c : ℕ) → lists_tests may_begin_value 0 ts ≡ true → c < length ts → get_or ts c false ≡ may_begin_value c
beginnings ts c all l = let same : 0 + c ≡ c = omega arith in tests-from may_begin_value 0 ts c all l ∙ ap may_begin_value same
