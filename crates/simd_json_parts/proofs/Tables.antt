-- The rule of a table, proved once by computing.
use Rattle.std.proofs.Common.{◌≡◌, refl, sym, ◌∙◌, ap, ℕ, zero, suc, ◌+◌, ◌<◌, List, [], ◌∷◌, length, get_or, Bool, true, false}
use Rattle.std.proofs.Common.{not, cond, ◌&&◌, nat_eq, add-zero, arith}
use Rattle.std.proofs.lemmas.Bool.{eqb-true, and_parts}
use Rattle.simd_json_parts.specs.Bytes.{is_terminator}

-- the entries are the values of f from k on
abbrev pub lists_values : (ℕ → ℕ) → ℕ → List ℕ → Bool
lists_values f k [] = true
lists_values f k (x ∷ xs) = nat_eq x (f k) && lists_values f (suc k) xs

-- the entry so far after index k
values-from : (f : ℕ → ℕ) (k : ℕ) (xs : List ℕ) (i d : ℕ) → lists_values f k xs ≡ true → i < length xs → get_or xs i d ≡ f (k + i)
values-from f k [] i d all l = absurd (omega arith)
values-from f k (x ∷ xs) zero d all l = eqb-true x (f k) (and_parts _ _ all).0 ∙ ap f (sym (add-zero k))
values-from f k (x ∷ xs) (suc i) d all l =
    let later : suc k + i ≡ k + suc i = omega arith in
    values-from f (suc k) xs i d (and_parts _ _ all).1 (omega arith) ∙ ap f later

-- Each entry of such a table is the value of its index.
pub table-value : (f : ℕ → ℕ) (xs : List ℕ) (i d : ℕ) → lists_values f 0 xs ≡ true → i < length xs → get_or xs i d ≡ f i
table-value f xs i d all l = let same : 0 + i ≡ i = omega arith in values-from f 0 xs i d all l ∙ ap f same

-- ---- tables of tests

-- both or neither
abbrev pub agree : Bool → Bool → Bool
agree t u = cond t u (not u)

agree-same : (t u : Bool) → agree t u ≡ true → t ≡ u
agree-same true true e = refl
agree-same false false e = refl
agree-same true false e = sym e
agree-same false true e = e

-- the entries are the answers of f from k on
abbrev pub lists_tests : (ℕ → Bool) → ℕ → List Bool → Bool
lists_tests f k [] = true
lists_tests f k (t ∷ ts) = agree t (f k) && lists_tests f (suc k) ts

tests-from : (f : ℕ → Bool) (k : ℕ) (ts : List Bool) (i : ℕ) (d : Bool) → lists_tests f k ts ≡ true → i < length ts
    → get_or ts i d ≡ f (k + i)
tests-from f k [] i d all l = absurd (omega arith)
tests-from f k (t ∷ ts) zero d all l = agree-same t (f k) (and_parts _ _ all).0 ∙ ap f (sym (add-zero k))
tests-from f k (t ∷ ts) (suc i) d all l =
    let later : suc k + i ≡ k + suc i = omega arith in
    tests-from f (suc k) ts i d (and_parts _ _ all).1 (omega arith) ∙ ap f later

-- Each byte that may stand after a scalar is marked in such a table.
pub terminators-table : (ts : List Bool) (c : ℕ) → lists_tests is_terminator 0 ts ≡ true → c < length ts
    → get_or ts c false ≡ is_terminator c
terminators-table ts c all l = let same : 0 + c ≡ c = omega arith in tests-from is_terminator 0 ts c false all l ∙ ap is_terminator same
