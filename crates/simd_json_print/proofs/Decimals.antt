-- Numbers in decimal: how many digits they have, and that they stand where they are written.
use Rattle.std.proofs.Common.{◌≡◌, ◌∙◌, ap, sym, refl, ℕ, zero, suc, ◌+◌, ◌*◌, ◌/◌, ◌^◌, ◌<◌, ◌≤◌, List, ◌++◌, length, take, drop}
use Rattle.std.proofs.Common.{length-append, take-add, arith, take_at}
use Rattle.std.proofs.lemmas.Fmt.{decimal_nonempty, decimal_step, length-decimal-le}
use Rattle.std.proofs.Math.Nat.{pow-succ'}
use Rattle.std.specs.Fmt.{decimal}

positive : (k : ℕ) → 0 < 10 ^ k
positive zero = omega arith
positive (suc k) = omega (arith, pow-succ' 10 k, positive k)

long : (k n : ℕ) → 10 ^ k ≤ n → n < 2 ^ 64 → k < length (decimal n)
long zero n l h = decimal_nonempty n h
long (suc k) n l h =
    let more = pow-succ' 10 k in
    let some = positive k in
    let step = ap length (decimal_step n (omega (arith, more, some)) h) ∙ length-append (decimal (n / 10)) _ in
    omega (arith, more, step, long k (n / 10) (omega (arith, more)) (omega arith))

pub digits-count : (k n : ℕ) → 10 ^ k ≤ n → n < 10 * 10 ^ k → n < 2 ^ 64 → k + 1 ≡ length (decimal n)
digits-count k n l u h =
    let more = pow-succ' 10 k in
    omega (arith, long k n l h, length-decimal-le (suc k) n (omega arith) (omega (arith, more)) h)

-- from an index on, with what stood in front of it
pub stored-digits : (old new digits : List ℕ) (at from end : ℕ) → from + length digits ≡ end → end ≡ at + length digits
    → drop from new ≡ digits ++ drop end old → take from new ≡ take from old → take end new ≡ take at old ++ digits
stored-digits old new digits at from end start size written before =
    let place : from + length digits ≡ end = omega arith in
    let same : from ≡ at = omega arith in
    ap (λ i. take i new) (sym place)
    ∙ take-add from (length digits) new
    ∙ ap (λ us. us ++ take (length digits) (drop from new)) (before ∙ ap (λ i. take i old) same)
    ∙ ap (λ us. take at old ++ us) (ap (take (length digits)) written ∙ take_at digits (drop end old) (length digits) refl)
