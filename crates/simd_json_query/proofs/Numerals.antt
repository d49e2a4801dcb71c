-- Bytes of which none ends a number are one if the reader of numbers accepts them.
use Rattle.std.proofs.Common.{◌≡◌, refl, sym, ap, subst, ℕ, ◌+◌, ◌≤◌, ◌<◌, List, length, take, Bool, true, false, true≢false}
use Rattle.std.proofs.Common.{arith}
use Rattle.std.specs.Prelude.{Result, Ok, Err, is_ok, ◌&&◌, if◌then◌else◌}
use Rattle.std.proofs.lemmas.List.{take_all}
use Rattle.simd_json_parts.specs.Bytes.{byte_at, is_terminator}
use Rattle.simd_json_parts.specs.Derivatives.{matches, longest_prefix}
use Rattle.simd_json_parts.specs.Document.{Document}
use Rattle.simd_json_parts.specs.NumberAt.{number_at}
use Rattle.simd_json_parts.specs.Numbers.{number_literal}
use Rattle.simd_json_parts.specs.Patterns.{Matches}
use Rattle.simd_json_parts.proofs.Patterns.Sets.{matches-Matches}
use Rattle.simd_json_scalars.proofs.Numbers.Literals.{integer-number}
use Rattle.simd_json_scalars.specs.NumeralRead.{IsIntegerLiteral}

-- no byte of these ends a number
abbrev pub Unended : List ℕ → Type 0
Unended bs = (k : ℕ) → k < length bs → is_terminator (byte_at bs k) ≡ false

ok-true : {X E : Type 0} (c : Bool) (x : Result X E) (e : E) (v : X) → (if c then x else Err e) ≡ Ok v → c ≡ true
ok-true true x e v is = refl
ok-true false x e v is = absurd (true≢false (sym (ap is_ok is)))

both-true : (a b : Bool) → (a && b) ≡ true → (a ≡ true) × (b ≡ true)
both-true true true is = (refl, refl)
both-true true false is = absurd (true≢false (sym is))
both-true false b is = absurd (true≢false (sym is))

-- a part that ends where a terminator stands is the whole
ended : (bs : List ℕ) (n : ℕ) → Unended bs → is_terminator (byte_at bs n) ≡ true → length bs ≤ n
ended bs n none ends = grind (arith, none n, ends, true≢false)

pub number-whole : (bs : List ℕ) (r : Document × ℕ) → number_at bs 0 ≡ Ok r → Unended bs → Matches number_literal bs
unfolding number_at
number-whole bs r is none =
    let n = longest_prefix number_literal bs in
    let both = both-true (matches number_literal (take n bs)) (is_terminator (byte_at bs (0 + n))) (ok-true _ _ _ r is) in
    subst (Matches number_literal) (take_all n bs (subst (λ k. length bs ≤ k) (omega arith) (ended bs (0 + n) none both.1)))
    (matches-Matches number_literal (take n bs) both.0)

pub long-whole : (bs : List ℕ) (len : ℕ) → IsIntegerLiteral bs len → Unended bs → Matches number_literal bs
long-whole bs len (within, literal, ends) none =
    subst (Matches number_literal) (take_all len bs (ended bs len none ends)) (integer-number (take len bs) literal)
