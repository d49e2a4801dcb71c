-- What is kept of a line: of one that is too long one byte more than it may have.
use Rattle.std.proofs.Common.{◌≡◌, ◌∙◌, refl, ap, sym, arith, ℕ, zero, suc, ◌+◌, ◌-◌, ◌<◌, ◌≤◌, List, [], ◌∷◌, ◌++◌, append-nil, take}
use Rattle.std.proofs.Common.{length, Bool, true, false, min, nat_lt}
use Rattle.std.proofs.Math.Seq.{take-append-add}
use Rattle.std.proofs.lemmas.Bool.{ltb-false, ltb-true}
use Rattle.std.proofs.lemmas.List.{length-take, take-append-le}
use Rattle.programs.specs.Lines.{kept}

pub take-all : (n : ℕ) (b : List ℕ) → length b ≤ n → take n b ≡ b
take-all zero [] _ = refl
take-all (suc n) [] _ = refl
take-all zero (x ∷ b) le = absurd (omega (arith, le))
take-all (suc n) (x ∷ b) le = ap (λ ys. x ∷ ys) (take-all n b (omega (arith, le)))

least-step : (n k : ℕ) (b : List ℕ) (t : Bool) → nat_lt k (length b) ≡ t → n ≡ min (length b) k → take n b ≡ take k b
least-step n k b true some is = ap (λ m. take m b) (omega (arith, ltb-true k (length b) some, is))
least-step n k b false some is =
    let few : length b ≤ k = ltb-false k (length b) some in
    take-all n b (omega (arith, few, is)) ∙ sym (take-all k b few)

-- no more bytes than there are
pub take-least : (n k : ℕ) (b : List ℕ) → n ≡ min (length b) k → take n b ≡ take k b
take-least n k b = least-step n k b (nat_lt k (length b)) refl

kept-long : (longest : ℕ) (line begun bytes : List ℕ) → line ≡ kept longest begun → longest < length line
    → line ≡ kept longest (begun ++ bytes)
kept-long longest line begun bytes is long =
    is ∙ sym (take-append-le (longest + 1) begun bytes (omega (arith, long, ap length is, length-take (longest + 1) begun)))

kept-short : (longest n : ℕ) (line begun bytes : List ℕ) → line ≡ kept longest begun → length line ≤ longest
    → n ≡ min (length bytes) (longest - length line + 1) → line ++ take n bytes ≡ kept longest (begun ++ bytes)
kept-short longest n line begun bytes is short same =
    let few : length begun ≤ longest + 1 = omega (arith, short, ap length is, length-take (longest + 1) begun) in
    let whole : line ≡ begun = is ∙ take-all (longest + 1) begun few in
    let room : length line + (longest - length line + 1) ≡ longest + 1 = omega (arith, short) in
    ap (λ u. line ++ u) (take-least n _ bytes same)
    ∙ sym (take-append-add line bytes (longest - length line + 1))
    ∙ ap (λ k. take k (line ++ bytes)) room ∙ ap (λ u. take (longest + 1) (u ++ bytes)) whole

kept-step : (longest n : ℕ) (line begun bytes : List ℕ) (t : Bool) → nat_lt longest (length line) ≡ t → line ≡ kept longest begun
    → n ≡ min (length bytes) (longest + 1 - length line) → line ++ take n bytes ≡ kept longest (begun ++ bytes)
kept-step longest n line begun bytes true long is least =
    let more = ltb-true longest (length line) long in
    let none : n ≡ 0 = omega (arith, more, least) in
    ap (λ k. line ++ take k bytes) none ∙ append-nil line ∙ kept-long longest line begun bytes is more
kept-step longest n line begun bytes false short is least =
    let fits : length line ≤ longest = ltb-false longest (length line) short in
    let room : longest + 1 - length line ≡ longest - length line + 1 = omega (arith, fits) in
    kept-short longest n line begun bytes is fits (least ∙ ap (min (length bytes)) room)

-- more bytes of it, as far as there is room
pub kept-more : (longest n : ℕ) (line begun bytes : List ℕ) → line ≡ kept longest begun
    → n ≡ min (length bytes) (longest + 1 - length line) → line ++ take n bytes ≡ kept longest (begun ++ bytes)
kept-more longest n line begun bytes = kept-step longest n line begun bytes (nat_lt longest (length line)) refl

pub none-kept : (longest : ℕ) → [] ≡ kept longest []
none-kept longest = sym (take-all (longest + 1) [] (omega arith))

cut-step : {S : Type 0} (step : List ℕ → S) (longest : ℕ) (line : List ℕ)
    → (longest < length line → longest < length (kept longest line) → step (kept longest line) ≡ step line)
    → (t : Bool) → nat_lt longest (length line) ≡ t → step (kept longest line) ≡ step line
cut-step step longest line same true is =
    let long = ltb-true longest (length line) is in
    same long (omega (arith, long, length-take (longest + 1) line))
cut-step step longest line same false is =
    ap step (take-all (longest + 1) line (omega (arith, ltb-false longest (length line) is)))

-- a line is too long exactly if what is kept of it is, and else all of it is kept
pub kept-is : {S : Type 0} (step : List ℕ → S) (longest : ℕ) (line : List ℕ)
    → (longest < length line → longest < length (kept longest line) → step (kept longest line) ≡ step line)
    → step (kept longest line) ≡ step line
kept-is step longest line same = cut-step step longest line same (nat_lt longest (length line)) refl
