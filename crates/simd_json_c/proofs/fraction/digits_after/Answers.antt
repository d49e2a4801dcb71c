use Rattle.std.proofs.Common.{◌≡◌, ◌∙◌, ◌+◌, ◌-◌, ◌≤◌, sym, ap, subst, ℕ, List, length, length-drop, take, drop, arith, IfSome}
use Rattle.std.specs.Char.{is_ascii_digit}
use Rattle.std.specs.List.{prefix_len}
use Rattle.std.specs.Str.Parse.{AllDigits, digits_value}
use Rattle.std.proofs.lemmas.List.{drop-drop, take_all, take_rest, take-take}
use Rattle.simd_json_c.proofs.DigitTails.{joined, run-digits, run-within, whole-run}
use Rattle.simd_json_c.proofs.fraction.digits_after.Goals as goal

pub returns-then-read-len : goal.returns-then-read-len
returns-then-read-len c =
    let l : List ℕ = c.args.bytes.now in
    let f = c.few_digits-number.ensures in
    let slice : take (length l - c.args.from) (drop c.args.from l) ≡ drop c.args.from l = take_rest l c.args.from in
    whole-run (drop c.args.from l) c.few_digits-number.result.1 _ (omega (arith, length-drop c.args.from l, c.if-read-len.true))
    (subst (λ ds. c.few_digits-number.result.1 ≤ prefix_len is_ascii_digit ds) slice f.run)
    (f.value ∙ ap (λ ds. digits_value 10 (take c.few_digits-number.result.1 ds)) slice)

-- the last eight bytes, behind some of them
end-is : (l : List ℕ) (from skipped : ℕ) → 8 ≤ length l → length l - 8 + skipped ≡ from
    → drop skipped (take 8 (drop (length l - 8) l)) ≡ drop from l
end-is l from skipped long at =
    ap (drop skipped) (take_all 8 (drop (length l - 8) l) (omega (arith, length-drop (length l - 8) l)))
    ∙ drop-drop skipped (length l - 8) l ∙ ap (λ n. drop n l) at

pub returns-then-len-le8 : goal.returns-then-len-le8
returns-then-len-le8 c =
    let l : List ℕ = c.args.bytes.now in
    let w = c.digit_word-last.ensures in
    subst (λ ds. IfSome c.digits_behind.result (λ n. AllDigits 10 ds × (n ≡ digits_value 10 ds)))
    (end-is l c.args.from (8 - (length l - c.args.from)) (omega arith) (omega arith))
    (c.digits_behind.ensures.value _ w.bytes w.word)

pub returns : goal.returns
returns c =
    let l : List ℕ = c.args.bytes.now in
    let ds : List ℕ = drop c.args.from l in
    let n : ℕ = length l - c.args.from - 8 in
    let w = c.digit_word-first.ensures in
    let last = c.digit_word-last.ensures in
    let run = c.digits_len.ensures.run _ w.bytes w.word in
    let seen : n ≤ prefix_len is_ascii_digit (take 8 ds) = omega (arith, run, c.if-digits_len-len.false) in
    let low = c.in_ok-low.ensures.value _ last.bytes last.word in
    let end : take 8 (drop (length l - 8) l) ≡ drop n ds =
    end-is l (length l - 8) 0 (omega arith) (omega arith) ∙ ap (λ k. drop k l) (omega arith) ∙ sym (drop-drop n c.args.from l) in
    joined ds n c.value_of_digits.result c.in_ok-low.low (omega (arith, length-drop c.args.from l))
    (run-digits n ds (omega (arith, seen, run-within 8 ds)))
    (c.value_of_digits.ensures.value _ w.bytes w.word seen ∙ ap (digits_value 10) (take-take n 8 ds (omega arith)))
    (subst (λ xs. AllDigits 10 xs × (c.in_ok-low.low ≡ digits_value 10 xs)) end low)
