use Rattle.std.proofs.Common.{◌≡◌, sym, ap, ap₂, subst, ◌∙◌, ℕ, ◌+◌, ◌-◌, ◌*◌, ◌<◌, ◌≤◌, ◌==◌, List, length, length-drop, take}
use Rattle.std.proofs.Common.{drop, get_or, true, false, arith}
use mir.Val.{bool_byte}
use Rattle.std.specs.Char.{is_ascii_digit}
use Rattle.std.specs.List.{prefix_len}
use Rattle.std.specs.Str.Parse.{digits_value}
use Rattle.std.proofs.lemmas.List.{drop-drop, get_or_default, get_or-drop, get_or-take, take-take}
use Rattle.simd_json_parts.specs.Bytes.{byte_at, is_terminator}
use Rattle.simd_json_scalars.proofs.Numbers.DigitWords.{leading-zero, run-closed, run-on, run-inside}
use Rattle.simd_json_scalars.proofs.Numbers.DigitsWorth.{three-words, worth-lt}
use Rattle.simd_json_scalars.proofs.Numbers.Steps.{SignEnd}
use Rattle.simd_json_scalars.proofs.Numbers.Reader.{sign-end}
use Rattle.simd_json_scalars.proofs.Numbers.Looks.{sign-le, terminator-no_digit, seen-integer}
use Rattle.simd_json_scalars.proofs.numberparse.short.parse_longest.Goals as goal

-- The digits before the last sixteen are three at most, worth less than 1000.
high-lt : (bs : List ℕ) (len more high : ℕ) → len ≡ prefix_len is_ascii_digit bs
    → (more ≤ prefix_len is_ascii_digit bs → high ≡ digits_value 10 (take more bs)) → 8 ≤ len → more ≤ 3 → high < 1000
high-lt bs len more high run value long few =
    let inside : more ≤ prefix_len is_ascii_digit bs = omega arith in
    omega (arith, value inside, worth-lt more 3 bs few inside)

pub overflow_mul-result-2 : goal.overflow_mul-result-2
overflow_mul-result-2 c =
    let first = c.digit_word-first.ensures in
    let high = high-lt _ _ _ _ (c.digits_len.ensures.run _ first.bytes first.word)
    (c.value_of_digits-high.ensures.value _ first.bytes first.word) (omega arith) (omega arith) in
    omega (arith, high, c.value_of_digits-middle.ensures.fits)

pub overflow_add-result-2 : goal.overflow_add-result-2
overflow_add-result-2 c =
    let first = c.digit_word-first.ensures in
    let high = high-lt _ _ _ _ (c.digits_len.ensures.run _ first.bytes first.word)
    (c.value_of_digits-high.ensures.value _ first.bytes first.word) (omega arith) (omega arith) in
    omega (arith, high, c.value_of_digits-middle.ensures.fits, c.value_of_digits-low.ensures.fits)

pub returns : goal.returns
returns c b i e =
    let l = c.args.bytes.now in
    let start : ℕ = bool_byte (get_or l 0 0 == 45) in
    let more : ℕ = c.digits_len-more.result in
    let sign : SignEnd l start = subst (λ x. SignEnd l (bool_byte (x == 45))) (get_or_default l 0 32 0 (omega arith)) (sign-end l) in
    let near : start ≤ 1 = sign-le l start sign in
    let first = c.digit_word-first.ensures in
    let second = c.digit_word-second.ensures in
    let third = c.digit_word.ensures in
    let digits = drop start l in
    let one : 8 ≡ c.digits_len.result = omega (arith, c.digits_len.ensures.most) in
    let two : 8 ≡ c.digits_len-else-digits_len-lt8.result = omega (arith, c.digits_len-else-digits_len-lt8.ensures.most) in
    let front : 8 ≡ prefix_len is_ascii_digit (take 8 digits) = one ∙ c.digits_len.ensures.run _ first.bytes first.word in
    let next : 8 ≡ prefix_len is_ascii_digit (take 8 (drop (start + 8) l)) =
    two ∙ c.digits_len-else-digits_len-lt8.ensures.run _ second.bytes second.word in
    let window : more ≡ prefix_len is_ascii_digit (take 8 (drop (start + 16) l)) = c.digits_len-more.ensures.run _ third.bytes third.word in
    let after : is_terminator (byte_at l (start + 16 + more)) ≡ true =
    ap is_terminator (get_or_default l (start + 16 + more) 32 0 (omega arith)) ∙ sym c.is_structural_or_whitespace.ensures
    ∙ c.if-not-is_structural_or_whitespace.false in
    let other : is_ascii_digit (byte_at (drop (start + 16) l) more) ≡ false =
    ap is_ascii_digit (get_or-drop (start + 16) l more 32) ∙ terminator-no_digit (byte_at l (start + 16 + more)) after in
    let last : prefix_len is_ascii_digit (drop (start + 16) l) ≡ more = sym (run-closed 8 more (drop (start + 16) l) window other) in
    let behind : prefix_len is_ascii_digit (drop (start + 8) l) ≡ 8 + more =
    run-on 8 (drop (start + 8) l) next
    ∙ ap (λ bs. 8 + prefix_len is_ascii_digit bs) (drop-drop 8 (start + 8) l ∙ ap (λ n. drop n l) (omega arith)) ∙ ap (λ n. 8 + n) last in
    let run : 16 + more ≡ prefix_len is_ascii_digit digits =
    omega arith
    ∙ sym (run-on 8 digits front ∙ ap (λ bs. 8 + prefix_len is_ascii_digit bs) (drop-drop 8 start l) ∙ ap (λ n. 8 + n) behind) in
    let middle_at : drop (start + 16 + more - 16) l ≡ drop more digits =
    ap (λ n. drop n l) (omega arith) ∙ sym (drop-drop more start l) in
    let low_at : drop (start + 16 + more - 8) l ≡ drop (8 + more) digits =
    ap (λ n. drop n l) (omega arith) ∙ sym (drop-drop (8 + more) start l) in
    let high : c.value_of_digits-high.result ≡ digits_value 10 (take more digits) =
    c.value_of_digits-high.ensures.value _ first.bytes first.word (omega (arith, front))
    ∙ ap (digits_value 10) (take-take more 8 digits (omega arith)) in
    let m = c.digit_word-2.ensures in
    let middle : c.value_of_digits-middle.result ≡ digits_value 10 (take 8 (drop more digits)) =
    c.value_of_digits-middle.ensures.value _ m.bytes m.word (rw middle_at (run-inside more 8 digits (omega (arith, run))))
    ∙ ap (digits_value 10) (take-take 8 8 (drop (start + 16 + more - 16) l) (omega arith) ∙ ap (take 8) middle_at) in
    let w = c.digit_word-3.ensures in
    let low : c.value_of_digits-low.result ≡ digits_value 10 (take 8 (drop (8 + more) digits)) =
    c.value_of_digits-low.ensures.value _ w.bytes w.word (rw low_at (run-inside (8 + more) 8 digits (omega (arith, run))))
    ∙ ap (digits_value 10) (take-take 8 8 (drop (start + 16 + more - 8) l) (omega arith) ∙ ap (take 8) low_at) in
    let long : more + 16 ≤ length digits = omega (arith, length-drop start l) in
    let zero : byte_at l start ≡ 48 → 16 + more ≡ 1 = λ z.
    absurd (c.if-first-eq0.false
    (leading-zero (take 8 digits) c.digit_word-first.result first.bytes.0 first.word
    (get_or-take 8 digits 0 32 (omega arith) ∙ get_or-drop start l 0 32 ∙ ap (byte_at l) (omega arith) ∙ z))) in
    seen-integer b i l e start (16 + more) sign run (omega arith) zero (omega arith)
    (ap (λ n. is_terminator (byte_at l n)) (omega arith) ∙ after) _ (omega arith)
    (ap₂ (λ h v. h * 100000000 + v) (ap₂ (λ h v. h * 100000000 + v) high middle) low ∙ three-words more digits long)
