use Rattle.std.proofs.Common.{◌≡◌, sym, ap, ap₂, subst, ◌∙◌, ℕ, ◌+◌, ◌-◌, ◌*◌, ◌≤◌, ◌==◌, length, length-drop, take, drop, get_or}
use Rattle.std.proofs.Common.{true, false, arith}
use mir.Val.{bool_byte}
use Rattle.std.specs.Char.{is_ascii_digit}
use Rattle.std.specs.List.{prefix_len}
use Rattle.std.specs.Str.Parse.{digits_value}
use Rattle.std.proofs.lemmas.List.{drop-drop, get_or_default, get_or-drop, get_or-take, take-take}
use Rattle.simd_json_parts.specs.Bytes.{byte_at, is_terminator}
use Rattle.simd_json_scalars.proofs.Numbers.DigitWords.{leading-zero, run-closed, run-on, run-inside}
use Rattle.simd_json_scalars.proofs.Numbers.DigitsWorth.{two-words}
use Rattle.simd_json_scalars.proofs.Numbers.Steps.{SignEnd}
use Rattle.simd_json_scalars.proofs.Numbers.Reader.{sign-end}
use Rattle.simd_json_scalars.proofs.Numbers.Looks.{sign-le, terminator-no_digit, seen-integer}
use Rattle.simd_json_scalars.proofs.numberparse.short.parse_longer.Goals as goal

pub returns : goal.returns
returns c b i e =
    let l = c.args.bytes.now in
    let start : ℕ = bool_byte (get_or l 0 0 == 45) in
    let more : ℕ = c.digits_len-more.result in
    let sign : SignEnd l start = subst (λ x. SignEnd l (bool_byte (x == 45))) (get_or_default l 0 32 0 (omega arith)) (sign-end l) in
    let near : start ≤ 1 = sign-le l start sign in
    let most : more ≤ 8 = c.digits_len-more.ensures.most in
    let first = c.digit_word-first.ensures in
    let second = c.digit_word.ensures in
    let eight : 8 ≡ c.digits_len.result = omega (arith, c.digits_len.ensures.most) in
    let front : 8 ≡ prefix_len is_ascii_digit (take 8 (drop start l)) = eight ∙ c.digits_len.ensures.run _ first.bytes first.word in
    let window : more ≡ prefix_len is_ascii_digit (take 8 (drop (start + 8) l)) =
    c.digits_len-more.ensures.run _ second.bytes second.word in
    let after : is_terminator (byte_at l (start + 8 + more)) ≡ true =
    ap is_terminator (get_or_default l (start + 8 + more) 32 0 (omega arith)) ∙ sym c.is_structural_or_whitespace.ensures
    ∙ c.if-not-is_structural_or_whitespace.false in
    let other : is_ascii_digit (byte_at (drop (start + 8) l) more) ≡ false =
    ap is_ascii_digit (get_or-drop (start + 8) l more 32) ∙ terminator-no_digit (byte_at l (start + 8 + more)) after in
    let behind : prefix_len is_ascii_digit (drop (start + 8) l) ≡ more = sym (run-closed 8 more (drop (start + 8) l) window other) in
    let run : 8 + more ≡ prefix_len is_ascii_digit (drop start l) =
    sym (run-on 8 (drop start l) front ∙ ap (λ bs. 8 + prefix_len is_ascii_digit bs) (drop-drop 8 start l) ∙ ap (λ n. 8 + n) behind) in
    let third = c.digit_word-2.ensures in
    let last : drop (start + 8 + more - 8) l ≡ drop more (drop start l) = ap (λ n. drop n l) (omega arith) ∙ sym (drop-drop more start l) in
    let all : 8 ≤ prefix_len is_ascii_digit (take 8 (drop (start + 8 + more - 8) l)) =
    rw last (run-inside more 8 (drop start l) (omega (arith, run))) in
    let high : c.value_of_digits.result ≡ digits_value 10 (take more (drop start l)) =
    c.value_of_digits.ensures.value _ first.bytes first.word (omega (arith, front))
    ∙ ap (digits_value 10) (take-take more 8 (drop start l) most) in
    let low : c.value_of_digits-low.result ≡ digits_value 10 (take 8 (drop more (drop start l))) =
    c.value_of_digits-low.ensures.value _ third.bytes third.word all
    ∙ ap (digits_value 10) (take-take 8 8 (drop (start + 8 + more - 8) l) (omega arith) ∙ ap (take 8) last) in
    let long : more + 8 ≤ length (drop start l) = omega (arith, length-drop start l) in
    let zero : byte_at l start ≡ 48 → 8 + more ≡ 1 = λ z.
    absurd (c.if-first-eq0.false
    (leading-zero (take 8 (drop start l)) c.digit_word-first.result first.bytes.0 first.word
    (get_or-take 8 (drop start l) 0 32 (omega arith) ∙ get_or-drop start l 0 32 ∙ ap (byte_at l) (omega arith) ∙ z))) in
    seen-integer b i l e start (8 + more) sign run (omega arith) zero (omega arith)
    (ap (λ n. is_terminator (byte_at l n)) (omega arith) ∙ after) _ (omega arith)
    (ap₂ (λ h v. h * 100000000 + v) high low ∙ two-words more (drop start l) long)
