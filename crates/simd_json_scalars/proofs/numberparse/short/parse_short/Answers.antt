use Rattle.std.proofs.Common.{◌≡◌, ◌≢◌, sym, ap, subst, ◌∙◌, ℕ, ◌+◌, ◌≤◌, ◌%◌, ◌==◌, ◌⊎◌, inl, inr, List, take, drop}
use Rattle.std.proofs.Common.{get_or, true, false, arith}
use mir.Val.{bool_byte}
use Rattle.std.specs.Char.{is_ascii_digit}
use Rattle.std.specs.List.{prefix_len}
use Rattle.std.specs.Str.Parse.{digits_value}
use Rattle.std.proofs.lemmas.Bool.Decides.{nat_tests}
use Rattle.std.proofs.lemmas.List.{get_or_default, get_or-drop, get_or-take, take-take}
use Rattle.simd_json_parts.specs.Bytes.{byte_at, is_terminator}
use Rattle.simd_json_scalars.specs.DigitRuns.{AreEightBytes, word_of}
use Rattle.simd_json_scalars.proofs.Numbers.DigitWords.{leading-zero, run-closed}
use Rattle.simd_json_scalars.proofs.Numbers.Steps.{SignEnd}
use Rattle.simd_json_scalars.proofs.Numbers.Reader.{sign-end}
use Rattle.simd_json_scalars.proofs.Numbers.Looks.{sign-le, terminator-no_digit, seen-integer, seen-decimal}
use Rattle.simd_json_scalars.proofs.numberparse.short.parse_short.Goals as goal
use Rattle.simd_json_scalars.proofs.numberparse.short.parse_short.Goals.{then-len-ne1, else-len-ne1}

-- a zero in front stands alone
alone : (l : List ℕ) (start len word : ℕ) → AreEightBytes (take 8 (drop start l)) → word ≡ word_of (take 8 (drop start l))
    → (len ≡ 1) ⊎ (word % 256 ≢ 0) → byte_at l start ≡ 48 → len ≡ 1
alone l start len word bytes is (inl one) z = one
alone l start len word bytes is (inr other) z =
    let low : word % 256 ≡ 0 = leading-zero (take 8 (drop start l)) word bytes.0 is
    (get_or-take 8 (drop start l) 0 32 (omega arith) ∙ get_or-drop start l 0 32 ∙ ap (byte_at l) (omega arith) ∙ z) in
    absurd (other low)

pub returns-then-bytes-end-eq46 : goal.returns-then-bytes-end-eq46
returns-then-bytes-end-eq46 c b i e =
    let l = c.args.bytes.now in
    let start : ℕ = bool_byte (get_or l 0 0 == 45) in
    let len : ℕ = c.digits_len-len.result in
    let sign : SignEnd l start = subst (λ x. SignEnd l (bool_byte (x == 45))) (get_or_default l 0 32 0 (omega arith)) (sign-end l) in
    let near : start ≤ 1 = sign-le l start sign in
    let most : len ≤ 8 = c.digits_len-len.ensures.most in
    let word = c.digit_word-word.ensures in
    let window : len ≡ prefix_len is_ascii_digit (take 8 (drop start l)) = c.digits_len-len.ensures.run _ word.bytes word.word in
    let point : byte_at l (start + len) ≡ 46 = get_or_default l (start + len) 32 0 (omega arith) ∙ c.if-bytes-end-eq46.true in
    let other : is_ascii_digit (byte_at (drop start l) len) ≡ false = ap is_ascii_digit (get_or-drop start l len 32 ∙ point) in
    let run : len ≡ prefix_len is_ascii_digit (drop start l) = run-closed 8 len (drop start l) window other in
    let zero = alone l start len c.digit_word-word.result word.bytes word.word (elim c.if-len-ne1.branch [
      | then-len-ne1 w ↦ inr (λ e. grind (arith, nat_tests, e, w.value-is, c.if-word-eq0.false))
      | else-len-ne1 w ↦ inl w.if-len-ne1.false
    ]) in
    let end = c.in_ok-end.ensures in
    seen-decimal b i l e start len sign run (omega arith) zero point c.in_ok-end.end end.0 end.1 end.2 end.3

pub returns : goal.returns
returns c b i e =
    let l = c.args.bytes.now in
    let start : ℕ = bool_byte (get_or l 0 0 == 45) in
    let len : ℕ = c.digits_len-len.result in
    let sign : SignEnd l start = subst (λ x. SignEnd l (bool_byte (x == 45))) (get_or_default l 0 32 0 (omega arith)) (sign-end l) in
    let near : start ≤ 1 = sign-le l start sign in
    let most : len ≤ 8 = c.digits_len-len.ensures.most in
    let word = c.digit_word-word.ensures in
    let window : len ≡ prefix_len is_ascii_digit (take 8 (drop start l)) = c.digits_len-len.ensures.run _ word.bytes word.word in
    let after : is_terminator (byte_at l (start + len)) ≡ true =
    ap is_terminator (get_or_default l (start + len) 32 0 (omega arith)) ∙ sym c.is_structural_or_whitespace.ensures
    ∙ c.if-not-is_structural_or_whitespace.false in
    let other : is_ascii_digit (byte_at (drop start l) len) ≡ false =
    ap is_ascii_digit (get_or-drop start l len 32) ∙ terminator-no_digit (byte_at l (start + len)) after in
    let run : len ≡ prefix_len is_ascii_digit (drop start l) = run-closed 8 len (drop start l) window other in
    let zero = alone l start len c.digit_word-word.result word.bytes word.word (elim c.if-len-ne1.branch [
      | then-len-ne1 w ↦ inr (λ e. grind (arith, nat_tests, e, w.value-is, c.if-word-eq0.false))
      | else-len-ne1 w ↦ inl w.if-len-ne1.false
    ]) in
    seen-integer b i l e start len sign run (omega arith) zero (omega arith) after c.value_of_digits.result (omega arith)
    (c.value_of_digits.ensures.value _ word.bytes word.word (omega arith) ∙ ap (digits_value 10) (take-take len 8 (drop start l) most))
