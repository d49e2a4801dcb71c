use Rattle.std.proofs.Common.{◌≡◌, ◌≢◌, ◌∙◌, sym, ap, subst, List, ℕ, Bool, true, false, ◌==◌, ◌+◌, ◌-◌, ◌<◌, ◌≤◌, length, get_or, take}
use Rattle.std.proofs.Common.{drop, arith, Some}
use mir.Val.{bool_byte}
use Rattle.std.specs.Float.{binary64}
use Rattle.std.specs.Float.Numeral.{scan_numeral}
use Rattle.std.specs.Float.Parse.{parse_float}
use Rattle.std.proofs.lemmas.Bool.{false≢true, eq-eqb}
use Rattle.std.proofs.lemmas.List.{get_or_default, length-drop, take_all}
use Rattle.simd_json_parts.specs.Bytes.{byte_at, is_terminator}
use Rattle.simd_json_scalars.proofs.Numbers.Looks.{sign-le}
use Rattle.simd_json_scalars.proofs.Numbers.Reader.{sign-end}
use Rattle.simd_json_scalars.proofs.Numbers.Steps.{SignEnd}
use Rattle.simd_json_ondemand.proofs.Fractions.{HasFraction, first-digit, scanned, number-there, float-there}
use Rattle.simd_json_ondemand.proofs.numbers.fraction.Goals as goal
use Rattle.simd_json_ondemand.proofs.numbers.fraction.Goals.{else-whole-eq48-via-then-whole-eq48+else-whole-gt1}
use Rattle.simd_json_ondemand.proofs.numbers.fraction.Goals.{else-whole-eq48-via-else-whole-eq48}

not-empty : (n : ℕ) (empty : Bool) → empty ≡ (n == 0) → empty ≡ false → 0 < n
not-empty n empty is not = let other : n ≢ 0 = λ none. false≢true (sym not ∙ is ∙ eq-eqb n 0 none) in omega (arith, other)

pub returns : goal.returns
returns c b i e =
    let l : List ℕ = c.args.bytes.now in
    let minus : Bool = (get_or l 0 0 == 45) in
    let start : ℕ = bool_byte minus in
    let bs : List ℕ = drop start l in
    let p = c.scan-numeral.result in
    let sign : SignEnd l start = subst (λ x. SignEnd l (bool_byte (x == 45))) (get_or_default l 0 32 0 (omega arith)) (sign-end l) in
    let near : start ≤ 1 = sign-le l start sign in
    let scan : p ≡ scan_numeral bs =
    c.scan-numeral.ensures.parts ∙ ap scan_numeral (take_all (length l - start) bs (omega (arith, length-drop start l))) in
    let places : 0 < length p.fraction = omega (arith, ap length c.fraction-places.ensures.value, c.if-places-eq0.false) in
    let some : 0 < length p.whole =
    omega (arith, ap length c.whole-whole.ensures.value, not-empty _ _ c.is_empty.ensures c.if-is_empty.false) in
    let len : p.len ≡ length p.whole + 1 + length p.fraction =
    omega (arith, c.len.ensures, c.if-len-whole.false, ap length c.whole-whole.ensures.value, ap length c.fraction-places.ensures.value) in
    let f : HasFraction bs p =
    subst (HasFraction bs) (sym scan) (scanned bs (subst (λ q. 0 < length q.fraction) scan places)
    (subst (λ q. q.len ≡ length q.whole + 1 + length q.fraction) scan len)) in
    let inside : start + p.len < length l =
    omega (arith, c.scan-numeral.ensures.within, c.len-2.ensures, c.if-end-bytes.false) in
    let first : byte_at l start ≡ get_or p.whole 0 0 = first-digit l start p f some (omega (arith, inside)) in
    let alone : byte_at l start ≡ 48 → length p.whole ≡ 1 =
    (λ zero. elim c.else-whole-eq48.branch [
      | else-whole-eq48-via-then-whole-eq48+else-whole-gt1 w ↦
          omega (arith, w.if-whole-gt1.false, ap length c.whole-whole.ensures.value, some)
      | else-whole-eq48-via-else-whole-eq48 w ↦
          absurd (w.if-whole-eq48.false (ap (λ ds. get_or ds 0 0) c.whole-whole.ensures.value ∙ sym first ∙ zero))
    ]) in
    let end : start + c.len-2.result ≡ start + p.len = ap (λ n. start + n) c.len-2.ensures in
    let after : is_terminator (byte_at l (start + p.len)) ≡ true =
    ap (λ n. is_terminator (byte_at l n)) (sym end)
    ∙ ap is_terminator (get_or_default l (start + c.len-2.result) 32 0 (omega (arith, inside, end)))
    ∙ sym c.is_structural_or_whitespace.ensures ∙ c.if-not-is_structural_or_whitespace.false in
    let number = number-there l start sign p f some places alone inside after b i e in
    let is : minus ≡ (byte_at l 0 == 45) = ap (λ x. x == 45) (get_or_default l 0 0 32 (omega arith)) in
    let digits = c.scan-numeral.ensures.digits in (
      start + p.len,
      number,
      ap (λ ys. parse_float binary64 (take (start + p.len) ys)) e
          ∙ float-there l start sign p f some places alone inside digits.0 digits.1 minus is
          ∙ ap Some (sym c.to_float.ensures),
    )
