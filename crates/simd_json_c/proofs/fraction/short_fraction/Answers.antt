use Rattle.std.proofs.Common.{◌≡◌, ◌∙◌, ◌++◌, ◌==◌, ◌≤◌, sym, ap, subst, ℕ, List, Bool, drop, arith, Some, neg_ℤ, pos, ◌-ℤ◌}
use mir.Syntax.{w64}
use mir.Val.{bool_byte, of_z, to_z}
use Rattle.std.specs.Float.{binary64}
use Rattle.fast_float.specs.Rounding.{nearest_to_decimal}
use Rattle.std.specs.Fmt.{sign_text}
use Rattle.std.proofs.lemmas.Int.{ints, to_z-of_z}
use Rattle.std.proofs.lemmas.List.{take_rest}
use Rattle.simd_json_c.specs.Doubles.{IsFixedPoint}
use Rattle.simd_json_c.proofs.FixedPoints.{front-sign, is-number, nearest-is}
use Rattle.simd_json_c.proofs.fraction.short_fraction.Goals as goal

negated : (n : ℕ) → n ≤ 16 → to_z w64 (of_z w64 (pos 0 -ℤ to_z w64 n)) ≡ neg_ℤ (pos n)
negated n few = grind (arith, ints, to_z-of_z)

pub returns : goal.returns
returns c =
    let l : List ℕ = c.args.literal.now in
    let minus : Bool = (c.byte_or_space-minus.result == 45) in
    let digits : List ℕ = drop (bool_byte minus) l in
    let is : l ≡ sign_text minus ++ digits =
    subst (λ x. l ≡ sign_text (x == 45) ++ drop (bool_byte (x == 45)) l) (sym c.byte_or_space-minus.ensures) (front-sign l) in
    let parts : IsFixedPoint digits c.in_ok-number.number c.in_ok-number.places =
    subst (λ ds. IsFixedPoint ds c.in_ok-number.number c.in_ok-number.places) (take_rest l (bool_byte minus))
    c.in_ok-number.ensures.parts in
    let exponent : to_z w64 (of_z w64 (pos 0 -ℤ to_z w64 c.in_ok-number.places)) ≡ neg_ℤ (pos c.in_ok-number.places) =
    negated c.in_ok-number.places c.in_ok-number.ensures.few in
    let value : c.from_parts.result ≡ nearest_to_decimal binary64 minus c.in_ok-number.number (neg_ℤ (pos c.in_ok-number.places)) =
    c.from_parts.ensures ∙ ap (nearest_to_decimal binary64 minus c.in_ok-number.number) exponent in
    (is-number minus l digits _ _ is parts, nearest-is minus l digits _ _ is parts ∙ ap Some (sym value))
