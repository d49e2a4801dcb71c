use Rattle.std.proofs.Common.{◌≡◌, refl, ◌∙◌, ap, sym, subst, zero, suc, ◌+◌, ◌-◌, ◌%◌, ◌^◌, ◌<◌, ℕ, drop, map, bit_and, count_ones}
use Rattle.std.proofs.Common.{take, arith}
use lib.Lanes.{mask_l}
use lib.Count.{count_trailing_zeros}
use Rattle.simd_json_ondemand.specs.Closing.{open_through}
use Rattle.simd_json_parts.specs.Bytes.{is_closing}
use Rattle.simd_json_ondemand.proofs.ClosingBits.{Reached, AtClosing, at_closing, AfterClosing, after_closing, closed_there, goes_on}
use Rattle.simd_json_ondemand.proofs.ClosingBits.{none_left, reached-first}
use Rattle.simd_json_ondemand.proofs.LowestBits.{bits_before, trailing}
use Rattle.simd_json_ondemand.proofs.skip.closing_bit.Goals as goal

positive : (n : ℕ) → (n ≡ 0 → ⊥) → 0 < n
positive zero h = absurd (h refl)
positive (suc n) h = omega arith

pub loop-rest-init : goal.loop-rest-init
loop-rest-init c = λ cs long o k.
    subst (λ w. Reached c.args.levels cs w c.args.levels) (sym k) (reached-first c.args.levels cs c.requires.0 c.requires.1)

pub returns-then-left-before-eq0 : goal.returns-then-left-before-eq0
returns-then-left-before-eq0 c = λ cs long o k.
    let n = c.args.levels in
    let l = c.loop-rest in
    let a : AtClosing n cs l.rest l.left = at_closing n cs l.rest l.left (l.invariant cs long o k)
    (positive l.rest c.loop-rest-test.true) in
    let f : AfterClosing n cs c.args.opens l.rest l.left a = after_closing n cs c.args.opens l.rest l.left a long c.requires.1 o in
    let m : ℕ = mask_l (map is_closing (drop (suc a.place) cs)) in
    let p : a.place < 64 = omega (arith, a.inside) in
    let bits = bits_before m a.place l.rest c.wrapping_neg.result a.others p l.auto.rest-fits.fits c.wrapping_neg.ensures
    c.wrapping_neg.type_inv in
    let none : open_through n (take (suc a.place) cs) ≡ 0 =
    f.through ∙ ap (λ b. ((l.left + (2 ^ 64 - 1)) % 2 ^ 64 + count_ones (bit_and c.args.opens b)) % 2 ^ 64) (sym bits)
    ∙ c.if-left-before-eq0.true in
    let there = closed_there n cs c.args.opens l.rest l.left a f none in
    let zeros : count_trailing_zeros 64 l.rest ≡ a.place = ap (count_trailing_zeros 64) a.others ∙ trailing 64 a.place m p in
    (there.0 ∙ ap (λ k. k + 1) (sym zeros), there.1)

pub loop-rest-preserved : goal.loop-rest-preserved
loop-rest-preserved c = λ cs long o k.
    let n = c.args.levels in
    let l = c.loop-rest in
    let some : 0 < l.rest = positive l.rest c.loop-rest-test.true in
    let a : AtClosing n cs l.rest l.left = at_closing n cs l.rest l.left (l.invariant cs long o k) some in
    let f : AfterClosing n cs c.args.opens l.rest l.left a = after_closing n cs c.args.opens l.rest l.left a long c.requires.1 o in
    let m : ℕ = mask_l (map is_closing (drop (suc a.place) cs)) in
    let p : a.place < 64 = omega (arith, a.inside) in
    let bits = bits_before m a.place l.rest c.wrapping_neg.result a.others p l.auto.rest-fits.fits c.wrapping_neg.ensures
    c.wrapping_neg.type_inv in
    let less : (l.rest + (2 ^ 64 - 1)) % 2 ^ 64 ≡ l.rest - 1 = omega (arith, l.auto.rest-fits.fits) in
    subst (λ r. Reached n cs (bit_and l.rest r) ((l.left + (2 ^ 64 - 1)) % 2 ^ 64)) (sym less)
    (goes_on n cs c.args.opens l.rest l.left a f (λ none. c.if-left-before-eq0.false
    (ap (λ b. ((l.left + (2 ^ 64 - 1)) % 2 ^ 64 + count_ones (bit_and c.args.opens b)) % 2 ^ 64) bits ∙ sym f.through ∙ none)))

pub returns : goal.returns
returns c = λ cs long o k.
    none_left c.args.levels cs c.loop-rest.left
    (subst (λ w. Reached c.args.levels cs w c.loop-rest.left) c.loop-rest-test.false (c.loop-rest.invariant cs long o k))
