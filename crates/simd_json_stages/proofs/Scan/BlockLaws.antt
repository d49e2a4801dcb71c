-- Positions and what is kept, a byte further, in the form in which words compute them.
use Rattle.std.proofs.Common.{◌≡◌, refl, sym, ◌∙◌, ap, ap₂, ℕ, zero, suc, ◌+◌, ◌<◌, ◌≤◌, List, Bool, true, false, not, ◌&&◌, ◌||◌, ◌==◌}
use Rattle.std.proofs.Common.{add-zero, add-suc, T, arith}
use Rattle.std.proofs.Math.Bool.{not-not}
use Rattle.simd_json_parts.specs.Bytes.{quote, backslash, is_whitespace, is_structural, is_control, byte_at}
use Rattle.simd_json_parts.specs.Positions.{is_even, backslashes_before, is_real_quote, is_inside, is_fresh, is_position}
use Rattle.simd_json_stages.specs.Carries.{is_escaped_at, is_open_at}
use Rattle.simd_json_stages.specs.Classes.{is_space_or_quote, is_op_or_quote}
use Rattle.simd_json_stages.specs.Words.{is_set, xor, escaped_in, parity}
use Rattle.simd_json_stages.specs.Blocks.{is_plain, is_plain_before}
use Rattle.simd_json_stages.proofs.Scan.CarryLaws.{odd-next, inside-next}
use Rattle.simd_json_stages.proofs.Scan.Bits.Computed.{upto, upto_sound, same, same_is, equal-three}

-- ---- a byte, by its classes

by_bytes : (p q : ℕ → Bool) → T (upto (λ x. same (p x) (q x)) 256) → (x : ℕ) → x < 256 → p x ≡ q x
by_bytes p q all x h = same_is _ _ (upto_sound (λ y. same (p y) (q y)) 256 all x h)

pub quote-classes : (x : ℕ) → x < 256 → (is_space_or_quote x && is_op_or_quote x) ≡ (x == quote)
quote-classes = by_bytes (λ x. is_space_or_quote x && is_op_or_quote x) (λ x. x == quote) tt

pub structural-classes : (x : ℕ) → x < 256 → (is_op_or_quote x && not (is_control x || is_space_or_quote x)) ≡ is_structural x
structural-classes = by_bytes (λ x. is_op_or_quote x && not (is_control x || is_space_or_quote x)) is_structural tt

pub space-classes : (x : ℕ) → x < 256 → xor (is_space_or_quote x) (is_space_or_quote x && is_op_or_quote x) ≡ is_whitespace x
space-classes = by_bytes (λ x. xor (is_space_or_quote x) (is_space_or_quote x && is_op_or_quote x)) is_whitespace tt

apart : (x : ℕ) → x < 256 → (is_structural x && is_whitespace x) ≡ false
apart = by_bytes (λ x. is_structural x && is_whitespace x) (λ x. false) tt

-- ---- escapes and real quotes over a block

pub escaped-along : (b : List ℕ) (at : ℕ) (c : Bool) (x : ℕ) → c ≡ is_escaped_at b at
    → ((i : ℕ) → i < 64 → is_set x i ≡ (byte_at b (at + i) == backslash)) → (i : ℕ) → i ≤ 64
    → escaped_in c x i ≡ is_escaped_at b (at + i)
unfolding escaped_in
escaped-along b at c x start h zero l = start ∙ ap (is_escaped_at b) (sym (add-zero at))
escaped-along b at c x start h (suc i) l =
    ap₂ (λ s t. s && not t) (h i (omega arith)) (escaped-along b at c x start h i (omega arith))
    ∙ ap (λ t. (byte_at b (at + i) == backslash) && t) (not-not (is_even (backslashes_before b (at + i))))
    ∙ sym (odd-next b (at + i)) ∙ ap (is_escaped_at b) (sym (add-suc at i))

pub quote-real : (b : List ℕ) (i : ℕ) → ((byte_at b i == quote) && not (is_escaped_at b i)) ≡ is_real_quote b i
unfolding is_real_quote
quote-real b i = ap (λ t. (byte_at b i == quote) && t) (not-not (is_even (backslashes_before b i)))

pub open-next : (b : List ℕ) (i : ℕ) → is_open_at b (suc i) ≡ xor (is_open_at b i) (is_real_quote b i)
unfolding is_inside
open-next = inside-next

pub inside-open : (b : List ℕ) (i : ℕ) → is_inside b i ≡ is_open_at b (suc i)
unfolding is_inside
inside-open b i = refl

swap : (p q c : Bool) → xor (xor p q) c ≡ xor (xor p c) q
swap = equal-three (λ p q c. xor (xor p q) c) (λ p q c. xor (xor p c) q) tt

open-along : (b : List ℕ) (at : ℕ) (q : ℕ) → ((i : ℕ) → i < 64 → is_set q i ≡ is_real_quote b (at + i)) → (i : ℕ) → i ≤ 64
    → xor (parity q i) (is_open_at b at) ≡ is_open_at b (at + i)
unfolding parity
open-along b at q h zero l = ap (is_open_at b) (sym (add-zero at))
open-along b at q h (suc i) l =
    swap (parity q i) (is_set q i) (is_open_at b at) ∙ ap₂ xor (open-along b at q h i (omega arith)) (h i (omega arith))
    ∙ sym (open-next b (at + i)) ∙ ap (is_open_at b) (sym (add-suc at i))

pub inside-along : (b : List ℕ) (at : ℕ) (q : ℕ) → ((i : ℕ) → i < 64 → is_set q i ≡ is_real_quote b (at + i)) → (i : ℕ) → i < 64
    → xor (parity q (i + 1)) (is_open_at b at) ≡ is_inside b (at + i)
inside-along b at q h i l =
    let e : at + (i + 1) ≡ suc (at + i) = omega arith in
    open-along b at q h (i + 1) (omega arith) ∙ ap (is_open_at b) e ∙ sym (inside-open b (at + i))

-- ---- positions

fresh_from : (s w q o : Bool) → o ≡ false → ((w || (s && not o)) || q) ≡ not (not ((s || w) || q))
fresh_from s w q true e = absurd (let f : true ≡ false = e in cc)
fresh_from true true true false e = refl
fresh_from true true false false e = refl
fresh_from true false true false e = refl
fresh_from true false false false e = refl
fresh_from false true true false e = refl
fresh_from false true false false e = refl
fresh_from false false true false e = refl
fresh_from false false false false e = refl

-- outside, a byte is fresh just where no plain byte is before it
fresh-plain : (b : List ℕ) (i : ℕ) → is_open_at b i ≡ false → is_fresh b i ≡ not (is_plain_before b i)
unfolding is_plain_before is_inside
fresh-plain b zero e = refl
fresh-plain b (suc i) e = fresh_from (is_structural (byte_at b i)) (is_whitespace (byte_at b i)) (is_real_quote b i) (is_inside b i) e

-- s structural, w whitespace, q a real quote, o open before, f fresh, p after a plain byte
found : (s w q o f p : Bool) → (s && w) ≡ false → (w && q) ≡ false → (o ≡ false → f ≡ not p)
    → not (((not ((s || w) || q) && p) || w) || xor (xor o q) q) ≡ ((q && xor o q) || ((not (xor o q) && not q) && (s || (not w && f))))
found true true q o f p d g h = absurd (let e : true ≡ false = d in cc)
found true false true true f p d g h = refl
found true false true false f p d g h = refl
found true false false true f p d g h = refl
found true false false false f p d g h = refl
found false true true o f p d g h = absurd (let e : true ≡ false = g in cc)
found false true false true f p d g h = refl
found false true false false f true d g h = refl
found false true false false f false d g h = refl
found false false true true f p d g h = refl
found false false true false f p d g h = refl
found false false false true f true d g h = refl
found false false false true f false d g h = refl
found false false false false f true d g h = sym (h refl)
found false false false false f false d g h = sym (h refl)

no_quote : (w k e : Bool) → (w && k) ≡ false → (w && (k && e)) ≡ false
no_quote true true e h = absurd (let f : true ≡ false = h in cc)
no_quote true false e h = refl
no_quote false k e h = refl

space-real : (b : List ℕ) (i : ℕ) → byte_at b i < 256 → (is_whitespace (byte_at b i) && is_real_quote b i) ≡ false
unfolding is_real_quote
space-real b i small = no_quote (is_whitespace (byte_at b i)) (byte_at b i == quote) (is_even (backslashes_before b i))
    (by_bytes (λ x. is_whitespace x && (x == quote)) (λ x. false) tt (byte_at b i) small)

pub position-found : (b : List ℕ) (i : ℕ) → byte_at b i < 256
    → not (((is_plain b i && is_plain_before b i) || is_whitespace (byte_at b i)) || xor (is_inside b i) (is_real_quote b i))
    ≡ is_position b i
unfolding is_position
position-found b i small =
    let x = byte_at b i in
    let e : is_inside b i ≡ xor (is_open_at b i) (is_real_quote b i) = inside-open b i ∙ open-next b i in
    ap (λ t. not (((is_plain b i && is_plain_before b i) || is_whitespace x) || xor t (is_real_quote b i))) e
    ∙ found (is_structural x) (is_whitespace x) (is_real_quote b i) (is_open_at b i) (is_fresh b i) (is_plain_before b i)
    (apart x small) (space-real b i small) (fresh-plain b i)
    ∙ ap (λ t. (is_real_quote b i && t) || ((not t && not (is_real_quote b i)) &&
    (is_structural x || (not (is_whitespace x) && is_fresh b i)))) (sym e)
