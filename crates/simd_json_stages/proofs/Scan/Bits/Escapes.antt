-- The escaped bytes of a block: the ends of odd runs of backslashes, which the sum of the runs' starts and the backslashes finds.
use Rattle.std.proofs.Common.{◌≡◌, refl, sym, ◌∙◌, ap, ap₂, subst, ℕ, zero, suc, ◌+◌, ◌/◌, ◌%◌, ◌^◌, ◌<◌, ◌==◌, Bool, true, false}
use Rattle.std.proofs.Common.{not, ◌&&◌, ◌||◌, add-zero, mod-lt, pow_pos, arith}
use Rattle.std.specs.Bool.{FalseIff}
use Rattle.std.proofs.Math.Bool.{and-true}
use lib.Bits.{bit_and, bit_or, bit_xor}
use mir.Val.{bool_byte}
use Rattle.simd_json_stages.specs.Words.{is_set, HasBits, xor, escaped_in}
use Rattle.simd_json_stages.proofs.Scan.Bits.Computed.{upto_sound, same, same_is}
use Rattle.simd_json_stages.proofs.Scan.Bits.Operations.{flip, shl, is_set-lowest, is_set-half, is_set-mod, is_set-above, is_set-zero}
use Rattle.simd_json_stages.proofs.Scan.Bits.Combined.{bits-and, bits-xor, bits-not, bits-same, bits-own, after, bits-byte, bits-shl}
use Rattle.simd_json_stages.proofs.Scan.Bits.Combined.{bits-after, number-bool}

-- ---- a sum, bit by bit

abbrev majority : Bool → Bool → Bool → Bool
majority true t c = t || c
majority false t c = t && c

-- the carry into bit i
abbrev carry : (ℕ → Bool) → (ℕ → Bool) → Bool → ℕ → Bool
carry p q c zero = c
carry p q c (suc i) = majority (p i) (q i) (carry p q c i)

full : (s t c : Bool) (x y : ℕ) → x % 2 ≡ bool_byte s → y % 2 ≡ bool_byte t
    → ((x + y + bool_byte c) / 2 ≡ x / 2 + y / 2 + bool_byte (majority s t c)) × (((x + y + bool_byte c) % 2 == 1) ≡ xor (xor s t) c)
full true true true x y p q = (omega arith, ap (λ n. n == 1) (let e : (x + y + 1) % 2 ≡ 1 = omega arith in e))
full true true false x y p q = (omega arith, ap (λ n. n == 1) (let e : (x + y + 0) % 2 ≡ 0 = omega arith in e))
full true false true x y p q = (omega arith, ap (λ n. n == 1) (let e : (x + y + 1) % 2 ≡ 0 = omega arith in e))
full true false false x y p q = (omega arith, ap (λ n. n == 1) (let e : (x + y + 0) % 2 ≡ 1 = omega arith in e))
full false true true x y p q = (omega arith, ap (λ n. n == 1) (let e : (x + y + 1) % 2 ≡ 0 = omega arith in e))
full false true false x y p q = (omega arith, ap (λ n. n == 1) (let e : (x + y + 0) % 2 ≡ 1 = omega arith in e))
full false false true x y p q = (omega arith, ap (λ n. n == 1) (let e : (x + y + 1) % 2 ≡ 1 = omega arith in e))
full false false false x y p q = (omega arith, ap (λ n. n == 1) (let e : (x + y + 0) % 2 ≡ 0 = omega arith in e))

lowest : (x : ℕ) → x % 2 ≡ bool_byte (is_set x 0)
lowest x = number-bool (is_set x 0) (x % 2) (omega arith) (sym (is_set-lowest x))

carry-half : (x y : ℕ) (c : Bool) (i : ℕ) → carry (is_set x) (is_set y) c (suc i) ≡ carry (is_set (x / 2)) (is_set (y / 2))
    (majority (is_set x 0) (is_set y 0) c) i
carry-half x y c zero = refl
carry-half x y c (suc i) = rw (is_set-half x i, is_set-half y i, carry-half x y c i) refl

sum-bit : (i x y : ℕ) (c : Bool) → is_set (x + y + bool_byte c) i ≡ xor (xor (is_set x i) (is_set y i)) (carry (is_set x) (is_set y) c i)
sum-bit zero x y c = is_set-lowest (x + y + bool_byte c) ∙ (full (is_set x 0) (is_set y 0) c x y (lowest x) (lowest y)).1
sum-bit (suc i) x y c =
    is_set-half (x + y + bool_byte c) i
    ∙ ap (λ n. is_set n i) (full (is_set x 0) (is_set y 0) c x y (lowest x) (lowest y)).0
    ∙ sum-bit i (x / 2) (y / 2) (majority (is_set x 0) (is_set y 0) c)
    ∙ sym (ap₂ xor (ap₂ xor (is_set-half x i) (is_set-half y i)) (carry-half x y c i))

carry-same : {x y : ℕ} {p q : ℕ → Bool} → HasBits x p → HasBits y q → (i : ℕ) → i < 65
    → carry (is_set x) (is_set y) false i ≡ carry p q false i
carry-same h k zero l = refl
carry-same h k (suc i) l = rw (h.bits i (omega arith), k.bits i (omega arith), carry-same h k i (omega arith)) refl

bits-sum : {x y : ℕ} {p q : ℕ → Bool} → HasBits x p → HasBits y q
    → HasBits ((x + y) % 2 ^ 64) (λ i. xor (xor (p i) (q i)) (carry p q false i))
bits-sum {x} {y} h k = record {
  small = mod-lt (x + y) (pow_pos 64);
  bits = λ i l. is_set-mod (x + y) i l ∙ ap (λ n. is_set n i) (sym (add-zero (x + y))) ∙ sum-bit i x y false
      ∙ ap₂ xor (ap₂ xor (h.bits i l) (k.bits i l)) (carry-same h k i (omega arith));
}

flag : (r : Bool) (n : ℕ) → FalseIff r (n < 2 ^ 64) → n < 2 ^ 65 → r ≡ is_set n 64
unfolding is_set
flag true n f l = ap (λ m. m == 1) (let e : 1 ≡ n / 2 ^ 64 % 2 = omega arith in e)
flag false n f l = sym (is_set-above n 64 64 f (omega arith))

-- whether it overflows
sum-over : {x y : ℕ} {p q : ℕ → Bool} (r : Bool) → HasBits x p → HasBits y q → FalseIff r (x + y < 2 ^ 64) → r ≡ carry p q false 64
sum-over {x} {y} r h k over =
    flag r (x + y) over (let s = h.small in let t = k.small in omega arith) ∙ ap (λ n. is_set n 64) (sym (add-zero (x + y)))
    ∙ sum-bit 64 x y false
    ∙ ap₂ xor (ap₂ xor (is_set-above x 64 64 h.small (omega arith)) (is_set-above y 64 64 k.small (omega arith)))
    (carry-same h k 64 (omega arith))

-- ---- runs of backslashes

abbrev even : ℕ → Bool
even zero = true
even (suc i) = not (even i)

bits-even : HasBits 6148914691236517205 even
unfolding is_set
bits-even = record {
  small = omega arith;
  bits = λ i l. same_is _ _ (upto_sound (λ j. same (is_set 6148914691236517205 j) (even j)) 64 tt i l);
}

-- At a byte, e says whether its index is even, f whether a live backslash is before it, k is the carry, l whether it is a live
-- backslash. In a run, the carry tells whether the run began at an odd index; so it tells whether the byte is escaped.
step : (e f k l : Bool) → (f ≡ false → k ≡ false)
    → ((l && not (f && not (xor e k))) ≡ (l && not (xor (not e) (majority ((l && not e) && not f) l k))))
    × (l ≡ false → majority ((l && not e) && not f) l k ≡ false)
    × ((xor (not e) (xor (xor ((l && not e) && not f) l) k) && l) ≡ (l && not (xor (not e) (majority ((l && not e) && not f) l k))))
step true true true true n = (refl, λ z. cc, refl)
step true true false true n = (refl, λ z. cc, refl)
step true false true true n = absurd (let z : true ≡ false = n refl in cc)
step true false false true n = (refl, λ z. cc, refl)
step false true true true n = (refl, λ z. cc, refl)
step false true false true n = (refl, λ z. cc, refl)
step false false true true n = absurd (let z : true ≡ false = n refl in cc)
step false false false true n = (refl, λ z. cc, refl)
step true f true false n = (refl, λ z. refl, refl)
step true f false false n = (refl, λ z. refl, refl)
step false f true false n = (refl, λ z. refl, refl)
step false f false false n = (refl, λ z. refl, refl)

module _ (c : Bool) (x before : ℕ) (small : x < 2 ^ 64) (is : before ≡ bool_byte c) where
  -- the backslashes that are not escaped from before the block; and those that begin a run at an odd index
  abbrev live : ℕ → Bool
  live zero = is_set x 0 && not c
  live (suc i) = is_set x (suc i)

  abbrev start : ℕ → Bool
  start i = (live i && not (even i)) && not (after c live i)

  abbrev summed : ℕ → Bool
  summed i = xor (xor (start i) (live i)) (carry start live false i)

  abbrev live_word : ℕ
  live_word = bit_and x (flip before)

  abbrev follows_word : ℕ
  follows_word = bit_or (shl 1 live_word) before

  abbrev start_word : ℕ
  start_word = bit_and (bit_and live_word 12297829382473034410) (flip follows_word)

  hlive : HasBits live_word live
  hlive = bits-same (bits-and (bits-own small) (bits-not (subst (λ w. HasBits w (after c (λ i. false))) (sym is) (bits-byte c)))) go
    where
      go : (i : ℕ) → i < 64 → (is_set x i && not (after c (λ i. false) i)) ≡ live i
      go zero l = refl
      go (suc i) l = and-true (is_set x (suc i))

  hfollows : HasBits follows_word (after c live)
  hfollows = subst (λ w. HasBits (bit_or (shl 1 live_word) w) (after c live)) (sym is) (bits-after c hlive)

  hstart : HasBits start_word start
  hstart = bits-and (bits-and hlive (bits-not bits-even)) (bits-not hfollows)

  -- what the carry and the sum say of each byte but the first
  at : (i : ℕ) → i < 64 → (escaped_in c x (suc i) ≡ (live i && not (xor (not (even i)) (carry start live false (suc i)))))
      × (live i ≡ false → carry start live false (suc i) ≡ false)
      × ((xor (not (even i)) (summed i) && live i) ≡ escaped_in c x (suc i))
  unfolding escaped_in
  at zero l = first (is_set x 0 && not c)
    where
      first : (t : Bool) → (t ≡ (t && not (xor false (majority ((t && false) && not c) t false))))
          × (t ≡ false → majority ((t && false) && not c) t false ≡ false)
          × ((xor false (xor (xor ((t && false) && not c) t) false) && t) ≡ t)
      first true = (refl, λ z. refl, refl)
      first false = (refl, λ z. refl, refl)
  at (suc i) l =
      let h = at i (omega arith) in
      let next = step (even (suc i)) (live i) (carry start live false (suc i)) (live (suc i)) h.1 in
      let now = ap (λ t. is_set x (suc i) && not t) h.0 ∙ next.0 in
      (now, next.1, next.2 ∙ sym now)

  -- The escaped bytes, and whether the first byte after the block is.
  pub escaped_words : (sum : ℕ) (over : Bool) → sum ≡ (start_word + live_word) % 2 ^ 64 → FalseIff over (start_word + live_word < 2 ^ 64)
      → HasBits (bit_and (bit_xor 6148914691236517205 (shl 1 sum)) follows_word) (escaped_in c x)
      × (bool_byte over ≡ bool_byte (escaped_in c x 64))
  unfolding escaped_in
  escaped_words sum over added overflow = (
    bits-same (bits-and (bits-xor bits-even (bits-shl (subst (λ w. HasBits w summed) (sym added) (bits-sum hstart hlive)))) hfollows) go,
    ap bool_byte (sum-over over hstart hlive overflow ∙ sym (last (live 63) (carry start live false 64) (at 63 (omega arith)).1)
        ∙ sym (at 63 (omega arith)).0),
  )
    where
      go : (i : ℕ) → i < 64 → (xor (even i) (after false summed i) && after c live i) ≡ escaped_in c x i
      go zero l = refl
      go (suc i) l = (at i (omega arith)).2

      last : (l k : Bool) → (l ≡ false → k ≡ false) → (l && not (not k)) ≡ k
      last true true n = refl
      last true false n = refl
      last false true n = sym (n refl)
      last false false n = refl

-- ---- with no backslash

-- Only what was carried is escaped.
pub no_escapes : (c : Bool) (before : ℕ) → before ≡ bool_byte c → HasBits before (escaped_in c 0) × (0 ≡ bool_byte (escaped_in c 0 64))
unfolding escaped_in
no_escapes c before is = (
  subst (λ w. HasBits w (escaped_in c 0)) (sym is) (bits-same (bits-byte c) (λ i l. each i (omega arith))),
  ap bool_byte (each 64 (omega arith)),
)
  where
    each : (i : ℕ) → i < 65 → after c (λ i. false) i ≡ escaped_in c 0 i
    each zero l = refl
    each (suc i) l = ap (λ t. t && not (escaped_in c 0 i)) (sym (is_set-zero i))
