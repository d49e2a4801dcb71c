-- The last block, which spaces fill up.
use Rattle.std.proofs.Common.{◌≡◌, refl, sym, ◌∙◌, ap, ap₂, ℕ, zero, suc, ◌+◌, ◌-◌, ◌*◌, ◌/◌, ◌<◌, ◌≤◌, inl, inr, List, [], ◌∷◌, ◌++◌}
use Rattle.std.proofs.Common.{length, get_or, take, drop, replicate, Bool, true, false, not, ◌&&◌, ◌||◌, ◌==◌, if◌then◌else◌, add-zero}
use Rattle.std.proofs.Common.{add-suc, arith, subst, length-drop, length-append}
use Rattle.std.specs.List.{list_any, range_with_len, filter}
use Rattle.std.proofs.Math.Bool.{or-false, and-false, not-not}
use Rattle.std.proofs.lemmas.Bool.{cases_lt}
use Rattle.std.proofs.lemmas.List.{get_or_past, get_or_default, get_or_append_left, get_or-append_right, get_or-replicate}
use Rattle.std.proofs.lemmas.List.{get_or-drop, drop-drop}
use Rattle.std.proofs.lemmas.List.{length-replicate, drop-replicate, length-take-le}
use Rattle.std.proofs.lemmas.List.Sums.{length-filter, count_by-le-length}
use Rattle.std.proofs.lemmas.List.Folds.{list_any-append}
use Rattle.std.proofs.lemmas.List.FromFn.{length-range_with_len}
use lib.Bits.{bit_or}
use lib.Count.{ones}
use Rattle.simd_json_parts.specs.Bytes.{quote, is_whitespace, is_structural, is_control, byte_at}
use Rattle.simd_json_parts.specs.Positions.{is_even, backslashes_before, is_real_quote, real_quotes, is_inside, is_fresh, is_position}
use Rattle.simd_json_parts.specs.Positions.{positions, has_control_inside}
use Rattle.simd_json_parts.specs.InputFaults.{has_bad_string}
use Rattle.simd_json_stages.specs.Carries.{has_control_before}
use Rattle.simd_json_stages.specs.EscapeBlocks.{blocks_in, holds_backslash, backslash_blocks}
use Rattle.simd_json_stages.specs.Words.{is_set, set_bits, HasBits, HasLastBits}
use Rattle.simd_json_stages.specs.Blocks.{all_bits, IsBlock, AreClassified, AreStarts, IsClassified, IsPlaced}
use Rattle.simd_json_stages.specs.declared.stage1.words.BlockStarts.{BlockStarts}
use Rattle.simd_json_stages.specs.declared.stage1.words.Classified.{Classified}
use Rattle.simd_json_stages.specs.declared.stage1.scan.Placing.{Placing}
use Rattle.simd_json_stages.specs.declared.stage1.scan.Classifying.{Classifying}
use Rattle.simd_json_stages.proofs.Scan.CarryLaws.{filter-next}
use Rattle.simd_json_stages.proofs.Scan.Bits.Computed.{equal-one}
use Rattle.simd_json_stages.proofs.Scan.EscapeBlockLaws.{filter-stays, list_any-none_between, holds_backslash-plain, byte_at-past}
use Rattle.simd_json_stages.proofs.Scan.Bits.Combined.{bits-all, bits-not, bits-or, bits-own, bits-same}
use Rattle.simd_json_stages.proofs.Scan.Bits.Operations.{flip}
use Rattle.simd_json_stages.proofs.Scan.Bits.Places.{length-ones}
use Rattle.simd_json_stages.proofs.Scan.ScanLaws.{range-add, positions-next, control-next, zero-bits}

-- how many whole blocks there are
abbrev pub whole : List ℕ → ℕ
whole b = length b / 64

padded : (r p : ℕ) → r < 64 → p ≡ 64 - r → r + p ≡ 64
padded r p h e = omega arith

pub IsBlock-rest : (b rest front : List ℕ) → rest ≡ drop (length b / 64 * 64) b → front ≡ rest
    → IsBlock b (64 * whole b) (front ++ drop (length rest) (replicate 64 32))
IsBlock-rest b rest front e copied =
    let f : front ++ drop (length rest) (replicate 64 32) ≡ rest ++ replicate (64 - length rest) 32 = rw (copied, drop-replicate) in
    let n = length-drop (length b / 64 * 64) b in
    let long : length rest ≡ length b - length b / 64 * 64 = ap length e ∙ n in
    let from : length b / 64 * 64 ≡ 64 * whole b = omega arith in
    record {
      len = ap length f ∙ length-append rest (replicate (64 - length rest) 32)
          ∙ padded (length rest) _ (omega arith) (length-replicate (64 - length rest) 32);
      same = λ i l. ap (λ xs. get_or xs i 0) f ∙ elim (cases_lt i (length rest)) [
        | inl h ↦
            get_or_append_left rest (replicate (64 - length rest) 32) 0 i h ∙ ap (λ xs. get_or xs i 0) e
            ∙ get_or-drop (length b / 64 * 64) b i 0
            ∙ ap (λ m. get_or b (m + i) 0) from ∙ get_or_default b (64 * whole b + i) 0 32 (omega arith)
        | inr h ↦
            get_or-append_right rest (replicate (64 - length rest) 32) (length rest) i 0 refl h
            ∙ get_or-replicate (64 - length rest) (i - length rest) 32 0 (omega arith)
            ∙ sym (get_or_past b (64 * whole b + i) 32 (omega arith))
      ];
    }

-- the rest is at the end of the last 64 bytes
pub IsBlock-last : (b rest last : List ℕ) → rest ≡ drop (length b / 64 * 64) b → 64 ≤ length b → last ≡ drop (length b - 64) b
    → IsBlock b (64 * whole b) (drop (64 - length rest) last ++ replicate (64 - length rest) 32)
IsBlock-last b rest last e long is =
    let size = length-drop (length b / 64 * 64) b in
    let from : length b - 64 + (64 - length rest) ≡ length b / 64 * 64 = omega (arith, ap length e) in
    let front : drop (64 - length rest) last ≡ rest = ap (drop (64 - length rest)) is ∙ drop-drop (64 - length rest) (length b - 64) b
    ∙ ap (λ n. drop n b) from ∙ sym e in
    let same : rest ++ drop (length rest) (replicate 64 32) ≡ drop (64 - length rest) last ++ replicate (64 - length rest) 32 =
    rw (front, drop-replicate) in
    subst (IsBlock b (64 * whole b)) same (IsBlock-rest b rest rest e refl)

-- ---- the last `len` of 64 bytes, and spaces after them

abbrev pub filled : ℕ → List ℕ → List ℕ
filled len xs = drop (64 - len) xs ++ replicate (64 - len) 32

module _ (xs : List ℕ) (len : ℕ) (long : length xs ≡ 64) (short : len < 64) where
  size : length (drop (64 - len) xs) ≡ len
  size = omega (arith, length-drop (64 - len) xs)

  pub length-filled : length (filled len xs) ≡ 64
  length-filled = omega (arith, length-append (drop (64 - len) xs) (replicate (64 - len) 32), size, length-replicate {A = ℕ} (64 - len) 32)

  pub filled-front : (i : ℕ) → i < len → get_or (filled len xs) i 0 ≡ get_or xs (64 - len + i) 0
  filled-front i l = get_or_append_left (drop (64 - len) xs) (replicate (64 - len) 32) 0 i (omega (arith, size))
      ∙ get_or-drop (64 - len) xs i 0

  pub filled-behind : (i : ℕ) → len ≤ i → i < 64 → get_or (filled len xs) i 0 ≡ 32
  filled-behind i f l = get_or-append_right (drop (64 - len) xs) (replicate (64 - len) 32) len i 0 size f
      ∙ get_or-replicate (64 - len) (i - len) 32 0 (omega arith)

  -- what is true of each byte and of a space is of each of these
  pub filled-each : (p : ℕ → Type 0) → p 32 → ((i : ℕ) → i < 64 → p (get_or xs i 0)) → (i : ℕ) → i < 64 → p (get_or (filled len xs) i 0)
  filled-each p space each i l = elim (cases_lt i len) [
    | inl h ↦ subst p (sym (filled-front i h)) (each (64 - len + i) (omega arith))
    | inr h ↦ subst p (sym (filled-behind i h l)) space
  ]

  pub filled-bytes : ((i : ℕ) → get_or xs i 0 < 256) → (i : ℕ) → get_or (filled len xs) i 0 < 256
  filled-bytes small i = elim (cases_lt i 64) [
    | inl l ↦ filled-each (λ x. x < 256) (omega arith) (λ j m. small j) i l
    | inr h ↦ omega (arith, get_or_past (filled len xs) i 0 (omega (arith, length-filled)))
  ]

  module _ (q : ℕ → Bool) (w w' : ℕ) (has : HasBits w (λ i. q (get_or xs i 0))) (is : HasLastBits len w w') where
    here : (i : ℕ) → i < len → is_set w' i ≡ q (get_or (filled len xs) i 0)
    here i h = is.front i h ∙ has.bits (64 - len + i) (omega arith) ∙ ap q (sym (filled-front i h))

    -- a class that a space is not of
    pub bits-moved : q 32 ≡ false → HasBits w' (λ i. q (get_or (filled len xs) i 0))
    bits-moved space = bits-same (bits-own is.small) (λ i l. elim (cases_lt i len) [
      | inl h ↦ here i h
      | inr h ↦ is.behind i h l ∙ sym (ap q (filled-behind i h l) ∙ space)
    ])

    -- one that it is of
    pub bits-filled : (m : ℕ) → HasLastBits len (all_bits true) m → q 32 ≡ true
        → HasBits (bit_or w' (flip m)) (λ i. q (get_or (filled len xs) i 0))
    bits-filled m mask space = bits-same (bits-or (bits-own is.small) (bits-not (bits-own mask.small))) (λ i l. elim (cases_lt i len) [
      | inl h ↦ ap₂ (λ s t. s || not t) (here i h) (mask.front i h ∙ (bits-all true).bits (64 - len + i) (omega arith))
          ∙ or-false (q (get_or (filled len xs) i 0))
      | inr h ↦ ap₂ (λ s t. s || not t) (is.behind i h l) (mask.behind i h l) ∙ sym (ap q (filled-behind i h l) ∙ space)
    ])

-- a word of backslashes is 0 where there is none
pub any-set : (p : ℕ → Bool) (at w : ℕ) → HasBits w (λ i. p (at + i)) → not (w == 0) ≡ list_any p (range_with_len at 64)
any-set p at w has = ap not (zero-bits p 64 at w has.small has.bits) ∙ not-not (list_any p (range_with_len at 64))

-- ---- past the end there are spaces

space-past : (b : List ℕ) (i : ℕ) → length b ≤ i → byte_at b i ≡ 32
space-past b i l = get_or_past b i 32 l

real-past : (b : List ℕ) (i : ℕ) → length b ≤ i → is_real_quote b i ≡ false
unfolding is_real_quote
real-past b i l = ap (λ x. (x == quote) && is_even (backslashes_before b i)) (space-past b i l)

position-past : (b : List ℕ) (i : ℕ) → length b ≤ i → is_position b i ≡ false
unfolding is_position
position-past b i l =
    let n = is_inside b i in
    ap₂ (λ q x. (q && n) || ((not n && not q) && (is_structural x || (not (is_whitespace x) && is_fresh b i)))) (real-past b i l)
    (space-past b i l) ∙ and-false (not n && true)

quotes-past : (b : List ℕ) (n : ℕ) → real_quotes b (length b + n) ≡ real_quotes b (length b)
unfolding real_quotes
quotes-past b zero = ap (real_quotes b) (add-zero (length b))
quotes-past b (suc n) =
    ap (real_quotes b) (add-suc (length b) n) ∙ ap (λ t. if t then suc (real_quotes b (length b + n)) else real_quotes b
    (length b + n)) (real-past b (length b + n) (omega arith)) ∙ quotes-past b n

pub positions-all : (b : List ℕ) (n : ℕ) → length b ≤ n → filter (is_position b) (range_with_len 0 n) ≡ positions b
unfolding positions
positions-all b n l = filter-stays (is_position b) (length b) n l (λ k f t. position-past b k f)

control-all : (b : List ℕ) (n : ℕ) → has_control_before b (length b + n) ≡ has_control_inside b
unfolding has_control_inside
control-all b n =
    let f = λ (i : ℕ). is_inside b i && is_control (byte_at b i) in
    ap (list_any f) (range-add 0 (length b) n) ∙ list_any-append f (range_with_len 0 (length b)) (range_with_len (0 + length b) n)
    ∙ ap (λ t. list_any f (range_with_len 0 (length b)) || t)
    (list_any-none_between f (0 + length b) n (λ j g h. ap (λ x. is_inside b j && is_control x) (space-past b j (omega arith))
    ∙ and-false (is_inside b j)))
    ∙ or-false (list_any f (range_with_len 0 (length b)))

-- ---- what the last block adds

all-zero : (t : Bool) → not (all_bits t == 0) ≡ t
all-zero = equal-one (λ t. not (all_bits t == 0)) (λ t. t) tt

pub rest-bad : (b : List ℕ) (p : Placing) (out : List ℕ) (m : BlockStarts) → IsPlaced b (whole b) p out → AreStarts b (64 * whole b) m
    → (not (m.carry.inside == 0) || not (bit_or p.bad m.bad == 0)) ≡ has_bad_string b
rest-bad b p out m h placed =
    let k = whole b in
    let n = 64 * k + 64 - length b in
    let e : 64 * k + 64 ≡ length b + n = omega arith in
    let f : 64 * (k + 1) ≡ length b + n = omega arith in
    ap₂ (λ x y. x || y)
    (ap (λ w. not (w == 0)) placed.carry.inside ∙ all-zero (not (is_even (real_quotes b (64 * k + 64))))
    ∙ ap (λ j. not (is_even (real_quotes b j))) e ∙ ap (λ j. not (is_even j)) (quotes-past b n))
    (ap not (control-next b k p.bad m.bad h.bad placed.bad) ∙ not-not (has_control_before b (64 * (k + 1)))
    ∙ ap (has_control_before b) f ∙ control-all b n)

pub rest-positions : (b : List ℕ) (p : Placing) (out : List ℕ) (m : BlockStarts) → IsPlaced b (whole b) p out
    → AreStarts b (64 * whole b) m → take p.used out ++ set_bits 64 (64 * whole b) m.starts ≡ positions b
rest-positions b p out m h placed =
    let k = whole b in
    ap (λ l. l ++ set_bits 64 (64 * k) m.starts) h.found ∙ positions-next (is_position b) k m.starts placed.starts
    ∙ positions-all b (64 * (k + 1)) (omega arith)

few-positions : (b : List ℕ) → length (positions b) ≤ length b
unfolding positions
few-positions b = omega (
  arith,
  length-filter (is_position b) (range_with_len 0 (length b)),
  count_by-le-length (is_position b) (range_with_len 0 (length b)),
  length-range_with_len 0 (length b),
)

pub rest-few : (b : List ℕ) (p : Placing) (out : List ℕ) (m : BlockStarts) → IsPlaced b (whole b) p out → AreStarts b (64 * whole b) m
    → p.used + ones m.starts ≤ length b
rest-few b p out m h placed =
    let all = ap length (rest-positions b p out m h placed) in
    let two = length-append (take p.used out) (set_bits 64 (64 * whole b) m.starts) in
    let one = length-take-le p.used out h.within in
    let bits = length-ones 64 (64 * whole b) m.starts placed.starts.small in
    omega (arith, few-positions b)

pub rest-listed : (b : List ℕ) (s : Classifying) (listed : List ℕ) (m : Classified) → IsClassified b (whole b) s listed
    → AreClassified b (64 * whole b) m → m.has_backslash ≡ true → s.listed < blocks_in (length b)
unfolding holds_backslash
rest-listed b s listed m h classified e = elim (cases_lt (whole b) (blocks_in (length b))) [
  | inl l ↦ (let few = h.few in omega arith)
  | inr r ↦
      let none : holds_backslash b (whole b) ≡ false = holds_backslash-plain b (whole b) (λ j f t. byte_at-past b j (omega arith)) in
      let no : true ≡ false = sym e ∙ classified.escapes ∙ none in
      absurd (cc)
]

-- the blocks that hold a backslash, where the last does or does not
pub rest-blocks : (b : List ℕ) (s : Classifying) (listed : List ℕ) (m : Classified) (t : Bool) → IsClassified b (whole b) s listed
    → AreClassified b (64 * whole b) m → m.has_backslash ≡ t
    → (if t then take s.listed listed ++ whole b ∷ [] else take s.listed listed) ≡ backslash_blocks b
unfolding holds_backslash backslash_blocks
rest-blocks b s listed m t h classified e =
    let k = whole b in
    let holds = holds_backslash b in
    ap (λ ks. if t then ks ++ k ∷ [] else ks) h.found ∙ sym (filter-next holds k t (sym classified.escapes ∙ e))
    ∙ filter-stays holds (blocks_in (length b)) (k + 1) (omega arith)
    (λ j f l. holds_backslash-plain b j (λ i g u. byte_at-past b i (omega arith)))
