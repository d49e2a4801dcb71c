-- What a scan knows, a block further.
use Rattle.std.proofs.Common.{◌≡◌, if◌then◌else◌, ◌≢◌, refl, sym, ◌∙◌, ap, ap₂, subst, ℕ, zero, suc, ◌+◌, ◌*◌, ◌/◌, ◌%◌, ◌^◌, ◌<◌, ◌≤◌}
use Rattle.std.proofs.Common.{inl, inr, List, [], ◌∷◌, ◌++◌, length, get_or, take, drop, Bool, true, false, not, ◌&&◌, ◌||◌, ◌==◌, IsTrue}
use Rattle.std.proofs.Common.{add-zero, zero-add, arith, pow-suc, eqb-true, eq-eqb}
use Rattle.std.specs.Int.{from_bool}
use Rattle.std.specs.List.{list_any, range_with_len, filter}
use Rattle.std.proofs.lemmas.Bool.{cases_lt, ne_eqb, eqb-false, and_parts}
use Rattle.std.specs.Cmp.Derive.{one_truth}
use Rattle.std.proofs.lemmas.Nat.Bits.{bit_at_lowest, bit_at-suc}
use lib.ListN.{set}
use Rattle.std.proofs.lemmas.Grind.{common_steps}
use Rattle.std.proofs.lemmas.List.{take-take, take_at, drop-drop, get_or_default}
use Rattle.std.proofs.lemmas.Simd.{length-chunk, get_or-chunk}
use Rattle.std.specs.Simd.{first_chunks}
use lib.Lanes.{chunk}
use Rattle.std.proofs.lemmas.List.Elements.{filter-append}
use Rattle.std.proofs.lemmas.List.Folds.{list_any-append}
use lib.Bits.{bit_or, or_add_and, and_le_l}
use Rattle.std.proofs.lemmas.Nat.{and_le_r}
use mir.Val.{bool_byte}
use Rattle.simd_json_parts.specs.Bytes.{is_control, byte_at}
use Rattle.simd_json_parts.specs.Positions.{backslashes_before, real_quotes, is_inside, is_position}
use Rattle.simd_json_stages.specs.Carries.{is_escaped_at, has_control_before}
use Rattle.simd_json_stages.specs.EscapeBlocks.{holds_backslash}
use Rattle.simd_json_stages.specs.Words.{is_set, HasBits, set_bits}
use Rattle.simd_json_stages.specs.Blocks.{is_plain_before, IsCarried, AreBlocks, AreClassified, AreStarts, IsClassified, IsPlaced}
use Rattle.simd_json_stages.specs.Blocks.{IsScanned}
use Rattle.simd_json_stages.specs.declared.stage1.words.BlockStarts.{BlockStarts}
use Rattle.simd_json_stages.specs.declared.stage1.words.Classified.{Classified}
use Rattle.simd_json_stages.specs.declared.stage1.scan.Placing.{Placing}
use Rattle.simd_json_stages.specs.declared.stage1.scan.ScanState.{ScanState}
use Rattle.simd_json_stages.specs.declared.stage1.scan.Classifying.{Classifying}
use Rattle.simd_json_stages.proofs.Scan.CarryLaws.{filter-next}
use Rattle.simd_json_stages.proofs.Scan.Bits.Computed.{equal-two}
use Rattle.simd_json_stages.proofs.Scan.Bits.Places.{set_bits-filter}

pub range-add : (a m n : ℕ) → range_with_len a (m + n) ≡ range_with_len a m ++ range_with_len (a + m) n
range-add a zero n = ap₂ range_with_len (sym (add-zero a)) (zero-add n)
range-add a (suc m) n =
    let e : suc m + n ≡ suc (m + n) = omega arith in
    let f : a + 1 + m ≡ a + suc m = omega arith in
    ap (range_with_len a) e ∙ ap (λ l. a ∷ l) (range-add (a + 1) m n ∙ ap (λ j. range_with_len (a + 1) m ++ range_with_len j n) f)

-- the indexes of one more block
pub range-block : (k : ℕ) → range_with_len 0 (64 * (k + 1)) ≡ range_with_len 0 (64 * k) ++ range_with_len (64 * k) 64
range-block k =
    let e : 64 * (k + 1) ≡ 64 * k + 64 = omega arith in
    ap (range_with_len 0) e ∙ range-add 0 (64 * k) 64 ∙ ap (λ j. range_with_len 0 (64 * k) ++ range_with_len j 64) (zero-add (64 * k))

pub positions-next : (p : ℕ → Bool) (k w : ℕ) → HasBits w (λ i. p (64 * k + i))
    → filter p (range_with_len 0 (64 * k)) ++ set_bits 64 (64 * k) w ≡ filter p (range_with_len 0 (64 * (k + 1)))
positions-next p k w h =
    ap (λ l. filter p (range_with_len 0 (64 * k)) ++ l) (set_bits-filter p 64 (64 * k) w h.bits)
    ∙ sym (filter-append p (range_with_len 0 (64 * k)) (range_with_len (64 * k) 64))
    ∙ ap (filter p) (sym (range-block k))

-- ---- a word is 0 where no bit is set

zero-halves : (w : ℕ) → (w == 0) ≡ (not (w % 2 == 1) && (w / 2 == 0))
zero-halves w = go (w % 2 == 1) refl
  where
    go : (t : Bool) → (w % 2 == 1) ≡ t → (w == 0) ≡ (not t && (w / 2 == 0))
    go true e = let odd : w % 2 ≡ 1 = eqb-true _ _ e in ne_eqb w 0 (λ z. omega arith)
    go false e = let even : w % 2 ≢ 1 = eqb-false _ _ e in elim (cases_lt 0 w) [
      | inl l ↦ ne_eqb w 0 (λ z. omega arith) ∙ sym (ne_eqb (w / 2) 0 (λ z. omega arith))
      | inr r ↦ (let n : w ≡ 0 = omega arith in let m : w / 2 ≡ 0 = omega arith in eq-eqb _ _ n ∙ sym (eq-eqb _ _ m))
    ]

neither : (s t : Bool) → (not s && not t) ≡ not (s || t)
neither = equal-two (λ s t. not s && not t) (λ s t. not (s || t)) tt

pub zero-bits : (f : ℕ → Bool) (k at w : ℕ) → w < 2 ^ k → ((i : ℕ) → i < k → is_set w i ≡ f (at + i))
    → (w == 0) ≡ not (list_any f (range_with_len at k))
unfolding is_set
zero-bits f zero at w h e = let z : w ≡ 0 = omega arith in eq-eqb _ _ z
zero-bits f (suc k) at w h e =
    let first : (w % 2 == 1) ≡ f at = ap (λ n. n == 1) (sym (bit_at_lowest w)) ∙ e 0 (omega arith) ∙ ap f (add-zero at) in
    let rest = zero-bits f k (at + 1) (w / 2) (omega (arith, pow-suc 2 k))
    (λ i lt. ap (λ n. n == 1) (sym (bit_at-suc w i)) ∙ e (suc i) (omega arith) ∙ ap f (omega arith)) in
    zero-halves w ∙ ap₂ (λ s t. not s && t) first rest ∙ neither (f at) (list_any f (range_with_len (at + 1) k))

pub or-none : (x y : ℕ) → bit_or x y ≡ 0 → (x ≡ 0) × (y ≡ 0)
or-none x y none =
    (omega (arith, or_add_and x y, and_le_l x y, and_le_r x y), omega (arith, or_add_and x y, and_le_l x y, and_le_r x y))

or-zero : (x y : ℕ) → (bit_or x y == 0) ≡ ((x == 0) && (y == 0))
or-zero x y = one_truth _ _
    (λ h. let none = or-none x y (eqb-true _ _ h) in ap₂ (λ s t. s && t) (eq-eqb _ _ none.0) (eq-eqb _ _ none.1))
    (λ h.
    let parts = and_parts (x == 0) (y == 0) h in
    let a : x ≡ 0 = eqb-true _ _ parts.0 in
    let c : y ≡ 0 = eqb-true _ _ parts.1 in
    let z : bit_or x y ≡ 0 = omega (arith, or_add_and x y) in
    eq-eqb _ _ z)

pub control-next : (b : List ℕ) (k bad w : ℕ) → (bad == 0) ≡ not (has_control_before b (64 * k))
    → HasBits w (λ i. is_inside b (64 * k + i) && is_control (byte_at b (64 * k + i)))
    → (bit_or bad w == 0) ≡ not (has_control_before b (64 * (k + 1)))
control-next b k bad w e h =
    let f = λ (i : ℕ). is_inside b i && is_control (byte_at b i) in
    or-zero bad w ∙ ap₂ (λ s t. s && t) e (zero-bits f 64 (64 * k) w h.small h.bits)
    ∙ neither (has_control_before b (64 * k)) (list_any f (range_with_len (64 * k) 64))
    ∙ ap not (sym (ap (list_any f) (range-block k) ∙ list_any-append f (range_with_len 0 (64 * k)) (range_with_len (64 * k) 64)))

-- ---- the list of blocks

listed-next : (p : ℕ → Bool) (k n : ℕ) (listed after : List ℕ) (end : ℕ) (t : Bool) → t ≡ p k
    → take n listed ≡ filter p (range_with_len 0 k)
    → take end after ≡ (if t then take n listed ++ k ∷ [] else take n listed) → take end after ≡ filter p (range_with_len 0 (k + 1))
listed-next p k n listed after end t e h written = written ∙ ap (λ ks. if t then ks ++ k ∷ [] else ks) h ∙ sym (filter-next p k t (sym e))

pub bool-small : (t : Bool) → bool_byte t ≤ 1
bool-small true = omega arith
bool-small false = omega arith

-- one more is within a list that has capacity for it
pub listed-within : (t : Bool) {used len end : ℕ} → (IsTrue t → used < len) → used ≤ len → end ≡ used + bool_byte t → end ≤ len
listed-within true more within count = let one = more refl in omega arith
listed-within false more within count = omega arith

-- ---- all of it

pub IsClassified-next : (b : List ℕ) (k : ℕ) (s : Classifying) (listed : List ℕ) (m : Classified) (high : ℕ) (after : List ℕ)
    (end : ℕ) → IsClassified b k s listed → AreClassified b (64 * k) m
    → take end after ≡ (if m.has_backslash then take s.listed listed ++ k ∷ [] else take s.listed listed)
    → end ≡ s.listed + bool_byte m.has_backslash → end ≤ length after
    → IsClassified b (k + 1) (record { escaped = m.next; high = high; listed = end }) after
unfolding holds_backslash
IsClassified-next b k s listed m high after end h classified written count within =
    let e : 64 * k + 64 ≡ 64 * (k + 1) = omega arith in
    let one = bool-small m.has_backslash in
    record {
      escaped = classified.next ∙ ap (λ n. from_bool (is_escaped_at b n)) e;
      few = let f = h.few in omega arith;
      within = within;
      found = listed-next (holds_backslash b) k s.listed listed after end m.has_backslash classified.escapes h.found written;
    }

pub IsPlaced-next : (b : List ℕ) (k : ℕ) (p : Placing) (out : List ℕ) (m : BlockStarts) (after : List ℕ) (used : ℕ) → IsPlaced b k p out
    → AreStarts b (64 * k) m
    → take used after ≡ take p.used out ++ set_bits 64 (64 * k) m.starts → used ≤ p.used + 64 → used ≤ length after
    → IsPlaced b (k + 1) (record { carry = m.carry; bad = bit_or p.bad m.bad; used = used }) after
IsPlaced-next b k p out m after used h placed written few within =
    let e : 64 * k + 64 ≡ 64 * (k + 1) = omega arith in
    record {
      carried = subst (λ n. IsCarried b n m.carry) e placed.carry;
      bad = control-next b k p.bad m.bad h.bad placed.bad;
      few = let f = h.few in omega arith;
      within = within;
      found = written ∙ ap (λ l. l ++ set_bits 64 (64 * k) m.starts) h.found ∙ positions-next (is_position b) k m.starts placed.starts;
    }

-- ---- the same block, counted otherwise

pub IsPlaced-same : {b : List ℕ} {m n : ℕ} {p : Placing} {out : List ℕ} → m ≡ n → IsPlaced b m p out → IsPlaced b n p out
IsPlaced-same {b} {m} {n} {p} {out} e h = subst (λ k. IsPlaced b k p out) e h

pub IsScanned-same : {b : List ℕ} {m n : ℕ} {s : ScanState} {out listed : List ℕ} → m ≡ n → IsScanned b m s out listed
    → IsScanned b n s out listed
IsScanned-same {b} {m} {n} {s} {out} {listed} e h = subst (λ k. IsScanned b k s out listed) e h

-- ---- at the start, and where lists grow

pub IsScanned-none : (b : List ℕ) (out listed : List ℕ)
    → IsScanned b 0 (record {
      classifying = record { escaped = 0; high = 0; listed = 0 };
      placing = record { carry = record { inside = 0; plain = 0 }; bad = 0; used = 0 };
    }) out listed
unfolding backslashes_before real_quotes is_plain_before
IsScanned-none b out listed = record {
  classified = record { escaped = refl; few = omega arith; within = omega arith; found = refl };
  placed = record { carried = record { inside = refl; plain = refl }; bad = refl; few = omega arith; within = omega arith; found = refl };
}

pub prefix : (n : ℕ) (xs ys : List ℕ) → n ≤ length xs → take (length xs) ys ≡ xs → take n ys ≡ take n xs
prefix n xs ys l e = sym (take-take n (length xs) ys l) ∙ ap (take n) e

-- one more number after the first n
pub stored-next : (n k : ℕ) (xs ys : List ℕ) → n ≤ length xs → take (length xs) ys ≡ xs → n < length ys
    → take (n + 1) (set ys n k) ≡ take n xs ++ k ∷ []
stored-next n k xs ys l e more =
    let here : take (n + 1) (set ys n k) ≡ take n ys ++ k ∷ [] = grind (arith, common_steps) in
    here ∙ ap (λ ks. ks ++ k ∷ []) (prefix n xs ys l e)

-- in lists that are longer, where a window begins with no byte that is no ASCII
pub IsScanned-longer : {b : List ℕ} {k : ℕ} {s : ScanState} {xs ys us vs ps qs : List ℕ} → IsScanned b k s xs ys
    → (take (length xs) us ≡ xs) × (take (length ys) vs ≡ ys) → (length xs ≤ length us) × (length ys ≤ length vs)
    → ps ≡ us → qs ≡ vs → IsScanned b k (record {
      classifying = record { escaped = s.classifying.escaped; high = 0; listed = s.classifying.listed };
      placing = s.placing;
    }) ps qs
IsScanned-longer {b} {k} {s} {xs} {ys} {us} {vs} h kept long p q =
    let t = h.classified in
    let w = h.placed in
    rw (p, q) (record {
      classified = record {
        escaped = t.escaped;
        few = t.few;
        within = omega (arith, t.within, long.1);
        found = prefix s.classifying.listed ys vs t.within kept.1 ∙ t.found;
      };
      placed = record {
        carried = w.carried;
        bad = w.bad;
        few = w.few;
        within = omega (arith, w.within, long.0);
        found = prefix s.placing.used xs us w.within kept.0 ∙ w.found;
      };
    })

pub written-back : (xs ys : List ℕ) (n : ℕ) → length xs ≡ n → take n (xs ++ ys) ≡ xs
written-back xs ys n e = take_at xs ys n e

pub length-back : (xs ys : List ℕ) (n : ℕ) → length xs ≡ n → length (take n (xs ++ ys)) ≡ n
length-back xs ys n e = ap length (written-back xs ys n e) ∙ e

-- once the slices are given back
pub IsScanned-back : {b : List ℕ} {k : ℕ} {s : ScanState} {xs ys : List ℕ} (us vs : List ℕ) (m n : ℕ) → length xs ≡ m → length ys ≡ n
    → IsScanned b k s xs ys → IsScanned b k s (take m (xs ++ us)) (take n (ys ++ vs))
IsScanned-back {b} {k} {s} {xs} {ys} us vs m n e f h = rw (written-back xs us m e, written-back ys vs n f) h

-- ---- the blocks of an input

chunk-at : (n m : ℕ) (xs : List ℕ) (k : ℕ) (d : List ℕ) → k < m → get_or (first_chunks n m xs) k d ≡ chunk (n * k) n xs
chunk-at n zero xs k d l = absurd (omega arith)
chunk-at n (suc m) xs zero d l = let e : 0 ≡ n * 0 = omega arith in ap (λ j. chunk j n xs) e
chunk-at n (suc m) xs (suc k) d l =
    let e : n * k + n ≡ n * suc k = omega arith in
    chunk-at n m (drop n xs) k d (omega arith) ∙ ap (take n) (drop-drop (n * k) n xs ∙ ap (λ j. drop j xs) (omega arith))

pub AreBlocks-chunks : (b : List ℕ) (blocks : List (List ℕ)) → blocks ≡ first_chunks 64 (length b / 64) b
    → length blocks ≡ length b / 64 → AreBlocks b blocks
AreBlocks-chunks b blocks e long = λ k d l.
    let within : k < length b / 64 = omega arith in
    let is : get_or blocks k d ≡ chunk (64 * k) 64 b = ap (λ bs. get_or bs k d) e ∙ chunk-at 64 (length b / 64) b k d within in
    record {
      len = ap length is ∙ length-chunk (64 * k) 64 b (omega arith);
      same = λ i h. ap (λ xs. get_or xs i 0) is ∙ get_or-chunk (64 * k) 64 b i 0 h ∙ get_or_default b (64 * k + i) 0 32 (omega arith);
    }
