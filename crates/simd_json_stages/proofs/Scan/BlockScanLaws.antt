-- Scans of blocks in a row: of none, of one, and of some after others.
use Rattle.std.proofs.Common.{◌≡◌, subst, ℕ, ◌+◌, ◌-◌, ◌*◌, ◌≤◌, inl, inr, List, length, arith}
use Rattle.std.specs.Int.{from_bool}
use Rattle.std.proofs.lemmas.Bool.{cases_lt}
use Rattle.simd_json_stages.specs.Carries.{is_escaped_at}
use Rattle.simd_json_stages.specs.Blocks.{IsBlock, AreBlocks, AreClassified, IsAscii, CanList, IsClassified, IsScanned}
use Rattle.simd_json_stages.specs.BlockScans.{CanScan, Classifies, Scans}
use Rattle.simd_json_stages.specs.declared.stage1.words.Classified.{Classified}
use Rattle.simd_json_stages.specs.declared.stage1.scan.ScanState.{ScanState}
use Rattle.simd_json_stages.specs.declared.stage1.scan.Classifying.{Classifying}

-- ASCII up to one index, and on to the next
IsAscii-next : (b : List ℕ) (from to end : ℕ) → IsAscii b from to → IsAscii b to end → IsAscii b from end
IsAscii-next b from to end first second = λ i l h. elim (cases_lt i to) [
  | inl below ↦ first i l below
  | inr here ↦ second i here h
]

-- ---- the first step

pub Classifies-none : (blocks : List (List ℕ)) (k : ℕ) (s : Classifying) (listed : List ℕ) → Classifies blocks k k s s listed listed
Classifies-none blocks k s listed = record {
  few = omega arith;
  classified = λ b is h. h;
  ascii = λ b is h none. (none, λ i from to. absurd (omega arith));
}

pub Classifies-one : {blocks : List (List ℕ)} {k : ℕ} {s t : Classifying} {m : Classified} {bytes old new : List ℕ}
    → ((b : List ℕ) → AreBlocks b blocks → IsBlock b (64 * k) bytes)
    → ((b : List ℕ) (i : ℕ) → IsBlock b i bytes → s.escaped ≡ from_bool (is_escaped_at b i) → AreClassified b i m)
    → t.listed ≤ s.listed + 1 → (t.high ≡ 0 → (s.high ≡ 0) × (m.high ≡ 0))
    → ((b : List ℕ) → AreClassified b (64 * k) m → IsClassified b k s old → IsClassified b (k + 1) t new)
    → Classifies blocks k (k + 1) s t old new
Classifies-one {blocks} {k} block found few high listed = record {
  few = omega arith;
  classified = λ b is h. listed b (found b (64 * k) (block b is) h.escaped) h;
  ascii = λ b is h none.
      let end : 64 * k + 64 ≡ 64 * (k + 1) = omega arith in
      ((high none).0, subst (IsAscii b (64 * k)) end ((found b (64 * k) (block b is) h.escaped).ascii (high none).1));
}

pub Classifies-more : {blocks : List (List ℕ)} {first mid end : ℕ} {s t u : Classifying} {xs ys zs : List ℕ} → first ≤ mid → mid ≤ end
    → Classifies blocks first mid s t xs ys → Classifies blocks mid end t u ys zs → Classifies blocks first end s u xs zs
Classifies-more {blocks} {first} {mid} {end} l m h more = record {
  few = omega (arith, h.few, more.few);
  classified = λ b is before. more.classified b is (h.classified b is before);
  ascii = λ b is before none.
      let second = more.ascii b is (h.classified b is before) none in
      let both = h.ascii b is before second.0 in
      (both.0, IsAscii-next b (64 * first) (64 * mid) (64 * end) both.1 second.1);
}

pub Classifies-same : {blocks : List (List ℕ)} {first m n : ℕ} {s t : Classifying} {old new : List ℕ} → m ≡ n
    → Classifies blocks first m s t old new → Classifies blocks first n s t old new
Classifies-same {blocks} {first} {m} {n} {s} {t} {old} {new} e h = subst (λ k. Classifies blocks first k s t old new) e h

-- ---- both steps

pub scanned : {blocks : List (List ℕ)} {first end : ℕ} {s t : ScanState} {xs ys us vs : List ℕ} → Scans blocks first end s t xs ys us vs
    → (b : List ℕ) → AreBlocks b blocks → IsScanned b first s xs ys → IsScanned b end t us vs
scanned h b is before = record {
  classified = h.classifies.classified b is before.classified;
  placed = h.placed b is before;
}

pub Scans-none : (blocks : List (List ℕ)) (k : ℕ) (s : ScanState) (xs ys : List ℕ) → Scans blocks k k s s xs ys xs ys
Scans-none blocks k s xs ys = record {
  classifies = Classifies-none blocks k s.classifying ys;
  few = omega arith;
  placed = λ b is before. before.placed;
}

pub Scans-more : {blocks : List (List ℕ)} {first mid end : ℕ} {s t u : ScanState} {xs ys us vs ps qs : List ℕ} → first ≤ mid → mid ≤ end
    → Scans blocks first mid s t xs ys us vs → Scans blocks mid end t u us vs ps qs → Scans blocks first end s u xs ys ps qs
Scans-more l m h more = record {
  classifies = Classifies-more l m h.classifies more.classifies;
  few = omega (arith, h.few, more.few);
  placed = λ b is before. more.placed b is (scanned h b is before);
}

pub Scans-same : {blocks : List (List ℕ)} {first m n : ℕ} {s t : ScanState} {xs ys us vs : List ℕ} → m ≡ n
    → Scans blocks first m s t xs ys us vs → Scans blocks first n s t xs ys us vs
Scans-same {blocks} {first} {m} {n} {s} {t} {xs} {ys} {us} {vs} e h = subst (λ k. Scans blocks first k s t xs ys us vs) e h

-- ---- capacity for what is left

pub CanList-after : (blocks : List (List ℕ)) (first mid end used len used_then len_then : ℕ) → CanList blocks first end used len
    → first ≤ mid → mid ≤ end → used_then ≤ used + (mid - first) → len ≤ len_then → CanList blocks mid end used_then len_then
CanList-after blocks first mid end used len used_then len_then (inl enough) l m few longer = inl (omega arith)
CanList-after blocks first mid end used len used_then len_then (inr none) l m few longer = inr (λ k d from to. none k d (omega arith) to)

pub CanScan-after : {blocks : List (List ℕ)} {first mid end : ℕ} {s t : ScanState} {xs ys us vs : List ℕ} → CanScan blocks first end s xs ys
    → Scans blocks first mid s t xs ys us vs → first ≤ mid → mid ≤ end → length xs ≤ length us → length ys ≤ length vs
    → CanScan blocks mid end t us vs
CanScan-after can scans l m long longer = record {
  order = m;
  within = can.within;
  short = can.short;
  capacity = omega (arith, can.capacity, scans.few);
  block_capacity = CanList-after _ _ _ _ _ _ _ _ can.block_capacity l m scans.classifies.few longer;
}

pub CanScan-front : {blocks : List (List ℕ)} {first mid end : ℕ} {s : ScanState} {xs ys : List ℕ} → CanScan blocks first end s xs ys
    → first ≤ mid → mid ≤ end → CanScan blocks first mid s xs ys
CanScan-front {blocks} {first} {mid} {end} {s} can l m = record {
  order = l;
  within = omega (arith, can.within);
  short = omega (arith, can.short);
  capacity = omega (arith, can.capacity);
  block_capacity = front _ _ can.block_capacity;
}
  where
    front : (used len : ℕ) → CanList blocks first end used len → CanList blocks first mid used len
    front used len (inl enough) = inl (omega arith)
    front used len (inr none) = inr (λ k d from to. none k d from (omega arith))
