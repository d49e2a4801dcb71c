-- Blocks inside a string, with no quote: they have no positions.
use Rattle.std.proofs.Common.{◌≡◌, ◌≢◌, refl, sym, ◌∙◌, ap, ap₂, subst, ℕ, zero, suc, ◌+◌, ◌-◌, ◌*◌, ◌<◌, ◌≤◌, List, ◌++◌, take}
use Rattle.std.proofs.Common.{Bool, true, false, ◌&&◌, add-zero, add-suc, inl, inr, arith}
use Rattle.std.specs.Int.{from_bool}
use Rattle.std.proofs.lemmas.Bool.{cases_lt}
use Rattle.std.proofs.lemmas.List.{append-nil}
use lib.Bits.{bit_or}
use Rattle.simd_json_parts.specs.Bytes.{is_control, byte_at}
use Rattle.simd_json_parts.specs.Positions.{is_real_quote, is_inside, is_position}
use Rattle.simd_json_stages.specs.Carries.{is_open_at}
use Rattle.simd_json_stages.specs.Words.{is_set, xor}
use Rattle.simd_json_stages.specs.Blocks.{is_plain_before, all_bits, AreParts, IsControl, AreStarts, IsPlaced}
use Rattle.simd_json_stages.specs.Groups.{HasNoQuotes}
use Rattle.simd_json_stages.specs.declared.stage1.words.Carry.{Carry}
use Rattle.simd_json_stages.specs.declared.stage1.words.Parts.{Parts}
use Rattle.simd_json_stages.specs.declared.stage1.scan.Placing.{Placing}
use Rattle.simd_json_stages.proofs.Scan.Bits.Combined.{bits-same}
use Rattle.simd_json_stages.proofs.Scan.Bits.Operations.{is_set-zero}
use Rattle.simd_json_stages.proofs.Scan.Bits.Places.{set_bits-zero}
use Rattle.simd_json_stages.proofs.Scan.BlockLaws.{open-next, inside-open}
use Rattle.simd_json_stages.proofs.Scan.ScanLaws.{IsPlaced-next}

-- ---- no quotes

-- no bit for a real one
pub HasNoQuotes-block : (b : List ℕ) (at : ℕ) (p : Parts) → AreParts b at p → p.quote ≡ 0 → HasNoQuotes b at (at + 64)
HasNoQuotes-block b at p parts none = λ i from to.
    let n : at + (i - at) ≡ i = omega arith in
    sym (ap (is_real_quote b) n) ∙ sym (parts.quote.bits (i - at) (omega arith)) ∙ ap (λ w. is_set w (i - at)) none
    ∙ is_set-zero (i - at)

-- up to one index, and on to the next
pub HasNoQuotes-next : (b : List ℕ) (from to end : ℕ) → HasNoQuotes b from to → HasNoQuotes b to end → HasNoQuotes b from end
HasNoQuotes-next b from to end first second = λ i l h. elim (cases_lt i to) [
  | inl below ↦ first i l below
  | inr here ↦ second i here h
]

-- ---- a block that begins inside a string

module _ (b : List ℕ) (at : ℕ) (start : is_open_at b at ≡ true) (none : HasNoQuotes b at (at + 64)) where
  no_quote : (i : ℕ) → i < 64 → is_real_quote b (at + i) ≡ false
  no_quote i l = none (at + i) (omega arith) (omega arith)

  open-along : (i : ℕ) → i ≤ 64 → is_open_at b (at + i) ≡ true
  open-along zero l = ap (is_open_at b) (add-zero at) ∙ start
  open-along (suc i) l = ap (is_open_at b) (add-suc at i) ∙ open-next b (at + i)
      ∙ ap₂ xor (open-along i (omega arith)) (no_quote i (omega arith))

  inside-along : (i : ℕ) → i < 64 → is_inside b (at + i) ≡ true
  inside-along i l = inside-open b (at + i) ∙ ap (is_open_at b) (sym (add-suc at i)) ∙ open-along (suc i) (omega arith)

  no_position : (i : ℕ) → i < 64 → is_position b (at + i) ≡ false
  unfolding is_position
  no_position i l = cc (no_quote i l, inside-along i l)

  pub starts-inside : (control : ℕ) (c : Carry) → IsControl b at control → c.inside ≡ all_bits true
      → c.plain ≡ from_bool (is_plain_before b (at + 64)) → AreStarts b at (record { starts = 0; bad = control; carry = c })
  starts-inside control c h all plain = record {
    starts = record { small = omega arith; bits = λ i l. is_set-zero i ∙ sym (no_position i l) };
    bad = bits-same h (λ i l. sym (ap (λ t. t && is_control (byte_at b (at + i))) (inside-along i l)));
    carry = record { inside = all ∙ ap all_bits (sym (open-along 64 (omega arith))); plain = plain };
  }

-- ---- what is kept over it

-- Placing after k blocks, which differs from an earlier one by what is bad and by the last byte.
abbrev pub passed : List ℕ → ℕ → Placing → ℕ → Placing
passed b k p bad = record {
  carry = record { inside = p.carry.inside; plain = from_bool (is_plain_before b (64 * k)) };
  bad = bad;
  used = p.used;
}

open-carried : (t : Bool) (x : ℕ) → x ≡ all_bits t → x ≢ 0 → t ≡ true
open-carried true x e some = refl
open-carried false x e some = absurd (some e)

pub IsPlaced-passed : (b : List ℕ) (k : ℕ) (p : Placing) (out : List ℕ) → IsPlaced b k p out → IsPlaced b k (passed b k p p.bad) out
IsPlaced-passed b k p out h = record {
  carried = record { inside = h.carried.inside; plain = refl };
  bad = h.bad;
  few = h.few;
  within = h.within;
  found = h.found;
}

pub passed-same : {b : List ℕ} {m n : ℕ} (p : Placing) {bad : ℕ} {out : List ℕ} → m ≡ n → IsPlaced b m (passed b m p bad) out
    → IsPlaced b n (passed b n p bad) out
passed-same {b} {m} {n} p {bad} {out} e h = subst (λ k. IsPlaced b k (passed b k p bad) out) e h

pub IsPlaced-inside : (b : List ℕ) (k : ℕ) (p : Placing) (bad : ℕ) (out : List ℕ) (control : ℕ) → p.carry.inside ≢ 0
    → IsControl b (64 * k) control → HasNoQuotes b (64 * k) (64 * k + 64) → IsPlaced b k (passed b k p bad) out
    → IsPlaced b (k + 1) (passed b (k + 1) p (bit_or bad control)) out
IsPlaced-inside b k p bad out control inside hcontrol none h =
    let start : is_open_at b (64 * k) ≡ true = open-carried (is_open_at b (64 * k)) p.carry.inside h.carried.inside inside in
    let all : p.carry.inside ≡ all_bits true = h.carried.inside ∙ ap all_bits start in
    let e : 64 * (k + 1) ≡ 64 * k + 64 = omega arith in
    let plain = ap (λ n. from_bool (is_plain_before b n)) e in
    let nothing = sym (append-nil _) ∙ ap (λ l. take p.used out ++ l) (sym (set_bits-zero 64 (64 * k))) in
    IsPlaced-next b k (passed b k p bad) out _ out p.used h (starts-inside b (64 * k) start none control _ hcontrol all plain)
    nothing (omega arith) h.within
