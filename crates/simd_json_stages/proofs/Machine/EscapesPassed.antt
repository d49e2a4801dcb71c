-- The walk along the listed blocks: what is plain before its mark, and one block further.
use Rattle.std.proofs.Common.{◌≡◌, ◌≢◌, ◌∙◌, sym, ap, ℕ, suc, ◌+◌, ◌-◌, ◌*◌, ◌<◌, ◌≤◌, List, length, get_or, drop, inl, inr, arith}
use Rattle.std.proofs.lemmas.Bool.{cases_lt}
use Rattle.std.proofs.lemmas.List.{get_or_default, get_or_past, get_or-drop, drop-drop, length-drop}
use Rattle.simd_json_parts.specs.Bytes.{byte_at}
use Rattle.simd_json_stages.specs.EscapeBlocks.{blocks_in, backslash_blocks, listed_start}
use Rattle.simd_json_stages.specs.EscapesAhead.{ArePassed, PlainFrom}
use Rattle.simd_json_stages.proofs.Machine.BetweenBlocks.{plain-to_next}

-- where a listed block begins
pub begins : (b blocks : List ℕ) (m : ℕ) → blocks ≡ backslash_blocks b → m < length blocks → 64 * get_or blocks m 0 ≡ listed_start b m
begins b blocks m is l = ap (λ k. 64 * k) (get_or_default blocks m 0 (blocks_in (length b)) l
    ∙ ap (λ ks. get_or ks m (blocks_in (length b))) is)

module _ (b : List ℕ) (at : ℕ) where
  -- after a block that is passed, there is none up to the next
  pub one-passed : (blocks : List ℕ) (m : ℕ) → ArePassed b blocks m at → m < length blocks → 64 * get_or blocks m 0 + 64 ≤ at
      → ArePassed b blocks (m + 1) at
  one-passed blocks m a l h =
      let more : m < length (backslash_blocks b) = omega (arith, ap length a.blocks) in
      let next : m + 1 ≡ suc m = omega arith in
      record {
        blocks = a.blocks;
        within = omega arith;
        plain = λ j f t. plain-to_next b m more j (omega (arith, begins b blocks m a.blocks l)) (omega (arith, ap (listed_start b) next));
      }

-- If a test finds none among some bytes from an index on, none is ahead up to there: before that index lies no
-- listed block.
pub plain-ahead : (b rest hay blocks : List ℕ) (base at next start from upto : ℕ) → drop base b ≡ rest → base ≤ at
    → ArePassed b blocks next at → (next < length blocks → start ≡ 64 * get_or blocks next 0)
    → at ≤ from → from ≤ base + length rest → (at < from → from ≤ start)
    → hay ≡ drop (from - base) rest → ((k : ℕ) → k < upto → k < length hay → get_or hay k 0 ≢ 92)
    → PlainFrom b at (from + upto)
plain-ahead b rest hay blocks base at next start from upto is low p starts later within up cut none j f t e =
    elim (cases_lt j from) [
      | inl h ↦ p.plain j f (elim (cases_lt next (length blocks)) [
        | inl l ↦ omega (arith, h, up (omega arith), starts l, begins b blocks next p.blocks l)
        | inr l ↦
            let past : get_or (backslash_blocks b) next (blocks_in (length b)) ≡ blocks_in (length b) =
            get_or_past (backslash_blocks b) next (blocks_in (length b)) (omega (arith, ap length p.blocks)) in
            omega (arith, h, past, within, ap length is, length-drop base b)
      ]) e
      | inr h ↦ elim (cases_lt j (length b)) [
        | inl l ↦
            let there : base + (from - base) ≡ from = omega arith in
            let further : from + (j - from) ≡ j = omega (arith, h) in
            let tail : hay ≡ drop from b = cut ∙ ap (drop (from - base)) (sym is) ∙ drop-drop (from - base) base b
            ∙ ap (λ n. drop n b) there in
            let short : j - from < length hay = omega (arith, h, l, ap length tail, length-drop from b) in
            absurd (none (j - from) (omega (arith, h)) short (get_or_default hay (j - from) 0 32 short
            ∙ ap (λ us. get_or us (j - from) 32) tail ∙ get_or-drop from b (j - from) 32 ∙ ap (byte_at b) further ∙ e))
        | inr l ↦ let past : byte_at b j ≡ 32 = get_or_past b j 32 l in omega (arith, past, e)
      ]
    ]
