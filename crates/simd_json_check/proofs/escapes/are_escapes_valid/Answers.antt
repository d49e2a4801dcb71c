use Rattle.std.proofs.Common.{◌≡◌, ◌∙◌, ap, ℕ, suc, ◌+◌, ◌*◌, ◌-◌, ◌<◌, ◌≤◌, List, length, get_or, ◌⊎◌, inl, inr, arith}
use Rattle.std.proofs.Common.{refl, nat_cmp, cond, Ordering, Less, Equal, Greater}
use Rattle.std.specs.Ordering.{MatchOrdering, ord_max, is_lt}
use Rattle.std.proofs.lemmas.Cmp.{ranked}
use Rattle.std.proofs.lemmas.Bool.{cases_lt}
use Rattle.std.proofs.lemmas.List.{get_or_past}
use Rattle.simd_json_stages.specs.EscapeBlocks.{blocks_in, backslash_blocks, listed_start}
use Rattle.simd_json_stages.specs.EscapesAhead.{ArePassed, PlainFrom}
use Rattle.simd_json_stages.proofs.Machine.BetweenBlocks.{plain-to_first, plain-to_next}
use Rattle.simd_json_stages.proofs.Machine.EscapesPassed.{begins}
use Rattle.simd_json_check.specs.Whole.{PassesFrom}
use Rattle.simd_json_check.proofs.Escaped.{plain-passes, plain-rest}
use Rattle.simd_json_check.proofs.escapes.are_escapes_valid.Goals as goal

pub loop-block-init : goal.loop-block-init
loop-block-init c = (
  record { blocks = c.requires; within = omega arith; plain = plain-to_first c.args.input.now },
  λ h. h,
)

-- from the end of a block on the walk goes on to the next
next-block : (b blocks : List ℕ) (k at from end : ℕ) → ArePassed b blocks k at → k < length blocks → PassesFrom b 0 at
    → at ≤ from → (from ≤ at ⊎ from ≤ 64 * get_or blocks k 0) → from ≤ end → PassesFrom b from end
    → PlainFrom b end (64 * get_or blocks k 0 + 64) → ArePassed b blocks (k + 1) end × PassesFrom b 0 end
next-block b blocks k at from end p l passes up near forward more plain =
    let start : ℕ = 64 * get_or blocks k 0 in
    let listed : start ≡ listed_start b k = begins b blocks k p.blocks l in
    let suc-k : k + 1 ≡ suc k = omega arith in
    let before : PlainFrom b at from =
    λ j f t. p.plain j f (elim near [ inl h ↦ absurd (omega (arith, f, t, h)) | inr h ↦ omega (arith, t, h, listed) ]) in (
      record {
        blocks = p.blocks;
        within = omega arith;
        plain = λ j f t. elim (cases_lt j (start + 64)) [
          | inl inside ↦ plain j f inside
          | inr behind ↦ plain-to_next b k (omega (arith, ap length p.blocks)) j (omega (arith, behind, listed))
              (omega (arith, t, ap (listed_start b) suc-k))
        ];
      },
      λ h. passes (plain-passes (from - at) b at from (omega arith) up before (more h)),
    )

-- the later of two indexes
later : (x y z : ℕ) → z ≡ ord_max nat_cmp x y → (x ≤ z) × ((z ≤ x) ⊎ (z ≤ y))
later x y z is = go (nat_cmp y x) refl (ranked y x (nat_cmp y x) refl)
  where
    go : (o : Ordering) → nat_cmp y x ≡ o → MatchOrdering o (y < x) (y ≡ x) (x < y) → (x ≤ z) × ((z ≤ x) ⊎ (z ≤ y))
    go Less e h = let here : z ≡ x = is ∙ ap (λ o. cond (is_lt o) x y) e in (omega (arith, here), inl (omega (arith, here)))
    go Equal e h = let here : z ≡ y = is ∙ ap (λ o. cond (is_lt o) x y) e in (omega (arith, here, h), inr (omega (arith, here)))
    go Greater e h = let here : z ≡ y = is ∙ ap (λ o. cond (is_lt o) x y) e in (omega (arith, here, h), inr (omega (arith, here)))

pub loop-block-preserved : goal.loop-block-preserved
loop-block-preserved c =
    let l = c.loop-block in
    let b = c.args.input.now in
    let start : ℕ = 64 * get_or c.args.blocks.now l.block-index 0 in
    let passed = c.in-Some.ensures in
    let from = later l.at start c.max.result c.max.ensures in
    next-block b c.args.blocks.now l.block-index l.at c.max.result c.in-Some.end l.invariant.0 c.loop-block-test.true l.invariant.1
    from.0 from.1 passed.0 passed.1 passed.2

pub returns : goal.returns
returns c _ =
    let b = c.args.input.now in
    let at = c.loop-block.at in
    let p = c.loop-block.invariant.0 in
    let past : get_or (backslash_blocks b) c.loop-block.block-index (blocks_in (length b)) ≡ blocks_in (length b) =
    get_or_past (backslash_blocks b) c.loop-block.block-index (blocks_in (length b))
    (omega (arith, ap length p.blocks, c.loop-block-test.false)) in
    c.loop-block.invariant.1 (plain-rest b at (λ j f t. p.plain j f (omega (arith, past, t))))
