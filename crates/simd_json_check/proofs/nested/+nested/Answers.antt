use Rattle.std.proofs.Common.{◌≡◌, sym, ◌∙◌, ap, subst, suc, ◌-◌, ◌+◌, ◌<◌, length, get_or, arith}
use Rattle.std.specs.Prelude.{Option, Some, None, IfSome}
use Rattle.simd_json_parts.specs.Tokens.{string_token}
use Rattle.simd_json_stages.proofs.Tokens.TokenForms.{quotes}
use Rattle.simd_json_check.specs.Scalars.{scalar_of}
use Rattle.simd_json_check.specs.Whole.{IsValue, IsElements, IsMembers}
use Rattle.simd_json_check.proofs.Along.{standing-read, array-read, array-empty, array-first, array-last, array-more}
use Rattle.simd_json_check.proofs.Along.{object-read, object-empty, object-first, object-last, object-more}
use Rattle.simd_json_check.proofs.nested.+nested.Goals as goal

weaker : {A : Type 0} (o : Option A) (P Q : A → Type 0) → ((x : A) → P x → Q x) → IfSome o P → IfSome o Q
weaker (Some x) P Q f h = f x h
weaker None P Q f h = tt

-- ---- a value

pub value_end-returns-then-byte-eq34-clause-value : goal.value_end-returns-then-byte-eq34-clause-value
value_end-returns-then-byte-eq34-clause-value t c =
    let b = c.args.input.now in
    let is = c.args.indexes.now in
    let quote = sym c.first_byte-byte.ensures ∙ c.if-byte-eq34.true in
    let read = c.requires.strings c.args.at c.requires.at quote in
    standing-read b is c.args.levels c.args.at _ c.requires.at
    (ap scalar_of (quotes b (get_or is c.args.at 0) quote ∙ ap string_token read.1))

pub value_end-returns-then-byte-eq123-clause-value : goal.value_end-returns-then-byte-eq123-clause-value
value_end-returns-then-byte-eq123-clause-value t c =
    let b = c.args.input.now in
    let is = c.args.indexes.now in
    let fewer : suc (c.args.levels - 1) ≡ c.args.levels = omega (arith, c.if-levels-eq0.false) in
    weaker c.object_end.result (IsMembers b is (c.args.levels - 1) (c.args.at + 1)) (IsValue b is c.args.levels c.args.at)
    (λ end h. subst (λ n. IsValue b is n c.args.at end) fewer
    (object-read b is (c.args.levels - 1) c.args.at end c.requires.at (sym c.first_byte-byte.ensures ∙ c.if-byte-eq123.true) h))
    c.object_end.ensures.members

pub value_end-returns-then-byte-eq91-clause-value : goal.value_end-returns-then-byte-eq91-clause-value
value_end-returns-then-byte-eq91-clause-value t c =
    let b = c.args.input.now in
    let is = c.args.indexes.now in
    let fewer : suc (c.args.levels - 1) ≡ c.args.levels = omega (arith, c.if-levels-eq0-2.false) in
    weaker c.array_end.result (IsElements b is (c.args.levels - 1) (c.args.at + 1)) (IsValue b is c.args.levels c.args.at)
    (λ end h. subst (λ n. IsValue b is n c.args.at end) fewer
    (array-read b is (c.args.levels - 1) c.args.at end c.requires.at (sym c.first_byte-byte.ensures ∙ c.if-byte-eq91.true) h))
    c.array_end.ensures.elements

pub value_end-returns-then-is_scalar-clause-value : goal.value_end-returns-then-is_scalar-clause-value
value_end-returns-then-is_scalar-clause-value t c =
    let b = c.args.input.now in
    let is = c.args.indexes.now in
    let read = c.is_scalar.ensures c.if-is_scalar.true b (get_or is c.args.at 0) (sym c.from_token.ensures.bytes) in
    standing-read b is c.args.levels c.args.at read.0 c.requires.at read.1

-- ---- an array

pub array_end-returns-then-first_byte-eq93-clause-elements : goal.array_end-returns-then-first_byte-eq93-clause-elements
array_end-returns-then-first_byte-eq93-clause-elements t c =
    array-empty c.args.input.now c.args.indexes.now c.args.levels c.args.start
    (omega (arith, c.requires.start, c.if-start-len.false)) (sym c.first_byte.ensures ∙ c.if-first_byte-eq93.true)

pub array_end-loop-at-init : goal.array_end-loop-at-init
array_end-loop-at-init t c =
    let l : c.args.start < length c.args.indexes.now = omega (arith, c.requires.start, c.if-start-len.false) in (
      omega arith,
      omega arith,
      λ end. array-first c.args.input.now c.args.indexes.now c.args.levels c.args.start end l
          (λ e. c.if-first_byte-eq93.false (c.first_byte.ensures ∙ e)),
    )

pub array_end-returns-then-byte-eq93-clause-elements : goal.array_end-returns-then-byte-eq93-clause-elements
array_end-returns-then-byte-eq93-clause-elements t c =
    let next = c.in_ok-after.after in
    let l : next < length c.args.indexes.now = omega (arith, c.in_ok-after.ensures.bounds, c.if-after-len.false) in
    c.loop-at.invariant.2 (next + 1)
    (array-last c.args.input.now c.args.indexes.now c.args.levels c.loop-at.at next c.in_ok-after.ensures.value l
    (sym c.first_byte-byte.ensures ∙ c.if-byte-eq93.true))

pub array_end-loop-at-preserved : goal.array_end-loop-at-preserved
array_end-loop-at-preserved t c =
    let next = c.in_ok-after.after in
    let l : next < length c.args.indexes.now = omega (arith, c.in_ok-after.ensures.bounds, c.if-after-len.false) in (
      omega (arith, l),
      omega (arith, c.loop-at.invariant.1, c.in_ok-after.ensures.bounds),
      λ end h. c.loop-at.invariant.2 end
          (array-more c.args.input.now c.args.indexes.now c.args.levels c.loop-at.at next c.in_ok-after.ensures.value l end
          (sym c.first_byte-byte.ensures ∙ c.if-byte-ne44.false) h),
    )

-- ---- an object

pub object_end-returns-then-first_byte-eq125-clause-members : goal.object_end-returns-then-first_byte-eq125-clause-members
object_end-returns-then-first_byte-eq125-clause-members t c =
    object-empty c.args.input.now c.args.indexes.now c.args.levels c.args.start
    (omega (arith, c.requires.start, c.if-start-len.false)) (sym c.first_byte.ensures ∙ c.if-first_byte-eq125.true)

pub object_end-loop-at-init : goal.object_end-loop-at-init
object_end-loop-at-init t c =
    let l : c.args.start < length c.args.indexes.now = omega (arith, c.requires.start, c.if-start-len.false) in (
      omega arith,
      omega arith,
      λ end. object-first c.args.input.now c.args.indexes.now c.args.levels c.args.start end l
          (λ e. c.if-first_byte-eq125.false (c.first_byte.ensures ∙ e)),
    )

pub object_end-returns-then-byte-eq125-clause-members : goal.object_end-returns-then-byte-eq125-clause-members
object_end-returns-then-byte-eq125-clause-members t c =
    let is = c.args.indexes.now in
    let at = c.loop-at.at in
    let next = c.in_ok-after.after in
    let l : next < length is = omega (arith, c.in_ok-after.ensures.bounds, c.if-after-len.false) in
    let named : at + 1 < length is = omega (arith, c.loop-at-test.true) in
    let key = sym c.first_byte-in-loop-at.ensures ∙ c.if-first_byte-ne34.false in
    let read = c.requires.strings at (omega (arith, named)) key in
    c.loop-at.invariant.2 (next + 1)
    (object-last c.args.input.now is c.args.levels at next read.0 l named key read.1
    (sym c.first_byte-else-first_byte-ne34.ensures ∙ c.if-first_byte-ne58.false) c.in_ok-after.ensures.value
    (sym c.first_byte-byte.ensures ∙ c.if-byte-eq125.true))

pub object_end-loop-at-preserved : goal.object_end-loop-at-preserved
object_end-loop-at-preserved t c =
    let is = c.args.indexes.now in
    let at = c.loop-at.at in
    let next = c.in_ok-after.after in
    let l : next < length is = omega (arith, c.in_ok-after.ensures.bounds, c.if-after-len.false) in
    let named : at + 1 < length is = omega (arith, c.loop-at-test.true) in
    let key = sym c.first_byte-in-loop-at.ensures ∙ c.if-first_byte-ne34.false in
    let read = c.requires.strings at (omega (arith, named)) key in (
      omega (arith, l),
      omega (arith, c.loop-at.invariant.1, c.in_ok-after.ensures.bounds),
      λ end h. c.loop-at.invariant.2 end
          (object-more c.args.input.now is c.args.levels at next read.0 l named key read.1
          (sym c.first_byte-else-first_byte-ne34.ensures ∙ c.if-first_byte-ne58.false) c.in_ok-after.ensures.value end
          (sym c.first_byte-byte.ensures ∙ c.if-byte-ne44.false) h),
    )
