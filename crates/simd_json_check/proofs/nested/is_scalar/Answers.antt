use Rattle.std.proofs.Common.{◌≡◌, refl, sym, ◌∙◌, ap, subst, ℕ, List, ◌<◌, length, get_or, true, drop, arith, IsTrue}
use Rattle.std.specs.Prelude.{Result, Ok, Err, Some, MatchResult, codes, is_ok}
use Rattle.std.proofs.lemmas.List.{get_or_default}
use Rattle.simd_json_parts.specs.Bytes.{byte_at}
use Rattle.simd_json_parts.specs.Document.{Document}
use Rattle.simd_json_parts.specs.NumberAt.{number_at}
use Rattle.simd_json_parts.specs.Tokens.{form_at, scalar}
use Rattle.simd_json_parts.specs.declared.node.StaticNode.{StaticNode}
use Rattle.simd_json_scalars.specs.NumberRead.{IsNumberAt}
use Rattle.simd_json_scalars.specs.declared.numberparse.Number.TheVariants.{Integer, Invalid}
use Rattle.simd_json_stages.proofs.Tokens.ScalarLaws.{form_at-number, byte_at-after}
use Rattle.simd_json_check.specs.Scalars.{scalar_of, begins_number}
use Rattle.simd_json_check.proofs.Words.{spelt-here, null-standing, true-standing, false-standing}
use Rattle.simd_json_check.proofs.nested.is_scalar.Goals as goal

-- a number begins at the index
begins : (b bs : List ℕ) (i : ℕ) → drop i b ≡ bs → 0 < length bs → true ≡ begins_number (get_or bs 0 0)
    → begins_number (byte_at b i) ≡ true
begins b bs i at some h =
    ap (λ k. begins_number (byte_at b k)) (omega arith)
    ∙ ap begins_number (byte_at-after b bs i 0 at ∙ get_or_default bs 0 32 0 some) ∙ sym h

-- it is read
read : (b : List ℕ) (i : ℕ) (d : Document) (end : ℕ) → begins_number (byte_at b i) ≡ true → number_at b i ≡ Ok (d, end)
    → scalar_of (form_at b i) ≡ Some d
read b i d end begins h = ap scalar_of (form_at-number b i (byte_at b i) refl begins ∙ ap scalar h)

long : (b : List ℕ) (i len : ℕ) → begins_number (byte_at b i) ≡ true → (r : Result StaticNode ℕ)
    → MatchResult r (λ node. IsNumberAt b i (Integer node len)) (λ offset. IsNumberAt b i (Invalid offset)) → IsTrue (is_ok r)
    → (d : Document) × (scalar_of (form_at b i) ≡ Some d)
long b i len begins (Ok node) h ok = (_, read b i _ _ begins h.2)
long b i len begins (Err offset) h ok = absurd (cc ok)

pub returns-in-Integer : goal.returns-in-Integer
returns-in-Integer c _ b i at =
    (_, read b i _ _ (begins b c.args.bytes.now i at c.requires c.if-begins_number.ensures) (c.in-Integer.ensures b i at).1)

pub returns-in-Decimal : goal.returns-in-Decimal
returns-in-Decimal c _ b i at =
    (_, read b i _ _ (begins b c.args.bytes.now i at c.requires c.if-begins_number.ensures) (c.in-Decimal.ensures b i at))

pub parse_long-requires : goal.parse_long-requires
parse_long-requires c = c.in-Long.ensures c.args.bytes.now 0 refl

pub returns-in-Long : goal.returns-in-Long
returns-in-Long c ok b i at =
    long b i c.in-Long.len (begins b c.args.bytes.now i at c.requires c.if-begins_number.ensures)
    c.parse_long.result (c.parse_long.ensures b i at)
    (subst IsTrue c.is_ok.ensures.value ok)

pub returns-then-first-eq110 : goal.returns-then-first-eq110
returns-then-first-eq110 c is b i at =
    (_, null-standing b i (spelt-here b c.args.bytes.now (codes "null") i c.spells.result (sym at) c.spells.ensures ∙ is))

pub returns-then-spells : goal.returns-then-spells
returns-then-spells c is b i at =
    (_, true-standing b i (spelt-here b c.args.bytes.now (codes "true") i c.spells-2.result (sym at) c.spells-2.ensures ∙ is))

pub returns-else-spells : goal.returns-else-spells
returns-else-spells c is b i at = (
  _,
  false-standing b i (spelt-here b c.args.bytes.now (codes "false") i c.spells-else-spells.result (sym at)
      c.spells-else-spells.ensures ∙ is),
)
