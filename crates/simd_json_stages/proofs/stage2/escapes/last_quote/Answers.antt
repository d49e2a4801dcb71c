use Rattle.std.proofs.Common.{◌≡◌, ◌∙◌, sym, ap, ◌+◌, ◌-◌, ◌<◌, ◌≤◌, ℕ, List, length, drop, get_or, inl, inr, arith}
use Rattle.std.proofs.lemmas.Bool.{cases_lt}
use Rattle.std.proofs.lemmas.List.{get_or-drop, get_or_default, length-drop}
use Rattle.simd_json_parts.specs.Bytes.{byte_at}
use Rattle.simd_json_parts.specs.StringAt.{closing_quote}
use Rattle.simd_json_stages.specs.Inputs.{IsStringBefore}
use Rattle.simd_json_stages.proofs.stage2.escapes.last_quote.Goals as goal

-- a byte of the input from an index on
here : {b rest : List ℕ} {base at end last : ℕ} → drop base b ≡ rest → base ≤ at → IsStringBefore b at end → closing_quote b at ≤ last
    → last < end → get_or rest (last - base) 0 ≡ byte_at b last
here {b} {rest} {base} {last = last} is low string upto below =
    let there : base + (last - base) ≡ last = omega (arith, low, upto, string.later) in
    get_or_default rest (last - base) 0 32 (omega (arith, ap length is, length-drop base b, low, string.later, string.within, upto, below))
    ∙ ap (λ us. get_or us (last - base) 32) (sym is) ∙ get_or-drop base b (last - base) 32 ∙ ap (byte_at b) there

-- where no quote stands at `last` either, it can go back
before : {b : List ℕ} {at end last x : ℕ} → IsStringBefore b at end → closing_quote b at ≤ last → x ≡ byte_at b last → (x ≡ 34 → ⊥)
    → closing_quote b at < last
before {b} {at} {last = last} string upto here other = elim (cases_lt (closing_quote b at) last) [
  | inl h ↦ h
  | inr l ↦ let same : last ≡ closing_quote b at = omega arith in absurd (other (here ∙ ap (byte_at b) same ∙ string.closing))
]

pub back-init : goal.back-init
back-init c = record { below = omega (arith, c.requires.string.closed); upto = λ b is string. omega (arith, string.closed) }

pub bounds-rest-last-in-back : goal.bounds-rest-last-in-back
bounds-rest-last-in-back c =
    let q = c.requires in
    let upto = c.back.invariant.upto q.b q.reads.0 q.string in
    omega (
      arith,
      ap length q.reads.0,
      q.reads.1,
      length-drop c.args.base q.b,
      q.string.later,
      q.string.within,
      upto,
      c.back.invariant.below,
    )

pub overflow_sub-last-in-back : goal.overflow_sub-last-in-back
overflow_sub-last-in-back c =
    let q = c.requires in
    omega (arith, c.back.invariant.upto q.b q.reads.0 q.string, q.string.later)

pub back-preserved : goal.back-preserved
back-preserved c = record {
  below = omega (arith, c.back.invariant.below);
  upto = λ b is string.
      let upto = c.back.invariant.upto b is string in
      omega (arith, before string upto (here is c.requires.reads.1 string upto c.back.invariant.below) c.back-test.true);
}

pub returns : goal.returns
returns c b is string =
    let upto = c.back.invariant.upto b is string in
    sym (string.last c.back.last upto c.back.invariant.below (sym (here is c.requires.reads.1 string upto c.back.invariant.below)
    ∙ c.back-test.false))
