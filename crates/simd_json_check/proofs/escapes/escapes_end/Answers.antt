use Rattle.std.proofs.Common.{◌≡◌, ◌∙◌, ap, ℕ, ◌+◌, ◌-◌, ◌≤◌, List, length, take, drop, arith}
use Rattle.std.specs.Prelude.{Some}
use Rattle.std.proofs.lemmas.List.{get_or-drop, length-drop, take_rest}
use Rattle.simd_json_parts.specs.Bytes.{byte_at}
use Rattle.simd_json_parts.specs.StringAt.{escape_at}
use Rattle.simd_json_check.specs.Whole.{AreAllPieces, PassesFrom}
use Rattle.simd_json_check.proofs.Escaped.{plain-passes, plain-beyond, escape-inside, escape-passed}
use Rattle.simd_json_check.proofs.escapes.escapes_end.Goals as goal

pub returns-then-at-end : goal.returns-then-at-end
returns-then-at-end c =
    let b = c.args.input.now in
    let at = c.backslash_or_end-at.result in
    let found = c.backslash_or_end-at.ensures in
    let same = c.if-at-end.true in (
      omega (arith, c.loop-at.invariant.0, found.later, same),
      λ h. c.loop-at.invariant.1 (plain-passes (at - c.loop-at.at) b c.loop-at.at at (omega (arith, found.later)) found.later
          found.plain (subst-end b at c.min-end.result same h)),
      plain-beyond b c.min-end.result c.args.to (omega (arith, c.min-end.ensures)),
    )
  where
    subst-end : (b : List ℕ) (at end : ℕ) → at ≡ end → AreAllPieces (drop end b) → AreAllPieces (drop at b)
    subst-end b at end same h = ap (λ k. (Rattle.simd_json_parts.specs.StringAt.read_pieces 0 (drop k b)).1) same ∙ h

-- the escape at a backslash, and where it ends
record AtEscape (b : List ℕ) (at more : ℕ) : Type 0 where
  pub within : at + (1 + more) ≤ length b
  pub passes : PassesFrom b at (at + (1 + more))

at-escape : (b us : List ℕ) (at more : ℕ) (s : List ℕ) → us ≡ drop at b → at + 2 ≤ length b → byte_at b at ≡ 92
    → escape_at us ≡ Some (s, more) → AtEscape b at more
at-escape b us at more s is l e h =
    let same : at + 0 ≡ at = omega arith in
    let first : byte_at us 0 ≡ 92 = ap (λ vs. byte_at vs 0) is ∙ get_or-drop at b 0 32 ∙ ap (byte_at b) same ∙ e in
    let size : length us ≡ length b - at = ap length is ∙ length-drop at b in
    record {
      within = omega (arith, escape-inside us (s, more) (omega (arith, size)) first h, size);
      passes = escape-passed b us at more s is first (omega (arith, size)) h;
    }

abbrev here : (b : List ℕ) → ℕ → List ℕ
here b at = take (length b - at) (drop at b)

pub overflow_add-at : goal.overflow_add-at
overflow_add-at c =
    let b = c.args.input.now in
    let at = c.backslash_or_end-at.result in
    let found = c.backslash_or_end-at.ensures in
    let slash = found.there (omega (arith, found.within, c.if-at-end.false)) in
    let x = at-escape b (here b at) at c.in_ok-_character.more _ (take_rest b at) (omega (arith, c.if-input-at-lt2.false)) slash
    c.in_ok-_character.ensures.value in
    omega (arith, x.within)

pub overflow_add-at-in-loop-at : goal.overflow_add-at-in-loop-at
overflow_add-at-in-loop-at c =
    let b = c.args.input.now in
    let at = c.backslash_or_end-at.result in
    let found = c.backslash_or_end-at.ensures in
    let slash = found.there (omega (arith, found.within, c.if-at-end.false)) in
    let x = at-escape b (here b at) at c.in_ok-_character.more _ (take_rest b at) (omega (arith, c.if-input-at-lt2.false)) slash
    c.in_ok-_character.ensures.value in
    omega (arith, x.within)

pub loop-at-preserved : goal.loop-at-preserved
loop-at-preserved c =
    let b = c.args.input.now in
    let at = c.backslash_or_end-at.result in
    let found = c.backslash_or_end-at.ensures in
    let slash = found.there (omega (arith, found.within, c.if-at-end.false)) in
    let x = at-escape b (here b at) at c.in_ok-_character.more _ (take_rest b at) (omega (arith, c.if-input-at-lt2.false)) slash
    c.in_ok-_character.ensures.value in (
      omega (arith, c.loop-at.invariant.0, found.later),
      λ h. c.loop-at.invariant.1 (plain-passes (at - c.loop-at.at) b c.loop-at.at at (omega (arith, found.later)) found.later
          found.plain (x.passes h)),
    )
