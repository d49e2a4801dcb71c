use Rattle.std.proofs.Common.{◌≡◌, refl, sym, ◌∙◌, ap, ℕ, ◌+◌, ◌-◌, ◌<◌, ◌≤◌, Bool, not, true, false, List, length, drop, inl, inr}
use Rattle.std.proofs.Common.{arith}
use Rattle.std.specs.List.{prefix_len}
use Rattle.std.proofs.lemmas.Bool.{cases_lt, eqb-true, false≢true}
use Rattle.std.proofs.lemmas.List.{get_or-drop, length-drop}
use Rattle.std.proofs.lemmas.List.Sums.{prefix_len_passes, prefix_len_stops}
use lib.Count.{count_trailing_zeros}
use Rattle.simd_json_parts.specs.Bytes.{byte_at}
use Rattle.simd_json_parts.proofs.Lists.LaneRuns.{run-through, run-ends}
use Rattle.simd_json_stages.specs.EscapesAhead.{PlainFrom}
use Rattle.simd_json_check.specs.Whole.{is_backslash}
use Rattle.simd_json_check.proofs.escapes.backslash_or_end.Goals as goal

-- how many bytes from here on are no backslash
abbrev run : List ℕ → ℕ → ℕ
run b at = prefix_len (λ c. not (is_backslash c)) (drop at b)

plain-run : (b : List ℕ) (at end : ℕ) → end ≤ at + run b at → PlainFrom b at end
plain-run b at end l j f t e =
    let there : at + (j - at) ≡ j = omega arith in
    let passes : not (is_backslash (byte_at (drop at b) (j - at))) ≡ true =
    prefix_len_passes (λ c. not (is_backslash c)) (drop at b) (j - at) 32 (omega (arith, l, f, t)) in
    let same : byte_at (drop at b) (j - at) ≡ 92 = get_or-drop at b (j - at) 32 ∙ ap (byte_at b) there ∙ e in
    false≢true (ap (λ c. not (is_backslash c)) (sym same) ∙ passes)

joined : (b : List ℕ) (from at end : ℕ) → PlainFrom b from at → PlainFrom b at end → PlainFrom b from end
joined b from at end first more j f t e = elim (cases_lt j at) [ inl l ↦ first j f l e | inr r ↦ more j (omega (arith, r)) t e ]

turned : (t : Bool) → not t ≡ false → t ≡ true
turned true e = refl
turned false e = absurd (false≢true (sym e))

at-run : (b : List ℕ) (at : ℕ) → at + run b at < length b → byte_at b (at + run b at) ≡ 92
at-run b at l =
    let stops : not (is_backslash (byte_at (drop at b) (run b at))) ≡ false =
    prefix_len_stops (λ c. not (is_backslash c)) (drop at b) 32 (omega (arith, l, length-drop at b)) in
    sym (get_or-drop at b (run b at) 32) ∙ eqb-true _ 92 (turned _ stops)

pub loop-at-preserved : goal.loop-at-preserved
loop-at-preserved c =
    let b = c.args.input.now in
    let at = c.loop-at.at in
    let through = run-through is_backslash b at 32 (omega arith) (omega (arith, c.backslashes-found.ensures)) in (
      omega (arith, c.loop-at.invariant.0),
      omega arith,
      joined b c.args.from at (at + 32) c.loop-at.invariant.2 (plain-run b at (at + 32) (omega (arith, through))),
    )

pub returns-then-at-end : goal.returns-then-at-end
returns-then-at-end c =
    let b = c.args.input.now in
    let at = c.loop-at.at in
    let through = run-through is_backslash b at 32 (omega arith) (omega (arith, c.backslashes-found.ensures)) in
    record {
      later = c.requires.0;
      within = omega arith;
      plain = joined b c.args.from at c.args.end c.loop-at.invariant.2 (plain-run b at c.args.end (omega (arith, through)));
      there = λ l. absurd (omega (arith, l));
    }

pub returns-then-found-ne0 : goal.returns-then-found-ne0
returns-then-found-ne0 c =
    let b = c.args.input.now in
    let at = c.loop-at.at in
    let end = c.min.result in
    let found = c.backslashes-found.ensures in
    let ends : run b at ≡ count_trailing_zeros 64 c.backslashes-found.result =
    run-ends is_backslash b at 32 (omega arith) (omega arith) (omega (arith, found)) ∙ ap (count_trailing_zeros 64) (sym found) in
    record {
      later = omega (arith, c.loop-at.invariant.0, c.loop-at.invariant.1, c.min.ensures);
      within = omega (arith, c.min.ensures);
      plain = joined b c.args.from at end c.loop-at.invariant.2 (plain-run b at end (omega (arith, ends, c.min.ensures)));
      there = λ l.
          let here : at + run b at ≡ end = omega (arith, ends, c.min.ensures, l) in
          ap (byte_at b) (sym here) ∙ at-run b at (omega (arith, here, l, c.requires.1));
    }

pub returns : goal.returns
returns c =
    let h = c.backslash_or_end_slowly.ensures in
    record {
      later = omega (arith, c.loop-at.invariant.0, h.later);
      within = h.within;
      plain = joined c.args.input.now c.args.from c.loop-at.at _ c.loop-at.invariant.2 h.plain;
      there = h.there;
    }
