use Rattle.std.proofs.Common.{◌≡◌, sym, ◌∙◌, ap, ℕ, ◌+◌, ◌-◌, ◌<◌, ◌≤◌, List, length, take, drop, get_or, arith}
use Rattle.std.proofs.lemmas.Bool.{eqb-true}
use Rattle.std.proofs.lemmas.List.{get_or_default, get_or-drop, get_or-take, length-drop, length-take-le}
use Rattle.memchr.specs.Find.{is_byte}
use Rattle.simd_json_parts.specs.Bytes.{byte_at}
use Rattle.simd_json_check.proofs.escapes.backslash_or_end_slowly.Goals as goal

-- a byte among those that are searched
searched : (b : List ℕ) (from end j : ℕ) → from ≤ j → j < end → end ≤ length b
    → (j - from < length (take (end - from) (drop from b))) × (byte_at b j ≡ get_or (take (end - from) (drop from b)) (j - from) 0)
searched b from end j l m n =
    let there : from + (j - from) ≡ j = omega arith in (
      omega (arith, length-take-le (end - from) (drop from b) (omega (arith, length-drop from b))),
      get_or_default b j 32 0 (omega arith) ∙ ap (λ k. get_or b k 0) (sym there) ∙ sym (get_or-drop from b (j - from) 0)
          ∙ sym (get_or-take (end - from) (drop from b) (j - from) 0 (omega arith)),
    )

pub returns-in-Some : goal.returns-in-Some
returns-in-Some c =
    let b = c.args.input.now in
    let from = c.args.from in
    let end = c.args.end in
    let h = c.in-Some.ensures in
    let size = length-take-le (end - from) (drop from b) (omega (arith, c.requires, length-drop from b)) in
    let inside : from + c.in-Some.run' < end = omega (arith, h.0.high, size) in
    let at = searched b from end (from + c.in-Some.run') (omega arith) inside c.requires.1 in
    let back : from + c.in-Some.run' - from ≡ c.in-Some.run' = omega arith in
    record {
      later = omega arith;
      within = omega (arith, inside);
      plain = λ j l m e.
          let p = searched b from end j l (omega (arith, inside, m)) c.requires.1 in
          h.0.before (j - from) (omega arith) (omega (arith, l, m)) (ap (is_byte 92) (sym p.1 ∙ e));
      there = λ l. at.1 ∙ ap (λ k. get_or (take (end - from) (drop from b)) k 0) back ∙ eqb-true _ 92 h.1;
    }

pub returns-in-None : goal.returns-in-None
returns-in-None c =
    record {
      later = c.requires.0;
      within = omega arith;
      plain = λ j l m e.
          let p = searched c.args.input.now c.args.from c.args.end j l m c.requires.1 in
          c.in-None.ensures (j - c.args.from) (omega arith) p.0 (ap (is_byte 92) (sym p.1 ∙ e));
      there = λ l. absurd (omega (arith, l));
    }
