use Rattle.std.proofs.Common.{◌<◌, ◌%◌, ◌∙◌, ap, sym, refl, arith, inl, inr, get_or, length, set, None, true, false}
use Rattle.std.proofs.lemmas.Bool.{cases_eq, cases_lt}
use Rattle.std.proofs.lemmas.List.{get_or_past, get_or-set_other, get_or-set_same, length-set}
use Rattle.std.proofs.lemmas.Option.{slice_get_read, slice_get_within}
use Rattle.simd_json_ondemand.proofs.Several.{still-true, the-one}
use Rattle.simd_json_ondemand.proofs.together.clear.Goals as goal

pub loop-k-preserved : goal.loop-k-preserved
loop-k-preserved g c =
    let l = c.loop-k in
    let ps = c.args.pointers.now in
    let p = c.index-pointers-k.result in
    let at = slice_get_read ps _ l.k p refl c.loop-k-test.true c.index-pointers-k.is in
    let i = get_or (get_or ps l.k p).first 0 0 % 64 in
    let within : i < length l.begins = omega (arith, l.invariant.size) in
    let fits : l.k < length l.values = omega (arith, c.loop-k-test.true, c.requires, l.invariant.same) in
    record {
      same = length-set l.values l.k None ∙ l.invariant.same;
      none = λ j m. elim (cases_eq j l.k) [
        | inl e ↦ ap (λ x. get_or (set l.values l.k None) x None) e ∙ get_or-set_same l.values l.k None None fits
        | inr e ↦ get_or-set_other l.values l.k j None None e ∙ l.invariant.none j (omega (arith, m, e))
      ];
      size = length-set l.begins i true ∙ l.invariant.size;
      escape = still-true l.begins i (92 % 64) within l.invariant.escape;
      each = λ j q there m. elim (cases_eq j l.k) [
        | inl e ↦
            ap (λ x. get_or (set l.begins i true) (get_or x.first 0 0 % 64) false)
            (sym (the-one ps j l.k p q at there e) ∙ c.index-pointers-k.is)
            ∙ get_or-set_same l.begins i true false within
        | inr e ↦ still-true l.begins i _ within (l.invariant.each j q there (omega (arith, m, e)))
      ];
    }

pub returns-clause-none : goal.returns-clause-none
returns-clause-none g c = λ k. elim (cases_lt k (length c.loop-k.values)) [
  | inl l ↦ c.loop-k.invariant.none k (omega (arith, l, c.loop-k-test.false, c.requires, c.loop-k.invariant.same))
  | inr l ↦ get_or_past c.loop-k.values k None l
]

pub returns-clause-begins : goal.returns-clause-begins
returns-clause-begins g c = record {
  size = c.loop-k.invariant.size;
  escape = c.loop-k.invariant.escape;
  each = λ k p at keyed.
      c.loop-k.invariant.each k p at (omega (arith, slice_get_within c.args.pointers.now k p at, c.loop-k-test.false));
}
