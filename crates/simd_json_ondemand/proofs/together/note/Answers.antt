use Rattle.std.proofs.Common.{◌≡◌, ◌<◌, ◌%◌, ◌∙◌, ap, sym, refl, subst, arith, false, None, Some, get_or, is_some, length, not}
use Rattle.std.proofs.Common.{option_and_then}
use Rattle.std.proofs.lemmas.Bool.{false≢true}
use Rattle.std.proofs.lemmas.List.{get_or_default, get_or-set_other, get_or-set_same}
use Rattle.std.proofs.lemmas.Option.{slice_get_read, slice_get_within}
use Rattle.simd_json_parts.specs.Views.{as_str}
use Rattle.simd_json_ondemand.specs.Docs.{doc}
use Rattle.simd_json_ondemand.specs.Keys.{is_key}
use Rattle.simd_json_ondemand.specs.Prepared.{first_key}
use Rattle.simd_json_ondemand.proofs.Several.{AreNoted-further, AreNoted-none, none-of, noted-none, noted-other, noted-some}
use Rattle.simd_json_ondemand.proofs.Several.{other-key, the-one}
use Rattle.simd_json_ondemand.proofs.together.note.Goals.{then-is_none+then-is_at, then-is_none+else-is_at, else-is_none}
use Rattle.simd_json_ondemand.proofs.together.note.Goals as goal

pub returns-then-not-begins-byte-clause-noted : goal.returns-then-not-begins-byte-clause-noted
returns-then-not-begins-byte-clause-noted g c = λ k p at keyed.
    let begins = c.args.begins.now in
    let byte = c.key_byte-byte.result in
    let lane = (p.keyed keyed).wanted.lanes 0 (omega arith) in
    let closed : get_or begins (byte % 64) false ≡ false = c.if-not-begins-byte.true in
    noted-other _ _ _ (other-key c.args.key _ refl c.requires.key (first_key p) byte c.key_byte-byte.ensures
    (λ e. false≢true (sym closed ∙ ap (λ x. get_or begins (x % 64) false) e ∙ c.requires.begins.escape))
    (λ e. false≢true (sym closed ∙ ap (λ x. get_or begins (x % 64) false) (sym (lane ∙ e)) ∙ c.requires.begins.each k p at keyed)))

pub loop-k-init : goal.loop-k-init
loop-k-init g c = AreNoted-none _ _ _ _ _ _

pub loop-k-preserved : goal.loop-k-preserved
loop-k-preserved g c =
    let l = c.loop-k in
    let fits : l.k < length l.values = omega (arith, c.loop-k-test.true, c.requires.length, l.auto.values) in
    let seen = ap is_some (get_or_default l.values l.k None c.index-values-k.result fits) ∙ c.is_none.ensures in
    elim c.if-is_none.branch [
      | then-is_none+then-is_at w ↦
          let p = w.index-pointers-k.result in
          let at = slice_get_read c.args.pointers.now _ l.k p refl c.loop-k-test.true w.index-pointers-k.is in
          let none : get_or l.values l.k None ≡ None = none-of _ (seen ∙ ap not w.if-is_none.true) in
          let here = get_or-set_same l.values l.k (Some c.args.value) None fits in
          rw w.values-is
          (AreNoted-further _ _ _ _ _ l.values _ l.are_found _ l.k l.invariant
          (λ j e. get_or-set_other l.values l.k j (Some c.args.value) None e)
          (λ q there keyed.
          let same : p ≡ q = the-one c.args.pointers.now l.k l.k p q at there refl in
          here ∙ noted-none _ _ c.args.value _ none
          (sym w.if-is_at.true ∙ w.is_at.ensures (subst (λ x. 0 < x.key_end) (sym same) keyed)
          ∙ ap (λ x. is_key (first_key x) (option_and_then as_str (doc c.args.key))) same))
          (λ every. sym w.are_found-is ∙ every) (λ every. ap is_some here))
      | then-is_none+else-is_at w ↦
          let p = w.index-pointers-k.result in
          let at = slice_get_read c.args.pointers.now _ l.k p refl c.loop-k-test.true w.index-pointers-k.is in
          let none : get_or l.values l.k None ≡ None = none-of _ (seen ∙ ap not w.if-is_none.true) in
          rw w.values-is
          (AreNoted-further _ _ _ _ _ l.values _ l.are_found _ l.k l.invariant (λ j e. refl)
          (λ q there keyed.
          let same : p ≡ q = the-one c.args.pointers.now l.k l.k p q at there refl in
          none ∙ noted-none _ _ c.args.value _ none
          (sym w.if-is_at.false ∙ w.is_at.ensures (subst (λ x. 0 < x.key_end) (sym same) keyed)
          ∙ ap (λ x. is_key (first_key x) (option_and_then as_str (doc c.args.key))) same))
          (λ every. absurd (false≢true (sym w.are_found-is ∙ every)))
          (λ every. absurd (false≢true (sym w.are_found-is ∙ every))))
      | else-is_none w ↦
          let some = seen ∙ ap not w.if-is_none.false in
          rw w.values-is
          (AreNoted-further _ _ _ _ _ l.values _ l.are_found _ l.k l.invariant (λ j e. refl)
          (λ q there keyed. noted-some _ c.args.value _ some) (λ every. sym w.are_found-is ∙ every) (λ every. some))
    ]

pub returns-clause-noted : goal.returns-clause-noted
returns-clause-noted g c = λ k p at keyed.
    c.loop-k.invariant.done k p at keyed (omega (arith, slice_get_within c.args.pointers.now k p at, c.loop-k-test.false))

pub returns-clause-all : goal.returns-clause-all
returns-clause-all g c = λ all k p at keyed.
    c.loop-k.invariant.has_all all k p at keyed (omega (arith, slice_get_within c.args.pointers.now k p at, c.loop-k-test.false))
