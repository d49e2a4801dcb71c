use Rattle.std.proofs.Common.{◌∙◌, ◌∷◌, [], false, refl, true, sym, ap, length, append_assoc}
use Rattle.std.proofs.lemmas.Iterator.{YieldsList-from_chars}
use Rattle.std.proofs.lemmas.Iterator.Consumers.{YieldsList-end}
use Rattle.std.proofs.lemmas.List.{append-nil, map-id}
use Rattle.simd_json_regexp.specs.Marks.{accepts}
use Rattle.simd_json_regexp.specs.Nodes.{regexp}
use Rattle.simd_json_regexp.proofs.Marked.{length-after}
use Rattle.simd_json_regexp.proofs.matching.accepts.Goals as goal

pub loop-c-init : goal.loop-c-init
loop-c-init c = record { marks = c.requires.marks; same = λ more. refl }

pub loop-c-preserved : goal.loop-c-preserved
loop-c-preserved c =
    let p = regexp c.args.nodes.now in
    record {
      marks = ap length c.step.ensures.marks ∙ length-after p c.loop-c.enters c.in-Some.c c.loop-c.marks;
      same = λ more. ap (λ ms. accepts p false ms more) c.step.ensures.marks
          ∙ c.loop-c.invariant.same (c.in-Some.c ∷ more)
          ∙ ap (λ cs. accepts p true c.args.marks.now cs) (sym (append_assoc c.loop-c.yielded (c.in-Some.c ∷ []) more));
    }

pub returns : goal.returns
returns c =
    let p = regexp c.args.nodes.now in
    let all =
    YieldsList-end (YieldsList-from_chars c.args.text.now c.utf8.text cc) c.loop-c.yielded _ c.loop-c.yielded_by _ _ c.in-None.is
    c.next.ensures.steps in
    let same = sym (map-id c.loop-c.yielded) ∙ all.0 in
    c.may_end.ensures ∙ c.loop-c.invariant.same [] ∙ ap (λ cs. accepts p true c.args.marks.now cs) (append-nil c.loop-c.yielded ∙ same)
