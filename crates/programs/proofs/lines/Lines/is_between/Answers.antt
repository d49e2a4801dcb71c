use Rattle.std.proofs.Common.{◌≡◌, ◌∙◌, arith, ap, drop, sym, take, length}
use Rattle.std.proofs.lemmas.Bool.{eq-eqb, true≢false}
use Rattle.std.proofs.lemmas.List.{length-drop, length-take}
use Rattle.programs.specs.Lines.{Cut}
use Rattle.programs.proofs.lines.Lines.is_between.Goals as goal

pub returns-then-self-clause-no : goal.returns-then-self-clause-no
returns-then-self-clause-no c = λ differ between.
    let inside = c.self.inside in
    let none = ap (λ (v : Cut). length v.unread) c.self.view_is ∙ ap length between.1 in
    let same : inside.start ≡ inside.end =
    omega (
      arith,
      none,
      length-drop inside.start (take inside.end inside.block),
      length-take inside.end inside.block,
      c.self.invariant,
      c.self.told,
    ) in
    true≢false (sym (eq-eqb inside.start inside.end same) ∙ differ)
