use Rattle.std.proofs.Common.{◌≢◌, [], ap, append-nil, arith, subst, sym}
use Rattle.std.proofs.KnownBytes.{Consumes-nil}
use Rattle.std.proofs.lemmas.Bool.{true≢false}
use Rattle.programs.specs.Lines.{Cut}
use Rattle.programs.proofs.Cuts.{some-left}
use Rattle.programs.proofs.lines.Lines.fill.Goals as goal

pub returns-then-self : goal.returns-then-self
returns-then-self g c =
    let inside = c.self.inside in
    let old = c.args.self.now in
    let less = some-left inside.start inside.end inside.block c.if-self.true (omega (arith, c.self.invariant, c.self.told)) in (
      c.requires,
      record {
        more = [];
        read = Consumes-nil _;
        same = ap (λ us. record old { unread = us }) (sym (append-nil old.unread));
        some = λ _. subst (λ (v : Cut). v.unread ≢ []) c.self.view_is less;
        end = λ none. absurd (true≢false none);
      },
    )
