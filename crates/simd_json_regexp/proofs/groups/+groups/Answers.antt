use Rattle.std.proofs.Common.{◌≡◌, ◌∙◌, ◌+◌, ◌-◌, suc, sym, arith, rules}
use Rattle.std.proofs.lemmas.Result.{err_from_is_err_and}
use Rattle.std.specs.Str.{chars}
use Rattle.simd_json_regexp.specs.Patterns.{group}
use Rattle.simd_json_regexp.specs.Written.{part_of, written}
use Rattle.simd_json_regexp.proofs.Steps.{branches-added_err, branches-branch_err, branches-more, group-next}
use Rattle.simd_json_regexp.proofs.Steps.{pieces-added_err, pieces-end, pieces-more, pieces-piece_err}
use Rattle.simd_json_regexp.proofs.groups.+groups.Goals as goal

pub alternatives-returns-in_err-next-clause-is : goal.alternatives-returns-in_err-next-clause-is
alternatives-returns-in_err-next-clause-is t c =
    let p = err_from_is_err_and c.from_residual-in_err-next.result c.from_residual-in_err-next.ensures.1 in
    let is : c.branches.fuel ≡ c.in-Some.less + 1 = omega (arith, c.in-Some.ensures) in
    rw (p.1, p.2)
    (branches-branch_err (group c.args.depth) c.branches.fuel c.in-Some.less (part_of (written c.branches.sink) c.branches.all)
    c.branches.sink.next (chars c.branches.left.now) (chars c.in-Some-after.others.now) c.in_err-next.field-0.0 is
    c.in-Some-after.ensures c.in_err-next.ensures.is
    ∙ c.branches.invariant.same)

pub alternatives-returns-in_err-all-2-clause-is : goal.alternatives-returns-in_err-all-2-clause-is
alternatives-returns-in_err-all-2-clause-is t c =
    let p = err_from_is_err_and c.from_residual-in_err-all-2.result c.from_residual-in_err-all-2.ensures.1 in
    let is : c.branches.fuel ≡ c.in-Some.less + 1 = omega (arith, c.in-Some.ensures) in
    let ns = written c.branch-sink-in-Some.new.sink in
    rw (p.1, p.2)
    (branches-added_err (group c.args.depth) c.branches.fuel c.in-Some.less (part_of (written c.branches.sink) c.branches.all)
    (part_of ns c.branches.all) (part_of ns c.in_ok-next.next) c.branches.sink.next c.branch-sink-in-Some.new.sink.next
    (chars c.branches.left.now) (chars c.in-Some-after.others.now) (chars c.in_ok-next.behind.now) c.in_err-all-2.field-0.0 is
    c.in-Some-after.ensures c.in_ok-next.ensures.is
    (c.in_ok-next.ensures.grows.kept c.branches.all c.branches.invariant.within) c.in_err-all-2.ensures.is
    ∙ c.branches.invariant.same)

pub alternatives-branches-preserved : goal.alternatives-branches-preserved
alternatives-branches-preserved t c =
    let is : c.branches.fuel ≡ c.in-Some.less + 1 = omega (arith, c.in-Some.ensures) in
    let ns = written c.branch-sink-in-Some.new.sink in
    record {
      utf8 = search rules;
      grows = search rules;
      within = c.in_ok-all-2.ensures.within;
      same = branches-more (group c.args.depth) c.branches.fuel c.in-Some.less (part_of (written c.branches.sink) c.branches.all)
          (part_of ns c.branches.all) (part_of ns c.in_ok-next.next) (part_of (written c.either.new.self) c.in_ok-all-2.all)
          c.branches.sink.next c.branch-sink-in-Some.new.sink.next c.either.new.self.next (chars c.branches.left.now)
          (chars c.in-Some-after.others.now) (chars c.in_ok-next.behind.now) is c.in-Some-after.ensures c.in_ok-next.ensures.is
          (c.in_ok-next.ensures.grows.kept c.branches.all c.branches.invariant.within) c.in_ok-all-2.ensures.is
          ∙ c.branches.invariant.same;
    }

pub branch-returns-then-ends_branch-2-clause-is : goal.branch-returns-then-ends_branch-2-clause-is
branch-returns-then-ends_branch-2-clause-is t c =
    let is : c.pieces.fuel ≡ c.in-Some.less + 1 = omega (arith, c.in-Some.ensures) in
    pieces-end (group c.args.depth) c.pieces.fuel c.in-Some.less (part_of (written c.pieces.sink) c.pieces.all) c.pieces.sink.next
    (chars c.pieces.left.now) is (sym c.if-ends_branch-2.true ∙ c.ends_branch-in-Some.ensures)
    ∙ c.pieces.invariant.same

pub branch-returns-in_err-next-clause-is : goal.branch-returns-in_err-next-clause-is
branch-returns-in_err-next-clause-is t c =
    let p = err_from_is_err_and c.from_residual-in_err-next.result c.from_residual-in_err-next.ensures.1 in
    let is : c.pieces.fuel ≡ c.in-Some.less + 1 = omega (arith, c.in-Some.ensures) in
    rw (p.1, p.2)
    (pieces-piece_err (group c.args.depth) c.pieces.fuel c.in-Some.less (part_of (written c.pieces.sink) c.pieces.all)
    c.pieces.sink.next (chars c.pieces.left.now) c.in_err-next.field-0.0 is
    (sym c.if-ends_branch-2.false ∙ c.ends_branch-in-Some.ensures) c.in_err-next.ensures.is
    ∙ c.pieces.invariant.same)

pub branch-returns-in_err-all-2-clause-is : goal.branch-returns-in_err-all-2-clause-is
branch-returns-in_err-all-2-clause-is t c =
    let p = err_from_is_err_and c.from_residual-in_err-all-2.result c.from_residual-in_err-all-2.ensures.1 in
    let is : c.pieces.fuel ≡ c.in-Some.less + 1 = omega (arith, c.in-Some.ensures) in
    let ns = written c.piece-in-Some.new.sink in
    rw (p.1, p.2)
    (pieces-added_err (group c.args.depth) c.pieces.fuel c.in-Some.less (part_of (written c.pieces.sink) c.pieces.all)
    (part_of ns c.pieces.all) (part_of ns c.in_ok-next.next) c.pieces.sink.next c.piece-in-Some.new.sink.next
    (chars c.pieces.left.now) (chars c.in_ok-next.behind.now) c.in_err-all-2.field-0.0 is
    (sym c.if-ends_branch-2.false ∙ c.ends_branch-in-Some.ensures) c.in_ok-next.ensures.is
    (c.in_ok-next.ensures.grows.kept c.pieces.all c.pieces.invariant.within) c.in_err-all-2.ensures.is
    ∙ c.pieces.invariant.same)

pub branch-pieces-preserved : goal.branch-pieces-preserved
branch-pieces-preserved t c =
    let is : c.pieces.fuel ≡ c.in-Some.less + 1 = omega (arith, c.in-Some.ensures) in
    let ns = written c.piece-in-Some.new.sink in
    record {
      utf8 = search rules;
      grows = search rules;
      within = c.in_ok-all-2.ensures.within;
      same = pieces-more (group c.args.depth) c.pieces.fuel c.in-Some.less (part_of (written c.pieces.sink) c.pieces.all)
          (part_of ns c.pieces.all) (part_of ns c.in_ok-next.next) (part_of (written c.join.new.self) c.in_ok-all-2.all)
          c.pieces.sink.next c.piece-in-Some.new.sink.next c.join.new.self.next (chars c.pieces.left.now)
          (chars c.in_ok-next.behind.now) is (sym c.if-ends_branch-2.false ∙ c.ends_branch-in-Some.ensures) c.in_ok-next.ensures.is
          (c.in_ok-next.ensures.grows.kept c.pieces.all c.pieces.invariant.within) c.in_ok-all-2.ensures.is
          ∙ c.pieces.invariant.same;
    }

pub group-returns-in_err-part-clause-is : goal.group-returns-in_err-part-clause-is
group-returns-in_err-part-clause-is t c =
    let p = err_from_is_err_and c.from_residual.result c.from_residual.ensures.1 in
    let is : c.args.depth ≡ suc (c.args.depth - 1) = omega (arith, c.if-depth-eq0.false) in
    let next = group-next c.args.depth (c.args.depth - 1) c.args.sink.now.next (chars c.args.rest.now) is in
    rw (p.1, p.2, next, ← c.in_err-part.ensures.is) (search rules)

pub group-returns-in-Some-clause-is : goal.group-returns-in-Some-clause-is
group-returns-in-Some-clause-is t c =
    let is : c.args.depth ≡ suc (c.args.depth - 1) = omega (arith, c.if-depth-eq0.false) in
    let next = group-next c.args.depth (c.args.depth - 1) c.args.sink.now.next (chars c.args.rest.now) is in
    rw (next, ← c.in_ok-part.ensures.is, ← c.in-Some.ensures) (search rules)

pub group-returns-in-None-clause-is : goal.group-returns-in-None-clause-is
group-returns-in-None-clause-is t c =
    let is : c.args.depth ≡ suc (c.args.depth - 1) = omega (arith, c.if-depth-eq0.false) in
    let next = group-next c.args.depth (c.args.depth - 1) c.args.sink.now.next (chars c.args.rest.now) is in
    rw (next, ← c.in_ok-part.ensures.is, ← c.in-None.ensures) (search rules)
