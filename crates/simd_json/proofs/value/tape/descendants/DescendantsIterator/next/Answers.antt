use Rattle.std.proofs.Common.{◌≡◌, ◌∙◌, ap, sym, Bool, cond, drop}
use Rattle.simd_json.specs.Descending.{in_row, left_open, left_by}
use Rattle.simd_json.specs.Documents.{other_elements}
use Rattle.simd_json_parts.specs.Document.{Elements}
use Rattle.simd_json.proofs.Views.Descending.{IsStep, none-left, left-none}
use Rattle.simd_json.proofs.value.tape.descendants.DescendantsIterator.next.Goals as goal
use Rattle.simd_json.proofs.value.tape.descendants.DescendantsIterator.next.Goals.{then-begin_member, else-begin_member}

pub returns-in_default-clause-steps : goal.returns-in_default-clause-steps
returns-in_default-clause-steps g c =
    let old = c.args.self.now in
    let levels = c.begin_member.new.self in
    let all = in_row old.row in
    let pick : Bool → Elements = λ b. cond b (other_elements 1 all) all in
    let row : in_row c.if-begin_member.self ≡ cond c.begin_member.result (other_elements 1 all) all =
    elim c.if-begin_member.branch [
      | then-begin_member w ↦ ap in_row w.self-is ∙ w.without_first-self.ensures ∙ ap pick (sym w.if-begin_member.true)
      | else-begin_member w ↦ ap in_row w.self-is ∙ ap pick (sym w.if-begin_member.false)
    ] in
    let ls = drop levels.innermost levels.all in
    let step : IsStep (left_open old.levels) levels.innermost ls c.begin_member.result all (in_row c.if-begin_member.self) =
    record { levels = c.begin_member.ensures; row = row } in (
      none-left _ _ _ _ all _ step c.in_default.ensures,
      ap (left_by levels.innermost ls) c.in_default.ensures ∙ left-none levels.innermost ls,
    )
