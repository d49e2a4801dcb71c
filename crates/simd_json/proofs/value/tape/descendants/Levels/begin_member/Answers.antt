use Rattle.std.proofs.Common.{◌∙◌, refl, arith}
use Rattle.simd_json.proofs.Views.Descending.{member-begun, last-begun}
use Rattle.simd_json.proofs.value.tape.descendants.Levels.begin_member.Goals as goal

pub returns-then-self : goal.returns-then-self
returns-then-self g c ds =
    c.first_unfinished-self.ensures.same ds
    ∙ last-begun c.args.self.now.all c.first_unfinished-self.result (omega arith) ds

pub returns : goal.returns
returns g c ds =
    c.first_unfinished-self.ensures.same ds
    ∙ member-begun c.args.self.now.all c.first_unfinished-self.result _ _ (omega arith) c.first_unfinished-self.ensures.some refl ds
