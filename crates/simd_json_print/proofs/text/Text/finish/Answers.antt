use Rattle.std.proofs.Common.{rules, subst}
use Rattle.simd_json_print.specs.Texts.{HasEnded}
use Rattle.simd_json_print.proofs.Texts.{ends-before, ends-after}
use Rattle.simd_json_print.proofs.text.Text.finish.Goals as goal

pub returns-in-Some : goal.returns-in-Some
returns-in-Some g c start bytes given = ends-before g.T.Target.state start c.args.self bytes (search rules) given

pub returns : goal.returns
returns g c start bytes given = ends-after c.write_all.result g.T.Target.state start
    (g.T.Target.state c.write_all.new.target) c.args.self bytes (search rules) given
    (subst (λ us. HasEnded c.write_all.result (g.T.Target.state c.args.self.target.now)
    (g.T.Target.state c.write_all.new.target) us) c.as_slice.ensures c.write_all.ensures)
