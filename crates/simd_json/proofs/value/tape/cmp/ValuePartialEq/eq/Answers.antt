use Rattle.std.proofs.Common.{◌∙◌}
use Rattle.simd_json.proofs.Views.Compared.{compared}
use Rattle.simd_json.proofs.value.tape.cmp.ValuePartialEq.eq.Goals as goal

pub returns : goal.returns
returns c = c.eq.ensures ∙ compared _ _ _ _ c.nodes.ensures.nodes c.nodes-2.ensures.nodes c.args.self.now.listed c.args.other.now.listed
