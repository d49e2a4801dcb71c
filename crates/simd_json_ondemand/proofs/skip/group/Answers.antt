use Rattle.simd_json_ondemand.proofs.Groups.{eight, loaded}
use Rattle.simd_json_ondemand.proofs.skip.group.Goals as goal

pub returns : goal.returns
unfolding loaded
returns c = eight c.args.input.now c.args.indexes.now c.requires.within c.args.at c.requires.at
