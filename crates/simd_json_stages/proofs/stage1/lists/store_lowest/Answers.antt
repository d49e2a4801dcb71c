use Rattle.simd_json_stages.proofs.Scan.Bits.Writing.{stored-at}
use Rattle.simd_json_stages.proofs.stage1.lists.store_lowest.Goals as goal

pub returns : goal.returns
returns c = λ before used all k at h. stored-at before used all k c.args.base c.args.structural_indexes.now c.args.bits c.args.at at h
    c.requires.capacity c.requires.base
