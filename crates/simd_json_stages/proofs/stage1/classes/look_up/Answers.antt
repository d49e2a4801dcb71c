use Rattle.std.proofs.Common.{take}
use Rattle.simd_json_stages.specs.Classes.{is_space_or_quote, is_op_or_quote}
use Rattle.simd_json_stages.specs.declared.stage1.classes.TheConstants.{SPACE_OR_QUOTE, OP_OR_QUOTE}
use Rattle.simd_json_stages.proofs.Scan.Bits.Lanes.{low_ok, against_table, against_table_with}
use Rattle.simd_json_stages.proofs.stage1.classes.look_up.Goals as goal

pub swizzle-spaces : goal.swizzle-spaces
swizzle-spaces c = low_ok c.args.v c.fits-v

pub swizzle-ops : goal.swizzle-ops
swizzle-ops c = low_ok c.args.v c.fits-v

pub returns-clause-space_or_quote : goal.returns-clause-space_or_quote
returns-clause-space_or_quote c = against_table SPACE_OR_QUOTE (take 16 SPACE_OR_QUOTE) is_space_or_quote c.args.v c.fits-v tt tt

pub returns-clause-op_or_quote : goal.returns-clause-op_or_quote
returns-clause-op_or_quote c = against_table_with 32 OP_OR_QUOTE (take 16 OP_OR_QUOTE) is_op_or_quote c.args.v c.fits-v tt tt
