-- What C holds of a parser.
use base.Fml.{Fml, ftrue}
use denote.RawPtr.{Ptr}
use Rattle.std.specs.Prelude.{Option, Some, None}
use Rattle.std.specs.Box.Ownership.{box_owns}
use Rattle.std.specs.declared.alloc.Global.{Global}
use Rattle.std.specs.contracts.impls.GlobalAllocator.TheImpl.{ghosts}
use Rattle.simd_json_c.specs.contracts.lists.Lists.{the_row}
use Rattle.simd_json_c.specs.declared.lists.Lists.{Lists}

-- the box of the lists, where there are any
abbrev pub held : Global → Ptr → Option Lists → Fml
held a p None = ftrue
held a p (Some lists) = box_owns (ghosts.dealloc_token a) the_row p lists
