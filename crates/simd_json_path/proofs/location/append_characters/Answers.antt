use Rattle.std.proofs.Common.{◌∙◌, ◌++◌, ap, sym, flat_map, string_bytes, map-id}
use Rattle.std.proofs.lemmas.Iterator.{YieldsList-from_chars}
use Rattle.std.proofs.lemmas.Iterator.Consumers.{YieldsList-end}
use Rattle.simd_json_path.specs.Locations.{escaped}
use Rattle.simd_json_path.proofs.location.append_characters.Goals as goal

pub returns : goal.returns
returns c =
    let all =
    YieldsList-end (YieldsList-from_chars c.args.name.now c.utf8.name cc) c.loop-c.yielded _ c.loop-c.yielded_by _ _ c.in-None.is
    c.next.ensures.steps in
    c.loop-c.invariant ∙ ap (λ cs. string_bytes c.args.path.now ++ flat_map escaped cs) (sym (map-id c.loop-c.yielded) ∙ all.0)
