use Rattle.std.proofs.Common.{◌∙◌, ◌++◌, ◌∷◌, [], ap, sym, flat_map, string_bytes, append_assoc, map-id}
use Rattle.std.proofs.lemmas.Iterator.{YieldsList-from_chars}
use Rattle.std.proofs.lemmas.Iterator.Consumers.{YieldsList-end}
use Rattle.simd_json_parts.specs.Bytes.{slash}
use Rattle.simd_json_serde.specs.Paths.{token_character}
use Rattle.simd_json_serde.proofs.path.append_key.Goals as goal

pub returns : goal.returns
returns c =
    let old = string_bytes c.args.path.now in
    let all =
    YieldsList-end (YieldsList-from_chars c.args.key.now c.utf8.key cc) c.loop-c.yielded _ c.loop-c.yielded_by _ _ c.in-None.is
    c.next.ensures.steps in
    c.loop-c.invariant ∙ append_assoc old (slash ∷ []) (flat_map token_character c.loop-c.yielded)
    ∙ ap (λ cs. old ++ slash ∷ flat_map token_character cs) (sym (map-id c.loop-c.yielded) ∙ all.0)
