use Rattle.std.proofs.Common.{◌∙◌, ap, subst, sym, refl, inr, [], ◌∷◌, ◌++◌, map}
use Rattle.simd_json_parts.specs.Document.{null}
use Rattle.simd_json.specs.Tapes.{IsTapeContent}
use Rattle.simd_json_parts.specs.Nodes.{item_of}
use Rattle.simd_json_parts.specs.declared.node.Node.TheVariants.{Static}
use Rattle.simd_json_parts.specs.declared.node.StaticNode.TheVariants.{Null}
use Rattle.simd_json.proofs.value.tape.Tape.null.Goals as goal

pub invariant_of-result : goal.invariant_of-result
invariant_of-result g c =
    subst (λ xs. IsTapeContent (map item_of xs))
    (sym (c.in_ok-push.ensures.items ∙ ap (λ xs. xs ++ Static Null ∷ []) c.new-list.ensures.items))
    (inr (null, tt, tt, refl))
