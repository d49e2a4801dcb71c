use Rattle.std.proofs.Common.{◌∙◌, sym, ap, ℕ, ◌+◌, List, ◌∷◌, [], take}
use Rattle.std.specs.Option.{option_map_or}
use Rattle.std.proofs.lemmas.List.{take_rest, drop-drop}
use Rattle.simd_json_parts.specs.Pieces.{pieces}
use Rattle.simd_json_parts.proofs.Pieces.{cut-at, uncut}
use Rattle.simd_json_ondemand.proofs.stream.InputLines.next_piece.Goals as goal

pub returns-in-Some : goal.returns-in-Some
returns-in-Some c =
    let b : List ℕ = c.in_ok-rest.rest.now in
    let end : ℕ = c.in-Some.end in
    let found = c.in-Some.ensures in
    ap (λ o. option_map_or (λ rest. pieces rest.now) o []) c.in_ok-rest.was
    ∙ cut-at b end found.0.high found.0.before found.1
    ∙ ap (λ bs. take end b ∷ pieces bs)
    (drop-drop 1 end b ∙ sym (take_rest b (end + 1)))

pub returns-in-None : goal.returns-in-None
returns-in-None c =
    ap (λ o. option_map_or (λ rest. pieces rest.now) o []) c.in_ok-rest.was ∙ uncut c.in_ok-rest.rest.now c.in-None.ensures
