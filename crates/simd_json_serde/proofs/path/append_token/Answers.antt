use Rattle.std.proofs.Common.{◌<◌, ◌-◌, ◌+◌, ◌∙◌, refl, sym, arith, string_bytes}
use Rattle.simd_json_parts.specs.Nodes.{item_of}
use Rattle.simd_json_serde.specs.Nodes.{items_of}
use Rattle.simd_json_serde.specs.Paths.{index_token, key_token, way}
use Rattle.simd_json_serde.proofs.Paths.{array-at, no-token, other-at, some-at, token-then}
use Rattle.simd_json_serde.proofs.path.append_token.Goals as goal

pub returns-in_default : goal.returns-in_default
returns-in_default c = λ d h. absurd (some-at (items_of c.args.nodes) c.args.at d h c.in_default.ensures)

pub returns-in_default-element_around : goal.returns-in_default-element_around
returns-in_default-element_around c = λ d h.
    let a = c.args in
    let before : a.at < a.node = omega (arith, c.if-at-node.false) in
    let r = array-at (items_of a.nodes) a.node a.at (item_of c.in-Some.value) (sym c.in-Some.ensures) before d h
    (sym c.if-is_array.ensures) in
    let none = c.in_default-element_around.ensures r.elements r.begin (omega (arith, c.after-end.ensures.value d h, r.long))
    (omega (arith, before)) in
    (refl, no-token d (a.node - a.at) (λ depth. r.same depth ∙ none depth))

pub returns-then-is_array : goal.returns-then-is_array
returns-then-is_array c = λ d h.
    let a = c.args in
    let before : a.at < a.node = omega (arith, c.if-at-node.false) in
    let r = array-at (items_of a.nodes) a.node a.at (item_of c.in-Some.value) (sym c.in-Some.ensures) before d h
    (sym c.if-is_array.ensures) in
    let found = c.in-Some-element_around.ensures r.elements r.begin (omega (arith, c.after-end.ensures.value d h, r.long))
    (omega (arith, before)) in (
      found.0,
      found.1,
      λ depth.
          token-then (string_bytes a.path.now) (string_bytes c.append_index.new.path) (index_token c.in-Some-element_around.index)
          (way found.0 depth (a.node - c.in-Some-element_around.element)) (way d (depth + 1) (a.node - a.at)) c.in_ok-append_index.ensures
          (r.same depth ∙ found.2 depth),
    )

pub returns-in_default-member_around : goal.returns-in_default-member_around
returns-in_default-member_around c = λ d h.
    let a = c.args in
    let before : a.at < a.node = omega (arith, c.if-at-node.false) in
    let r = other-at (items_of a.nodes) a.node a.at (item_of c.in-Some.value) (sym c.in-Some.ensures) before d h
    (sym c.if-is_array.ensures) in
    let none = c.in_default-member_around.ensures r.members r.begin (omega (arith, c.after-end.ensures.value d h, r.long))
    (omega (arith, before)) in
    (refl, no-token d (a.node - a.at) (λ depth. r.same depth ∙ none depth))

pub returns : goal.returns
returns c = λ d h.
    let a = c.args in
    let before : a.at < a.node = omega (arith, c.if-at-node.false) in
    let r = other-at (items_of a.nodes) a.node a.at (item_of c.in-Some.value) (sym c.in-Some.ensures) before d h
    (sym c.if-is_array.ensures) in
    let found = c.in-Some-member_around.ensures r.members r.begin (omega (arith, c.after-end.ensures.value d h, r.long))
    (omega (arith, before)) in (
      found.0,
      found.1,
      λ depth.
          token-then (string_bytes a.path.now) (string_bytes c.append_key.new.path) (key_token c.in-Some-member_around.key.now)
          (way found.0 depth (a.node - c.in-Some-member_around.value)) (way d (depth + 1) (a.node - a.at)) c.in_ok-append_key.ensures
          (r.same depth ∙ found.2 depth),
    )
