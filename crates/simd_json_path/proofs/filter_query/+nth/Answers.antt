use Rattle.std.proofs.Common.{◌∙◌, ap, sym, ◌+◌, [], ◌∷◌, length, drop, arith, flat_map}
use Rattle.simd_json.specs.Descending.{containers_left}
use Rattle.simd_json.specs.Viewed.{doc}
use Rattle.simd_json_path.specs.Nodes.{by_all, chosen_by, followed, nodes}
use Rattle.simd_json_path.specs.NthNode.{nth_document, nth_of}
use Rattle.simd_json_path.specs.SliceNodes.{children_left}
use Rattle.simd_json_path.proofs.NthNode.{child-begun, child-step, children-end, choice-step, choices-end, container-step, containers-end}
use Rattle.simd_json_path.proofs.NthNode.{descendants-begun, nth-found, nth-left}
use Rattle.simd_json_path.proofs.filter_query.+nth.Goals as goal

-- ---- of each of some nodes

pub nth_among-returns-in_err-left : goal.nth_among-returns-in_err-left
nth_among-returns-in_err-left t c =
    let here = nodes chosen_by c.args.segments.now (doc c.in-Some-follow.reached ∷ []) in
    let rest = nodes chosen_by c.args.segments.now (followed c.args.steps.now (children_left c.next.new.self)) in
    ap nth_document c.from_residual.ensures
    ∙ sym (nth-found here rest c.loop-child.left (doc c.in_err-left.field-0.0) (sym c.in_err-left.ensures))
    ∙ ap (λ xs. nth_of xs c.loop-child.left) (sym (child-step c.args.segments.now c.args.steps.now (children_left c.loop-child.children)
    (doc c.in-Some.child) (children_left c.next.new.self) (doc c.in-Some-follow.reached) c.in-Some.ensures.steps c.in-Some-follow.ensures))
    ∙ c.loop-child.invariant

pub nth_among-loop-child-preserved-in-Some-follow : goal.nth_among-loop-child-preserved-in-Some-follow
nth_among-loop-child-preserved-in-Some-follow t c =
    let here = nodes chosen_by c.args.segments.now (doc c.in-Some-follow.reached ∷ []) in
    let rest = nodes chosen_by c.args.segments.now (followed c.args.steps.now (children_left c.next.new.self)) in
    sym (nth-left here rest c.loop-child.left c.in_ok-left.left (sym c.in_ok-left.ensures))
    ∙ ap (λ xs. nth_of xs c.loop-child.left) (sym (child-step c.args.segments.now c.args.steps.now
    (children_left c.loop-child.children) (doc c.in-Some.child) (children_left c.next.new.self) (doc c.in-Some-follow.reached)
    c.in-Some.ensures.steps c.in-Some-follow.ensures))
    ∙ c.loop-child.invariant

pub nth_among-returns : goal.nth_among-returns
nth_among-returns t c =
    ap (λ xs. nth_of xs c.loop-child.left) (sym (children-end c.args.segments.now c.args.steps.now
    (children_left c.loop-child.children) c.in_default.ensures.steps.0))
    ∙ c.loop-child.invariant

-- ---- of what each selector selects

pub nth_by-returns-in_err-left : goal.nth_by-returns-in_err-left
nth_by-returns-in_err-left t c =
    let d = doc c.args.node in
    let others = c.args.others.now in
    let steps = c.args.steps.now in
    let cs = c.args.selectors.now in
    let i = c.loop-choice.choice-index in
    let here = nodes chosen_by others (followed steps (children_left c.chosen.result)) in
    let rest = nodes chosen_by others (followed steps (by_all chosen_by (drop (i + 1) cs) d)) in
    ap nth_document c.from_residual.ensures
    ∙ sym (nth-found here rest c.loop-choice.left (doc c.in_err-left.field-0.0) (sym c.in_err-left.ensures))
    ∙ ap (λ xs. nth_of xs c.loop-choice.left) (sym (choice-step others steps cs i _ d
    (children_left c.chosen.result) (omega arith) c.chosen.ensures))
    ∙ c.loop-choice.invariant

pub nth_by-loop-choice-preserved : goal.nth_by-loop-choice-preserved
nth_by-loop-choice-preserved t c =
    let d = doc c.args.node in
    let others = c.args.others.now in
    let steps = c.args.steps.now in
    let cs = c.args.selectors.now in
    let i = c.loop-choice.choice-index in
    let here = nodes chosen_by others (followed steps (children_left c.chosen.result)) in
    let rest = nodes chosen_by others (followed steps (by_all chosen_by (drop (i + 1) cs) d)) in
    sym (nth-left here rest c.loop-choice.left c.in_ok-left.left (sym c.in_ok-left.ensures))
    ∙ ap (λ xs. nth_of xs c.loop-choice.left) (sym (choice-step others steps cs i _ d
    (children_left c.chosen.result) (omega arith) c.chosen.ensures))
    ∙ c.loop-choice.invariant

pub nth_by-returns : goal.nth_by-returns
nth_by-returns t c =
    ap (λ xs. nth_of xs c.loop-choice.left) (sym (choices-end c.args.others.now c.args.steps.now c.args.selectors.now
    c.loop-choice.choice-index (doc c.args.node) (omega arith)))
    ∙ c.loop-choice.invariant

-- ---- of a node

pub nth_from-nth_by-requires : goal.nth_from-nth_by-requires
nth_from-nth_by-requires t c =
    let fewer = ap length c.in-Some.ensures.cases.0 in
    (omega (arith, fewer, c.decreases), tt)

pub nth_from-returns-then-not-first : goal.nth_from-returns-then-not-first
nth_from-returns-then-not-first t c =
    c.nth_by.ensures
    ∙ ap (λ xs. nth_of xs c.args.index) (sym (child-begun c.args.segments.now c.in-Some.first.now c.in-Some.others.now
    (doc c.args.node) c.in-Some.ensures.cases.0 c.if-not-first.true))

pub nth_from-loop-container-init : goal.nth_from-loop-container-init
nth_from-loop-container-init t c =
    ap (λ xs. nth_of xs c.args.index) (sym (descendants-begun c.args.segments.now c.in-Some.first.now c.in-Some.others.now
    (doc c.args.node) c.in-Some.ensures.cases.0 (containers_left c.containers-containers.result) c.if-not-first.false
    c.containers-containers.ensures))

pub nth_from-nth_by-requires-in-Some-next : goal.nth_from-nth_by-requires-in-Some-next
nth_from-nth_by-requires-in-Some-next t c =
    let fewer = ap length c.in-Some.ensures.cases.0 in
    (omega (arith, fewer, c.decreases), tt)

pub nth_from-returns-in_err-left : goal.nth_from-returns-in_err-left
nth_from-returns-in_err-left t c =
    let first = c.in-Some.first.now in
    let others = c.in-Some.others.now in
    let all = by_all chosen_by first.selectors.now in
    let d = doc c.in-Some-next.container in
    let here = nodes chosen_by others (followed first.steps.now (all d)) in
    let rest = nodes chosen_by others (followed first.steps.now (flat_map all (containers_left c.next.new.self))) in
    ap nth_document c.from_residual.ensures
    ∙ sym (nth-found here rest c.loop-container.left (doc c.in_err-left.field-0.0) (sym c.in_err-left.ensures))
    ∙ ap (λ xs. nth_of xs c.loop-container.left) (sym (container-step others first.steps.now first.selectors.now
    (containers_left c.loop-container.containers) d (containers_left c.next.new.self) c.in-Some-next.ensures.steps))
    ∙ c.loop-container.invariant

pub nth_from-loop-container-preserved : goal.nth_from-loop-container-preserved
nth_from-loop-container-preserved t c =
    let first = c.in-Some.first.now in
    let others = c.in-Some.others.now in
    let all = by_all chosen_by first.selectors.now in
    let d = doc c.in-Some-next.container in
    let here = nodes chosen_by others (followed first.steps.now (all d)) in
    let rest = nodes chosen_by others (followed first.steps.now (flat_map all (containers_left c.next.new.self))) in
    sym (nth-left here rest c.loop-container.left c.in_ok-left.left (sym c.in_ok-left.ensures))
    ∙ ap (λ xs. nth_of xs c.loop-container.left) (sym (container-step others first.steps.now first.selectors.now
    (containers_left c.loop-container.containers) d (containers_left c.next.new.self) c.in-Some-next.ensures.steps))
    ∙ c.loop-container.invariant

pub nth_from-returns : goal.nth_from-returns
nth_from-returns t c =
    let first = c.in-Some.first.now in
    ap (λ xs. nth_of xs c.loop-container.left) (sym (containers-end c.in-Some.others.now first.steps.now first.selectors.now
    (containers_left c.loop-container.containers) c.in_default-next.ensures.steps.0))
    ∙ c.loop-container.invariant
