use Rattle.std.proofs.Common.{◌≡◌, ◌∙◌, ap, sym, subst, refl, arith, Some, ◌+◌, length, true≢false}
use Rattle.simd_json_parts.specs.Listing.{listing}
use Rattle.simd_json_c.specs.Placed.{token_key}
use Rattle.simd_json_c.proofs.Placing.{MembersLeft, members-all, members-none, next-member, some_node}
use Rattle.simd_json_c.proofs.pointer.member.Goals as goal

pub loop-passed-init : goal.loop-passed-init
loop-passed-init c ms a is =
    let u = token_key c.args.is_plain c.args.token.now in
    members-all c.args.nodes.now c.args.text.now u ms c.args.len c.args.first a is

pub returns-then-at-nodes : goal.returns-then-at-nodes
returns-then-at-nodes c ms a is =
    let u = token_key c.args.is_plain c.args.token.now in
    let l = c.loop-passed in
    let next =
    next-member c.args.nodes.now c.args.text.now u ms c.args.len c.args.first l.passed l.at some_node
    (l.invariant ms a is) (omega arith) in
    absurd (omega (arith, next.0, c.if-at-nodes.true))

pub returns-then-is_named : goal.returns-then-is_named
returns-then-is_named c ms a is =
    let u = token_key c.args.is_plain c.args.token.now in
    let l = c.loop-passed in
    let next =
    next-member c.args.nodes.now c.args.text.now u ms c.args.len c.args.first l.passed l.at _
    (l.invariant ms a is) (omega arith) in
    let key = c.text_at.ensures next.1.within ∙ next.1.key_is in
    let is_named = c.if-is_named.ensures.0 refl ∙ ap Some key in
    (next.1.value, next.1.here is_named, next.1.before is_named, next.1.placed)

pub loop-passed-preserved : goal.loop-passed-preserved
loop-passed-preserved c ms a is =
    let nodes = c.args.nodes.now in
    let text = c.args.text.now in
    let u = token_key c.args.is_plain c.args.token.now in
    let l = c.loop-passed in
    let next = next-member nodes text u ms c.args.len c.args.first l.passed l.at _ (l.invariant ms a is) (omega arith) in
    let key = c.text_at.ensures next.1.within ∙ next.1.key_is in
    let other : u ≡ Some next.1.key → ⊥ =
    λ found. true≢false (sym (c.if-is_named.ensures.1 (found ∙ ap Some (sym key)))) in
    let same : l.at + 1 + length (listing next.1.value) ≡ c.in_ok-at.at =
    cc (c.in_ok-at.ensures text next.1.value next.1.placed) in
    subst (MembersLeft nodes text u ms c.args.len c.args.first (l.passed + 1)) same (next.1.later other)

pub returns-in_err-at : goal.returns-in_err-at
returns-in_err-at c ms a is =
    let u = token_key c.args.is_plain c.args.token.now in
    let l = c.loop-passed in
    let next =
    next-member c.args.nodes.now c.args.text.now u ms c.args.len c.args.first l.passed l.at some_node
    (l.invariant ms a is) (omega arith) in
    absurd (cc (c.in_err-at.ensures c.args.text.now next.1.value next.1.placed))

pub returns : goal.returns
returns c ms a is =
    let u = token_key c.args.is_plain c.args.token.now in
    let l = c.loop-passed in
    members-none c.args.nodes.now c.args.text.now u ms c.args.len c.args.first l.passed l.at
    (l.invariant ms a is) (omega arith)
