use Rattle.std.proofs.Common.{◌≡◌, ◌-◌, ◌+◌, ◌++◌, ◌∙◌, ap, sym, Some, None, ℕ, List, arith}
use Rattle.simd_json_serde.specs.Nodes.{items_of}
use Rattle.simd_json_serde.specs.Paths.{key_token, members_way, way}
use Rattle.simd_json_serde.proofs.Paths.{member-found, member-passed, members-end, string-there}
use Rattle.simd_json_serde.proofs.path.member_around.Goals as goal

pub returns-in_default : goal.returns-in_default
returns-in_default c = λ ms h ends before.
    let a = c.args in
    let l = c.loop-key in
    let all : ℕ → List ℕ = λ depth. members_way ms depth (a.node - a.first) in
    let found =
    member-found (items_of a.nodes) a.end a.node all l.key c.after-next.result
    c.after-next.ensures.value c.loop-key-test.true (l.invariant ms h ends before) c.if-node-next.true in
    let e : None ≡ Some found.name = c.in_default.ensures ∙ string-there (items_of a.nodes) a.node all l.key found in
    absurd (cc e)

pub returns-then-node-next : goal.returns-then-node-next
returns-then-node-next c = λ ms h ends before.
    let a = c.args in
    let l = c.loop-key in
    let all : ℕ → List ℕ = λ depth. members_way ms depth (a.node - a.first) in
    let found =
    member-found (items_of a.nodes) a.end a.node all l.key c.after-next.result
    c.after-next.ensures.value c.loop-key-test.true (l.invariant ms h ends before) c.if-node-next.true in
    let e : Some c.in-Some.text.now ≡ Some found.name = c.in-Some.ensures ∙ string-there (items_of a.nodes) a.node all l.key found in
    let name : c.in-Some.text.now ≡ found.name = cc e in (
      found.document,
      found.begin,
      λ depth. found.same depth ∙ ap (λ k. key_token k ++ way found.document depth (a.node - (l.key + 1)))
          (sym name),
    )

pub loop-key-smaller : goal.loop-key-smaller
loop-key-smaller c = omega (arith, c.after-next.ensures.later, c.loop-key-test.true)

pub loop-key-preserved : goal.loop-key-preserved
loop-key-preserved c = λ ms h ends before.
    let a = c.args in
    let l = c.loop-key in
    member-passed (items_of a.nodes) a.end a.node (λ depth. members_way ms depth (a.node - a.first)) l.key c.after-next.result
    c.after-next.ensures.value c.loop-key-test.true (l.invariant ms h ends before) (omega (arith, c.if-node-next.false))

pub returns : goal.returns
returns c = λ ms h ends before.
    let a = c.args in
    let l = c.loop-key in
    members-end (items_of a.nodes) a.end a.node (λ depth. members_way ms depth (a.node - a.first)) l.key
    (l.invariant ms h ends before) (omega (arith, c.loop-key-test.false))
