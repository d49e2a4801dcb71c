use Rattle.std.proofs.Common.{◌≡◌, ◌∙◌, ap, sym, refl, Some, true≢false}
use Rattle.simd_json_parts.specs.Pointed.{unescaped}
use Rattle.simd_json.specs.Viewed.{doc, pairs}
use Rattle.simd_json_parts.proofs.Pointers.Keys.{member-plain}
use Rattle.simd_json_parts.proofs.Pointers.Pointed.{found, member-here, member-later, member-none}
use Rattle.simd_json_parts.proofs.Documents.Members.{members_cancel}
use Rattle.simd_json.proofs.value.tape.pointer.lookup.member.Goals as goal

pub returns-then-is_plain : goal.returns-then-is_plain
returns-then-is_plain c =
    c.find.ensures ∙ sym (member-plain (pairs c.args.object) c.args.token.now (c.requires c.if-is_plain.true))

pub loop-key-init : goal.loop-key-init
loop-key-init c =
    ap (λ it. found c.args.token.now (pairs it.left)) c.into_iter-key-iterator.ensures.into_iter_gives
    ∙ ap (found c.args.token.now) (members_cancel _ (pairs c.args.object) c.iter-key-items.ensures)

pub returns-then-is_named : goal.returns-then-is_named
returns-then-is_named c =
    let t = c.args.token.now in
    let name = ap unescaped (sym c.as_bytes-bytes.ensures.value) ∙ c.if-is_named.ensures.0 refl
    ∙ ap Some c.as_bytes.ensures.value in
    sym (member-here (unescaped t) c.in-Some.key.now (doc c.in-Some.value) _ (pairs c.next.new.self.left) c.in-Some.ensures.steps name)
    ∙ c.loop-key.invariant

pub loop-key-preserved : goal.loop-key-preserved
loop-key-preserved c =
    let t = c.args.token.now in
    let key = c.in-Some.key.now in
    let other : unescaped t ≡ Some key → ⊥ =
    λ is. true≢false (sym (c.if-is_named.ensures.1
    (ap unescaped c.as_bytes-bytes.ensures.value ∙ is ∙ ap Some (sym c.as_bytes.ensures.value)))) in
    sym (member-later (unescaped t) key (doc c.in-Some.value) _ (pairs c.next.new.self.left) c.in-Some.ensures.steps other)
    ∙ c.loop-key.invariant

pub returns : goal.returns
returns c = sym (member-none (unescaped c.args.token.now) _ c.in-None.ensures.steps.0) ∙ c.loop-key.invariant
