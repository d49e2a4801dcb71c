use Rattle.std.proofs.Common.{refl, ◌∙◌, sym, ap, eqb, ◌+◌, ◌≤◌, length, arith, option_map}
use Rattle.simd_json_parts.specs.Document.{members}
use Rattle.simd_json_ondemand.specs.IteratedMembers.{all_members}
use Rattle.simd_json_ondemand.specs.Sites.{pair_sites}
use Rattle.simd_json_ondemand.specs.Stopped.{error_at}
use Rattle.simd_json_ondemand.specs.Walks.{pair_along, whole}
use Rattle.simd_json_ondemand.proofs.ObjectViews.{no-object, no-end, within}
use Rattle.simd_json_ondemand.proofs.Inside.{open-ends}
use Rattle.simd_json_ondemand.proofs.Standing.{opens_object_byte}
use Rattle.simd_json_ondemand.proofs.WalkViews.{object-other, object-inside, object-unended, members-found}
use Rattle.simd_json_ondemand.proofs.value.Value.members.Goals as goal

pub returns-then-first-ne123-clause-walk : goal.returns-then-first-ne123-clause-walk
returns-then-first-ne123-clause-walk c =
    let v = c.args.self in
    object-other v (pair_along v.document.input.now) (error_at c.stop.result) (λ e. c.if-first-ne123.true (c.first.ensures ∙ e))
    c.stop.ensures.error

pub returns-then-first-ne123-clause-all : goal.returns-then-first-ne123-clause-all
returns-then-first-ne123-clause-all c = λ d h.
    let v = c.args.self in
    ap (option_map (λ ms. whole (all_members ms)))
    (sym (no-object v.document.input.now v.document.indexes.now v.at v.inside d h (λ e. c.if-first-ne123.true (c.first.ensures ∙ e))))

pub returns-then-at-document-clause-walk : goal.returns-then-at-document-clause-walk
returns-then-at-document-clause-walk c =
    let v = c.args.self in
    let end : length v.document.indexes.now ≤ v.at + 1 = (let e = c.if-at-document.true in omega arith) in
    object-unended v (pair_along v.document.input.now) (error_at c.stop-then-at-document.result)
    (sym c.first.ensures ∙ c.if-first-ne123.false) end c.stop-then-at-document.ensures.error

pub returns-then-at-document-clause-all : goal.returns-then-at-document-clause-all
returns-then-at-document-clause-all c = λ d h.
    let v = c.args.self in
    absurd (no-end v.document.input.now v.document.indexes.now v.at v.inside d h (sym c.first.ensures ∙ c.if-first-ne123.false)
    (let e = c.if-at-document.true in omega arith))

pub returns-clause-walk : goal.returns-clause-walk
returns-clause-walk c =
    let v = c.args.self in
    object-inside v (pair_along v.document.input.now) (sym c.first.ensures ∙ c.if-first-ne123.false)

pub returns-clause-all : goal.returns-clause-all
returns-clause-all c = λ d h.
    let v = c.args.self in
    members-found v.document.input.now v.document.indexes.now v.at v.inside d h (sym c.first.ensures ∙ c.if-first-ne123.false)

pub returns-then-first-ne123-clause-sites : goal.returns-then-first-ne123-clause-sites
returns-then-first-ne123-clause-sites c =
    let v = c.args.self in
    object-other v (pair_sites v.document.input.now) (error_at c.stop.result) (λ e. c.if-first-ne123.true (c.first.ensures ∙ e))
    c.stop.ensures.error

pub returns-then-at-document-clause-sites : goal.returns-then-at-document-clause-sites
returns-then-at-document-clause-sites c =
    let v = c.args.self in
    let end : length v.document.indexes.now ≤ v.at + 1 = (let e = c.if-at-document.true in omega arith) in
    object-unended v (pair_sites v.document.input.now) (error_at c.stop-then-at-document.result)
    (sym c.first.ensures ∙ c.if-first-ne123.false) end c.stop-then-at-document.ensures.error

pub returns-clause-sites : goal.returns-clause-sites
returns-clause-sites c =
    let v = c.args.self in
    object-inside v (pair_sites v.document.input.now) (sym c.first.ensures ∙ c.if-first-ne123.false)

pub returns-clause-any : goal.returns-clause-any
returns-clause-any c =
    let v = c.args.self in
    sym (opens_object_byte v.document.input.now _) ∙ ap (λ x. eqb x 123) (sym c.first.ensures ∙ c.if-first-ne123.false)

pub returns-clause-inside : goal.returns-clause-inside
returns-clause-inside c = λ d h.
    let v = c.args.self in
    let b = v.document.input.now in
    let is = v.document.indexes.now in
    let e = sym c.first.ensures ∙ c.if-first-ne123.false in
    let object = within b is v.at v.inside d h e in
    let ends = open-ends b is v.at 123 v.inside e refl in
    let held = members object.held in
    record { left = held; here = object.inside; ends = ends; all = held; begins = object.inside; closes = ends }
