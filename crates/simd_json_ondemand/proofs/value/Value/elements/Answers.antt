use Rattle.std.proofs.Common.{refl, ◌∙◌, sym, ap, eqb, ◌+◌, ◌≤◌, length, arith, option_map}
use Rattle.simd_json_parts.specs.Document.{elements}
use Rattle.simd_json_ondemand.specs.Iterated.{all_some}
use Rattle.simd_json_ondemand.specs.Sites.{element_site}
use Rattle.simd_json_ondemand.specs.Viewed.{read_along}
use Rattle.simd_json_ondemand.specs.Stopped.{error_at}
use Rattle.simd_json_ondemand.specs.Walks.{whole}
use Rattle.simd_json_ondemand.proofs.ArrayViews.{no-array, no-end, within}
use Rattle.simd_json_ondemand.proofs.Inside.{open-ends}
use Rattle.simd_json_ondemand.proofs.Standing.{opens_array_byte}
use Rattle.simd_json_ondemand.proofs.WalkViews.{array-other, array-inside, array-unended, elements-found}
use Rattle.simd_json_ondemand.proofs.value.Value.elements.Goals as goal

pub returns-then-first-ne91-clause-walk : goal.returns-then-first-ne91-clause-walk
returns-then-first-ne91-clause-walk c =
    let v = c.args.self in
    array-other v (read_along v.document.input.now) (error_at c.stop.result) (λ e. c.if-first-ne91.true (c.first.ensures ∙ e))
    c.stop.ensures.error

pub returns-then-first-ne91-clause-all : goal.returns-then-first-ne91-clause-all
returns-then-first-ne91-clause-all c = λ d h.
    let v = c.args.self in
    ap (option_map (λ ds. whole (all_some ds)))
    (sym (no-array v.document.input.now v.document.indexes.now v.at v.inside d h (λ e. c.if-first-ne91.true (c.first.ensures ∙ e))))

pub returns-then-at-document-clause-walk : goal.returns-then-at-document-clause-walk
returns-then-at-document-clause-walk c =
    let v = c.args.self in
    let end : length v.document.indexes.now ≤ v.at + 1 = (let e = c.if-at-document.true in omega arith) in
    array-unended v (read_along v.document.input.now) (error_at c.stop-then-at-document.result)
    (sym c.first.ensures ∙ c.if-first-ne91.false) end c.stop-then-at-document.ensures.error

pub returns-then-at-document-clause-all : goal.returns-then-at-document-clause-all
returns-then-at-document-clause-all c = λ d h.
    let v = c.args.self in
    absurd (no-end v.document.input.now v.document.indexes.now v.at v.inside d h (sym c.first.ensures ∙ c.if-first-ne91.false)
    (let e = c.if-at-document.true in omega arith))

pub returns-clause-walk : goal.returns-clause-walk
returns-clause-walk c =
    let v = c.args.self in
    array-inside v (read_along v.document.input.now) (sym c.first.ensures ∙ c.if-first-ne91.false)

pub returns-clause-all : goal.returns-clause-all
returns-clause-all c = λ d h.
    let v = c.args.self in
    elements-found v.document.input.now v.document.indexes.now v.at v.inside d h (sym c.first.ensures ∙ c.if-first-ne91.false)

pub returns-then-first-ne91-clause-sites : goal.returns-then-first-ne91-clause-sites
returns-then-first-ne91-clause-sites c =
    let v = c.args.self in
    array-other v (element_site v.document.input.now) (error_at c.stop.result) (λ e. c.if-first-ne91.true (c.first.ensures ∙ e))
    c.stop.ensures.error

pub returns-then-at-document-clause-sites : goal.returns-then-at-document-clause-sites
returns-then-at-document-clause-sites c =
    let v = c.args.self in
    let end : length v.document.indexes.now ≤ v.at + 1 = (let e = c.if-at-document.true in omega arith) in
    array-unended v (element_site v.document.input.now) (error_at c.stop-then-at-document.result)
    (sym c.first.ensures ∙ c.if-first-ne91.false) end c.stop-then-at-document.ensures.error

pub returns-clause-sites : goal.returns-clause-sites
returns-clause-sites c =
    let v = c.args.self in
    array-inside v (element_site v.document.input.now) (sym c.first.ensures ∙ c.if-first-ne91.false)

pub returns-clause-any : goal.returns-clause-any
returns-clause-any c =
    let v = c.args.self in
    sym (opens_array_byte v.document.input.now _) ∙ ap (λ x. eqb x 91) (sym c.first.ensures ∙ c.if-first-ne91.false)

pub returns-clause-inside : goal.returns-clause-inside
returns-clause-inside c = λ d h.
    let v = c.args.self in
    let b = v.document.input.now in
    let is = v.document.indexes.now in
    let e = sym c.first.ensures ∙ c.if-first-ne91.false in
    let array = within b is v.at v.inside d h e in
    record { left = elements array.held; here = array.inside; ends = open-ends b is v.at 91 v.inside e refl }
