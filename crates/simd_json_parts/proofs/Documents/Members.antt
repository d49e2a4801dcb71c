-- The first of some pairs, and the others.
use Rattle.std.proofs.Common.{◌≡◌, ◌∙◌, ap, refl, ℕ, cond, bytes_eq, List, [], ◌∷◌, Some, None}
use Rattle.simd_json_parts.specs.Document.{Document, null, Members, no_members, member, members}
use Rattle.simd_json_parts.specs.Views.{first_with}

abbrev first_name : List (List ℕ × Document) → List ℕ
first_name [] = []
first_name (m ∷ ms) = m.0

abbrev first_value : List (List ℕ × Document) → Document
first_value [] = null
first_value (m ∷ ms) = m.1

abbrev other_members : List (List ℕ × Document) → List (List ℕ × Document)
other_members [] = []
other_members (m ∷ ms) = ms

pub members_cancel : (ms ns : Members) → members ms ≡ members ns → ms ≡ ns
members_cancel no_members no_members same = refl
members_cancel (member k d ms) (member l e ns) same =
    let name : k ≡ l = ap first_name same in
    let value : d ≡ e = ap first_value same in
    let rest : ms ≡ ns = members_cancel ms ns (ap other_members same) in
    cc
members_cancel _ _ same = cc

-- the first pair has the key, or it is looked up among the others
pub first_with-pair : (key k : List ℕ) (d : Document) (ms ns : Members) → members ms ≡ (k, d) ∷ members ns
    → first_with key ms ≡ cond (bytes_eq k key) (Some d) (first_with key ns)
first_with-pair key k d no_members ns is = cc
first_with-pair key k d (member l e ms) ns is =
    let name : l ≡ k = ap first_name is in
    let value : e ≡ d = ap first_value is in
    let rest : ms ≡ ns = members_cancel ms ns (ap other_members is) in
    ap (λ x. cond (bytes_eq x key) (Some e) (first_with key ms)) name ∙ ap (λ x. cond (bytes_eq k key) (Some x) (first_with key ms)) value
    ∙ ap (λ x. cond (bytes_eq k key) (Some d) (first_with key x)) rest

pub first_with-none : (key : List ℕ) (ms : Members) → members ms ≡ [] → first_with key ms ≡ None
first_with-none key no_members is = refl
first_with-none key (member k d ms) is = cc
