-- Steps of the loops that read a pattern.
use Rattle.std.proofs.Common.{◌≡◌, refl, ℕ, zero, suc, ◌+◌, add-one, List, ◌∷◌, true, false}
use Rattle.std.specs.Prelude.{Some, None, Ok, Err}
use Rattle.simd_json_regexp.specs.Characters.{after, bracket_item}
use Rattle.simd_json_regexp.specs.Patterns.{Reading, added, and_read, alternatives, branch, closed, ends_branch, group, item_node}
use Rattle.simd_json_regexp.specs.Patterns.{more_branches, more_items, piece, pieces, with_text}
use Rattle.simd_json_regexp.specs.Regexps.{Regexp, ◌then◌, ◌or◌}
use Rattle.simd_json_regexp.specs.declared.item.Item.{Item}
use Rattle.simd_json_regexp.specs.declared.node.Node.{Node}
use Rattle.simd_json_regexp.specs.declared.pattern.PatternError.{PatternError}
use Rattle.simd_json_regexp.specs.declared.pattern.PatternError.TheVariants.{NoPattern}

-- ---- branches

pub branches-next : (Group : ℕ → List ℕ → Reading) (fuel less : ℕ) (all : Regexp) (room : ℕ) (text others : List ℕ)
    → fuel ≡ less + 1 → Some others ≡ after 124 text → more_branches Group fuel all room text
    ≡ and_read (branch Group room others) (λ p left rest. and_read (with_text (added (all or p) left) rest) (more_branches Group less))
branches-next Group fuel less all room text others is bar = rw (is, add-one, ← bar) refl

pub branches-branch_err : (Group : ℕ → List ℕ → Reading) (fuel less : ℕ) (all : Regexp) (room : ℕ) (text others : List ℕ) (e : PatternError)
    → fuel ≡ less + 1 → Some others ≡ after 124 text → Err e ≡ branch Group room others → Err e ≡ more_branches Group fuel all room text
branches-branch_err Group fuel less all room text others e is bar failed =
    rw (branches-next Group fuel less all room text others is bar, ← failed) refl

pub branches-added_err : (Group : ℕ → List ℕ → Reading) (fuel less : ℕ) (all same p : Regexp) (room left : ℕ)
    (text others rest : List ℕ) (e : PatternError) → fuel ≡ less + 1 → Some others ≡ after 124 text
    → Ok (p, left, rest) ≡ branch Group room others → same ≡ all → Err e ≡ added (same or p) left
    → Err e ≡ more_branches Group fuel all room text
branches-added_err Group fuel less all same p room left text others rest e is bar read kept failed =
    rw (branches-next Group fuel less all room text others is bar, ← read, ← kept, ← failed) refl

pub branches-more : (Group : ℕ → List ℕ → Reading) (fuel less : ℕ) (all same p more : Regexp) (room left left' : ℕ)
    (text others rest : List ℕ) → fuel ≡ less + 1 → Some others ≡ after 124 text → Ok (p, left, rest) ≡ branch Group room others
    → same ≡ all → Ok (more, left') ≡ added (same or p) left
    → more_branches Group less more left' rest ≡ more_branches Group fuel all room text
branches-more Group fuel less all same p more room left left' text others rest is bar read kept written =
    rw (branches-next Group fuel less all room text others is bar, ← read, ← kept, ← written) refl

-- ---- pieces

pub pieces-end : (Group : ℕ → List ℕ → Reading) (fuel less : ℕ) (all : Regexp) (room : ℕ) (text : List ℕ)
    → fuel ≡ less + 1 → true ≡ ends_branch text → Ok (all, room, text) ≡ pieces Group fuel all room text
pieces-end Group fuel less all room text is ends = rw (is, add-one, ← ends) refl

pub pieces-next : (Group : ℕ → List ℕ → Reading) (fuel less : ℕ) (all : Regexp) (room : ℕ) (text : List ℕ)
    → fuel ≡ less + 1 → false ≡ ends_branch text → pieces Group fuel all room text
    ≡ and_read (piece Group room text) (λ p left rest. and_read (with_text (added (all then p) left) rest) (pieces Group less))
pieces-next Group fuel less all room text is goes = rw (is, add-one, ← goes) refl

pub pieces-piece_err : (Group : ℕ → List ℕ → Reading) (fuel less : ℕ) (all : Regexp) (room : ℕ) (text : List ℕ) (e : PatternError)
    → fuel ≡ less + 1 → false ≡ ends_branch text → Err e ≡ piece Group room text → Err e ≡ pieces Group fuel all room text
pieces-piece_err Group fuel less all room text e is goes failed =
    rw (pieces-next Group fuel less all room text is goes, ← failed) refl

pub pieces-added_err : (Group : ℕ → List ℕ → Reading) (fuel less : ℕ) (all same p : Regexp) (room left : ℕ) (text rest : List ℕ)
    (e : PatternError) → fuel ≡ less + 1 → false ≡ ends_branch text → Ok (p, left, rest) ≡ piece Group room text
    → same ≡ all → Err e ≡ added (same then p) left → Err e ≡ pieces Group fuel all room text
pieces-added_err Group fuel less all same p room left text rest e is goes read kept failed =
    rw (pieces-next Group fuel less all room text is goes, ← read, ← kept, ← failed) refl

pub pieces-more : (Group : ℕ → List ℕ → Reading) (fuel less : ℕ) (all same p more : Regexp) (room left left' : ℕ)
    (text rest : List ℕ) → fuel ≡ less + 1 → false ≡ ends_branch text → Ok (p, left, rest) ≡ piece Group room text
    → same ≡ all → Ok (more, left') ≡ added (same then p) left → pieces Group less more left' rest ≡ pieces Group fuel all room text
pieces-more Group fuel less all same p more room left left' text rest is goes read kept written =
    rw (pieces-next Group fuel less all room text is goes, ← read, ← kept, ← written) refl

-- ---- groups

pub group-next : (depth less room : ℕ) (text : List ℕ) → depth ≡ suc less
    → group depth room text ≡ and_read (alternatives (group less) room text) (λ p left rest. closed p left (after 41 rest))
group-next depth less room text is = rw is refl

-- ---- items of a class

pub items-none : (room : ℕ) (found : List Node) (text : List ℕ) → None ≡ after 93 text → None ≡ bracket_item text
    → Err NoPattern ≡ more_items room found text
items-none zero found text goes none = rw (← goes, ← none) refl
items-none (suc room) found text goes none = rw (← goes, ← none) refl

pub items-more : (room left : ℕ) (found : List Node) (text rest : List ℕ) (i : Item) → room ≡ left + 1 → None ≡ after 93 text
    → Some (i, rest) ≡ bracket_item text → more_items left (item_node i ∷ found) rest ≡ more_items room found text
items-more room left found text rest i is goes read = rw (is, add-one, ← goes, ← read) refl
