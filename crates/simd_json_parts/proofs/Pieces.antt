-- How an input is cut at its first line feed.
use Rattle.std.proofs.Common.{◌≡◌, ◌∙◌, refl, ap, sym, arith, ℕ, zero, suc, ◌<◌, ◌≤◌, List, [], ◌∷◌, ◌++◌, take, drop, length, Bool}
use Rattle.std.proofs.Common.{true, false, not, ◌&&◌, ◌==◌, cond}
use Rattle.std.specs.Prelude.{slice_index}
use Rattle.std.specs.List.{list_all}
use Rattle.std.proofs.Math.Seq.{take-length}
use Rattle.std.proofs.lemmas.Bool.{false≢true}
use Rattle.simd_json_parts.specs.Bytes.{line_feed}
use Rattle.simd_json_parts.specs.Pieces.{pieces, with_first}

-- one byte that is no line feed, in front
pieces-more : (t : Bool) (x : ℕ) (ps qs : List (List ℕ)) → (not t && true) ≡ true → qs ≡ ps
    → cond t ([] ∷ qs) (with_first x qs) ≡ with_first x ps
pieces-more true x ps qs here _ = absurd (false≢true here)
pieces-more false x ps qs _ is = ap (with_first x) is

-- no byte of it is a line feed
abbrev pub has_none : List ℕ → Bool
has_none front = list_all (λ x. not (x == line_feed)) front

and-first : (p q : Bool) → (p && q) ≡ true → (p && true) ≡ true
and-first true q is = refl
and-first false q is = absurd (false≢true is)

and-second : (p q : Bool) → (p && q) ≡ true → q ≡ true
and-second true q is = is
and-second false q is = absurd (false≢true is)

pub pieces-cut : (front rest : List ℕ) → has_none front ≡ true → pieces (front ++ line_feed ∷ rest) ≡ front ∷ pieces rest
unfolding pieces
pieces-cut [] rest _ = refl
pieces-cut (x ∷ front) rest none =
    pieces-more (x == line_feed) x (front ∷ pieces rest) (pieces (front ++ line_feed ∷ rest))
    (and-first (not (x == line_feed)) (has_none front) none)
    (pieces-cut front rest (and-second (not (x == line_feed)) (has_none front) none))

pub pieces-last : (front : List ℕ) → has_none front ≡ true → pieces front ≡ front ∷ []
unfolding pieces
pieces-last [] _ = refl
pieces-last (x ∷ front) none =
    pieces-more (x == line_feed) x (front ∷ []) (pieces front) (and-first (not (x == line_feed)) (has_none front) none)
    (pieces-last front (and-second (not (x == line_feed)) (has_none front) none))

-- there is a first piece
some-of : (t : Bool) (x : ℕ) (ps : List (List ℕ)) → ((p : List ℕ) × (qs : List (List ℕ)) × (ps ≡ p ∷ qs))
    → (p : List ℕ) × (qs : List (List ℕ)) × (cond t ([] ∷ ps) (with_first x ps) ≡ p ∷ qs)
some-of true x ps _ = ([], ps, refl)
some-of false x ps (p, qs, is) = (x ∷ p, qs, ap (with_first x) is)

pub pieces-some : (b : List ℕ) → (p : List ℕ) × (qs : List (List ℕ)) × (pieces b ≡ p ∷ qs)
unfolding pieces
pieces-some [] = ([], [], refl)
pieces-some (x ∷ b) = some-of (x == line_feed) x (pieces b) (pieces-some b)

-- what a search for a line feed says

and-both : (p q : Bool) → (p ≡ true → ⊥) → q ≡ true → (not p && q) ≡ true
and-both true q never _ = absurd (never refl)
and-both false q _ is = is

pub none-before : (hay : List ℕ) (k : ℕ) → ((j : ℕ) → 0 ≤ j → j < k → (slice_index hay j == line_feed) ≡ true → ⊥)
    → has_none (take k hay) ≡ true
none-before hay zero _ = refl
none-before [] (suc k) _ = refl
none-before (x ∷ hay) (suc k) none =
    and-both (x == line_feed) (has_none (take k hay)) (none 0 (omega arith) (omega arith))
    (none-before hay k (λ j low high. none (suc j) (omega arith) (omega (arith, high))))

split-at : (hay : List ℕ) (k : ℕ) → k < length hay → hay ≡ take k hay ++ slice_index hay k ∷ drop 1 (drop k hay)
split-at [] k l = absurd (omega (arith, l))
split-at (x ∷ hay) zero l = refl
split-at (x ∷ hay) (suc k) l = ap (λ ys. x ∷ ys) (split-at hay k (omega (arith, l)))

pub is-equal : (x : ℕ) → (x == line_feed) ≡ true → x ≡ line_feed
is-equal x is = grind (arith, is)

-- cut at the first line feed
pub cut-at : (hay : List ℕ) (k : ℕ) → k < length hay → ((j : ℕ) → 0 ≤ j → j < k → (slice_index hay j == line_feed) ≡ true → ⊥)
    → (slice_index hay k == line_feed) ≡ true → pieces hay ≡ take k hay ∷ pieces (drop 1 (drop k hay))
cut-at hay k high before here =
    ap pieces (split-at hay k high ∙ ap (λ x. take k hay ++ x ∷ drop 1 (drop k hay)) (is-equal (slice_index hay k) here))
    ∙ pieces-cut (take k hay) (drop 1 (drop k hay)) (none-before hay k before)

-- where there is none
pub uncut : (hay : List ℕ) → ((j : ℕ) → 0 ≤ j → j < length hay → (slice_index hay j == line_feed) ≡ true → ⊥) → pieces hay ≡ hay ∷ []
uncut hay none = pieces-last hay (ap has_none (sym (take-length hay)) ∙ none-before hay (length hay) none)
