-- Characters that are read one after the other.
use Rattle.std.proofs.Common.{◌≡◌, refl, inl, inr, ℕ, List, [], ◌∷◌, replicate, Bool, true, false, ◌&&◌, take, drop}
use Rattle.std.specs.List.{All}
use Rattle.std.proofs.lemmas.Bool.{and_parts, and_from, or_cases, or_left, or_right}
use Rattle.std.proofs.lemmas.List.Elements.{All-head, All-take, All-drop, All-replicate}
use Rattle.simd_json_regexp.specs.Regexps.{Regexp, never, empty, one, ◌then◌, ◌or◌, many, Matches}
use Rattle.simd_json_regexp.specs.Marks.{accepts, matches, size, takes_empty, is_last, after}
use Rattle.simd_json_regexp.proofs.Left.{left, Follows}
use Rattle.simd_json_regexp.proofs.Empty.{Matches-takes_empty, takes_empty-Matches}
use Rattle.simd_json_regexp.proofs.Marked.{after-Follows, Follows-after, is_last-Matches, Matches-is_last}

accepts-Follows : (p : Regexp) (e : Bool) (ms : List Bool) (cs : List ℕ) → accepts p e ms cs ≡ true → Follows p e ms cs
accepts-Follows p e ms [] h = elim (or_cases (e && takes_empty p) (is_last p ms) h) [
  | inl h ↦ inl ((and_parts _ _ h).0, takes_empty-Matches p (and_parts _ _ h).1)
  | inr h ↦ inr (is_last-Matches p ms h)
]
accepts-Follows p e ms (c ∷ cs) h = elim (accepts-Follows p false (after p e c ms) cs h) [
  | inl m ↦ cc (m.0)
  | inr m ↦ after-Follows p e c ms cs m
]

Follows-accepts : (p : Regexp) (e : Bool) (ms : List Bool) (cs : List ℕ) → Follows p e ms cs → accepts p e ms cs ≡ true
Follows-accepts p e ms [] (inl f) = or_left _ _ (and_from _ _ f.0 (Matches-takes_empty p f.1))
Follows-accepts p e ms [] (inr f) = or_right (e && takes_empty p) _ (Matches-is_last p ms f)
Follows-accepts p e ms (c ∷ cs) f = Follows-accepts p false (after p e c ms) cs (inr (Follows-after p e c ms cs f))

-- without marks nothing is left
unmarked : (p : Regexp) (ms : List Bool) (w : List ℕ) → All (λ m. m ≡ false) ms → Matches (left p ms) w → ⊥
unmarked never ms w none m = m
unmarked empty ms w none m = m
unmarked (one is_kind) [] w none m = m
unmarked (one is_kind) (true ∷ ms) w none m = let h : true ≡ false = All-head (λ b. b ≡ false) true ms none in cc
unmarked (one is_kind) (false ∷ ms) w none m = m
unmarked (p then q) ms w none (inl (u, v, same, mp, mq)) = unmarked p (take (size p) ms) u (All-take (λ b. b ≡ false) (size p) ms none) mp
unmarked (p then q) ms w none (inr m) = unmarked q (drop (size p) ms) w (All-drop (λ b. b ≡ false) (size p) ms none) m
unmarked (p or q) ms w none (inl m) = unmarked p (take (size p) ms) w (All-take (λ b. b ≡ false) (size p) ms none) m
unmarked (p or q) ms w none (inr m) = unmarked q (drop (size p) ms) w (All-drop (λ b. b ≡ false) (size p) ms none) m
unmarked (many p) ms w none (u, v, same, mp, mq) = unmarked p ms u none mp

all-false : (n : ℕ) → All (λ m. m ≡ false) (replicate n false)
all-false n = All-replicate (λ m. m ≡ false) n false refl

pub matches-Matches : (p : Regexp) (cs : List ℕ) → matches p cs ≡ true → Matches p cs
unfolding matches
matches-Matches p cs h = elim (accepts-Follows p true (replicate (size p) false) cs h) [
  | inl m ↦ m.1
  | inr m ↦ absurd (unmarked p (replicate (size p) false) cs (all-false (size p)) m)
]

pub Matches-matches : (p : Regexp) (cs : List ℕ) → Matches p cs → matches p cs ≡ true
unfolding matches
Matches-matches p cs m = Follows-accepts p true (replicate (size p) false) cs (inl (refl, m))
