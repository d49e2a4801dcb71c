-- What may follow a marked character.
use Rattle.std.proofs.Common.{◌≡◌, ℕ, List, take, drop, Bool, true, cond, ◌⊎◌}
use Rattle.simd_json_regexp.specs.Regexps.{Regexp, never, empty, one, ◌then◌, ◌or◌, many, Matches}
use Rattle.simd_json_regexp.specs.Marks.{size, first_mark}

abbrev pub left : Regexp → List Bool → Regexp
left never ms = never
left empty ms = never
left (one is_kind) ms = cond (first_mark ms) empty never
left (p then q) ms = (left p (take (size p) ms) then q) or left q (drop (size p) ms)
left (p or q) ms = left p (take (size p) ms) or left q (drop (size p) ms)
left (many p) ms = left p ms then many p

-- what may follow, where `enters` from the beginning too
abbrev pub Follows : Regexp → Bool → List Bool → List ℕ → Type 0
Follows p enters ms cs = ((enters ≡ true) × Matches p cs) ⊎ Matches (left p ms) cs
