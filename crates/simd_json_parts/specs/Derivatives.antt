-- Patterns as tests that compute, by Brzozowski's derivatives. That they agree with the sets is a law. Faults rest
-- on it.
use Rattle.std.specs.Prelude.{ℕ, suc, List, [], ◌∷◌, Bool, true, false, cond, ◌&&◌, ◌||◌, nat_le}
use Rattle.simd_json_parts.specs.Patterns.{Pattern, never, empty, range, ◌then◌, ◌or◌, many}

-- the empty list is in the set
abbrev pub takes_empty : Pattern → Bool
takes_empty never = false
takes_empty empty = true
takes_empty (range low high) = false
takes_empty (p then q) = takes_empty p && takes_empty q
takes_empty (p or q) = takes_empty p || takes_empty q
takes_empty (many p) = true

-- some list is in the set
abbrev pub is_possible : Pattern → Bool
is_possible never = false
is_possible empty = true
is_possible (range low high) = nat_le low high
is_possible (p then q) = is_possible p && is_possible q
is_possible (p or q) = is_possible p || is_possible q
is_possible (many p) = true

-- `then` and `or`, with what is plainly empty left out
abbrev pub follow : Pattern → Pattern → Pattern
follow never q = never
follow empty q = q
follow p q = p then q

abbrev pub either : Pattern → Pattern → Pattern
either never q = q
either p never = p
either p q = p or q

-- what may follow the byte c
abbrev pub derivative : ℕ → Pattern → Pattern
derivative c never = never
derivative c empty = never
derivative c (range low high) = cond (nat_le low c && nat_le c high) empty never
derivative c (p then q) = either (follow (derivative c p) q) (cond (takes_empty p) (derivative c q) never)
derivative c (p or q) = either (derivative c p) (derivative c q)
derivative c (many p) = follow (derivative c p) (many p)

-- the list is in the set
abbrev pub matches : Pattern → List ℕ → Bool
matches p [] = takes_empty p
matches p (c ∷ bs) = matches (derivative c p) bs

-- the length of the longest prefix that goes on to a list of the set
abbrev pub longest_prefix : Pattern → List ℕ → ℕ
longest_prefix p [] = 0
longest_prefix p (c ∷ bs) = cond (is_possible (derivative c p)) (suc (longest_prefix (derivative c p) bs)) 0
