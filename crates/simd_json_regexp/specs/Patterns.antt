-- Which regular expression a pattern is (RFC 9485, section 4). Each part is read at the front of a text, where there is room for so
-- many nodes: it gives what was read, the room that is left, and what is after it.
use Rattle.std.specs.Prelude.{ℕ, zero, suc, ◌+◌, ◌-◌, List, [], ◌∷◌, Bool, true, false, cond, ◌==◌, ◌||◌}
use Rattle.std.specs.Prelude.{Option, Some, None, Result, Ok, Err, nat_le}
use Rattle.std.specs.Option.{option_map_or}
use Rattle.std.specs.Str.{chars}
use Rattle.simd_json_regexp.specs.Characters.{after, begins_quantifier, bracket_item, first_item, item, quantifier}
use Rattle.simd_json_regexp.specs.Items.{allows}
use Rattle.simd_json_regexp.specs.Marks.{matches, size}
use Rattle.simd_json_regexp.specs.Nodes.{class, max_positions, other_class}
use Rattle.simd_json_regexp.specs.Regexps.{Regexp, empty, one, ◌then◌, ◌or◌, many}
use Rattle.simd_json_regexp.specs.declared.item.Item.{Item}
use Rattle.simd_json_regexp.specs.declared.item.Item.TheVariants as kinds
use Rattle.simd_json_regexp.specs.declared.node.Kind.TheVariants as kind
use Rattle.simd_json_regexp.specs.declared.node.Node.{Node}
use Rattle.simd_json_regexp.specs.declared.pattern.PatternError.{PatternError}
use Rattle.simd_json_regexp.specs.declared.pattern.PatternError.TheVariants.{NoPattern, TooLarge}

-- what is written, and the room that is left
abbrev pub Writing : Type 0
Writing = Result (Regexp × ℕ) PatternError

abbrev pub Reading : Type 0
Reading = Result (Regexp × ℕ × List ℕ) PatternError

abbrev pub and_write : Writing → (Regexp → ℕ → Writing) → Writing
and_write (Ok w) f = f w.0 w.1
and_write (Err e) f = Err e

abbrev pub and_read : Reading → (Regexp → ℕ → List ℕ → Reading) → Reading
and_read (Ok r) f = f r.0 r.1 r.2
and_read (Err e) f = Err e

abbrev pub with_text : Writing → List ℕ → Reading
with_text (Ok w) text = Ok (w.0, w.1, text)
with_text (Err e) text = Err e

-- a part takes a node, and has at most so many characters
abbrev pub added : Regexp → ℕ → Writing
added p zero = Err TooLarge
added p (suc room) = cond (nat_le (size p) max_positions) (Ok (p, room)) (Err TooLarge)

-- ---- quantifiers: at least so many copies, and at most so many

abbrev pub repeated : ℕ → Regexp → Regexp → ℕ → Writing
repeated zero p all room = Ok (all, room)
repeated (suc count) p all room = and_write (added (all then p) room) (λ more left. repeated count p more left)

abbrev pub further : ℕ → Option ℕ → Regexp → Regexp → Regexp → ℕ → Writing
further fewest None none p least room = and_write (added (many p) room) (λ more left. added (least then more) left)
further fewest (Some most) none p least room =
    and_write (added (none or p) room) (λ optional left. repeated (most - fewest) optional least left)

abbrev pub counted : ℕ → Option ℕ → Regexp → ℕ → Writing
counted fewest most p room =
    and_write (added empty room) (λ none left.
    and_write (repeated fewest p none left) (λ least left'. further fewest most none p least left'))

-- ---- classes in brackets: their items, of which the last one is written first

abbrev pub item_node : Item → Node
item_node i = record { kind = kind.One i; size = 1; takes_empty = false }

abbrev pub class_of : Bool → List Node → Regexp
class_of false = class
class_of true = other_class

abbrev pub Items : Type 0
Items = Result (List Node × ℕ × List ℕ) PatternError

abbrev pub item_then : Option (Item × List ℕ) → (Item → List ℕ → Items) → Items
item_then None f = Err NoPattern
item_then (Some r) f = f r.0 r.1

abbrev pub unless_ended : Option (List ℕ) → List Node → ℕ → Items → Items
unless_ended (Some rest) found room more = Ok (found, room, rest)
unless_ended None found room more = more

abbrev pub more_items : ℕ → List Node → List ℕ → Items
more_items zero found text = unless_ended (after 93 text) found zero (item_then (bracket_item text) (λ i rest. Err TooLarge))
more_items (suc room) found text =
    unless_ended (after 93 text) found (suc room)
    (item_then (bracket_item text) (λ i rest. more_items room (item_node i ∷ found) rest))

abbrev pub first_added : ℕ → Item → List ℕ → Items
first_added zero i rest = Err TooLarge
first_added (suc room) i rest = more_items room (item_node i ∷ []) rest

abbrev pub items : ℕ → List ℕ → Items
items room text = item_then (first_item text) (first_added room)

abbrev pub class_added : Bool → Items → Reading
class_added is_other (Ok r) = with_text (added (class_of is_other r.0) r.1) r.2
class_added is_other (Err e) = Err e

abbrev pub class_read : Bool → ℕ → List ℕ → Reading
class_read is_other room text = class_added is_other (items room text)

abbrev pub bracketed : ℕ → List ℕ → Reading
bracketed room text = option_map_or (class_read true room) (after 94 text) (class_read false room text)

-- ---- atoms and pieces, where `Group` reads what is in parentheses

abbrev pub one_added : ℕ → Option (Item × List ℕ) → Reading
one_added room None = Err NoPattern
one_added room (Some r) = with_text (added (one (allows r.0)) room) r.1

abbrev pub atom : (ℕ → List ℕ → Reading) → ℕ → List ℕ → Reading
atom group room [] = Err NoPattern
atom group room (c ∷ cs) = cond (c == 40) (group room cs) (cond (c == 91) (bracketed room cs) (one_added room (item (c ∷ cs))))

abbrev pub copies_added : Regexp → ℕ → Option (ℕ × Option ℕ × List ℕ) → Reading
copies_added p room None = Err NoPattern
copies_added p room (Some r) = with_text (counted r.0 r.1 p room) r.2

abbrev pub quantified : Regexp → ℕ → List ℕ → Reading
quantified p room [] = Ok (p, room, [])
quantified p room (c ∷ cs) = cond (begins_quantifier c) (copies_added p room (quantifier (c ∷ cs))) (Ok (p, room, c ∷ cs))

abbrev pub piece : (ℕ → List ℕ → Reading) → ℕ → List ℕ → Reading
piece group room text = and_read (atom group room text) quantified

-- ---- branches: pieces up to `|`, `)` or the end

abbrev pub ends_branch : List ℕ → Bool
ends_branch [] = true
ends_branch (c ∷ cs) = (c == 124) || (c == 41)

-- each piece takes a node, so that there are no more than there is room for
abbrev pub pieces : (ℕ → List ℕ → Reading) → ℕ → Regexp → ℕ → List ℕ → Reading
pieces group zero all room text = Err TooLarge
pieces group (suc fuel) all room text =
    cond (ends_branch text) (Ok (all, room, text))
    (and_read (piece group room text) (λ p left rest.
    and_read (with_text (added (all then p) left) rest) (pieces group fuel)))

abbrev pub branch : (ℕ → List ℕ → Reading) → ℕ → List ℕ → Reading
branch group room text =
    cond (ends_branch text) (with_text (added empty room) text)
    (and_read (piece group room text) (λ p left rest. pieces group (left + 1) p left rest))

-- ---- branches with `|` between them

abbrev pub unless_last : Option (List ℕ) → Reading → (List ℕ → Reading) → Reading
unless_last None all more = all
unless_last (Some rest) all more = more rest

abbrev pub more_branches : (ℕ → List ℕ → Reading) → ℕ → Regexp → ℕ → List ℕ → Reading
more_branches group zero all room text = Err TooLarge
more_branches group (suc fuel) all room text =
    unless_last (after 124 text) (Ok (all, room, text)) (λ others.
    and_read (branch group room others) (λ p left rest.
    and_read (with_text (added (all or p) left) rest) (more_branches group fuel)))

abbrev pub alternatives : (ℕ → List ℕ → Reading) → ℕ → List ℕ → Reading
alternatives group room text = and_read (branch group room text) (λ p left rest. more_branches group (left + 1) p left rest)

-- ---- groups, at most so deep

abbrev pub closed : Regexp → ℕ → Option (List ℕ) → Reading
closed p room None = Err NoPattern
closed p room (Some rest) = Ok (p, room, rest)

abbrev pub group : ℕ → ℕ → List ℕ → Reading
group zero room text = Err TooLarge
group (suc depth) room text = and_read (alternatives (group depth) room text) (λ p left rest. closed p left (after 41 rest))

abbrev pub max_nesting : ℕ
max_nesting = 100

-- ---- whole patterns

abbrev pub at_end : Regexp → ℕ → List ℕ → Writing
at_end p room [] = Ok (p, room)
at_end p room (c ∷ cs) = Err NoPattern

abbrev pub all_read : Reading → Writing
all_read (Ok r) = at_end r.0 r.1 r.2
all_read (Err e) = Err e

unfoldable pub pattern_of : ℕ → List ℕ → Writing
pattern_of room text = all_read (alternatives (group max_nesting) room text)

-- ---- some characters in a row (RFC 9535, section 2.4.7)

abbrev pub within_added : Regexp → ℕ → Writing
within_added p room =
    and_write (added (one (allows kinds.Any)) room) (λ one left.
    and_write (added (many one) left) (λ any left'.
    and_write (added (p then any) left') (λ end left''. added (any then end) left'')))

unfoldable pub pattern_within : ℕ → List ℕ → Writing
pattern_within room text = and_write (pattern_of room text) within_added

-- ---- what a pattern matches; a text that is none, or is beyond the limits, matches nothing

abbrev pub max_nodes : ℕ
max_nodes = 1024

abbrev pub matches_with : Writing → List ℕ → Bool
matches_with (Ok w) cs = matches w.0 cs
matches_with (Err e) cs = false

-- of texts in UTF-8: `match` (RFC 9535, section 2.4.6) and `search` (section 2.4.7)
abbrev pub is_match : List ℕ → List ℕ → Bool
is_match p text = matches_with (pattern_of max_nodes (chars p)) (chars text)

abbrev pub is_found : List ℕ → List ℕ → Bool
is_found p text = matches_with (pattern_within max_nodes (chars p)) (chars text)
