-- A regular expression of which some characters are marked: those that the last character read may have been.
use Rattle.std.specs.Prelude.{ℕ, ◌+◌, List, [], ◌∷◌, ◌++◌, take, drop, replicate, Bool, true, false, ◌&&◌, ◌||◌}
use Rattle.simd_json_regexp.specs.Regexps.{Regexp, never, empty, one, ◌then◌, ◌or◌, many}

-- how many characters it has
abbrev pub size : Regexp → ℕ
size never = 0
size empty = 0
size (one is_kind) = 1
size (p then q) = size p + size q
size (p or q) = size p + size q
size (many p) = size p

-- it matches the empty list
abbrev pub takes_empty : Regexp → Bool
takes_empty never = false
takes_empty empty = true
takes_empty (one is_kind) = false
takes_empty (p then q) = takes_empty p && takes_empty q
takes_empty (p or q) = takes_empty p || takes_empty q
takes_empty (many p) = true

abbrev pub first_mark : List Bool → Bool
first_mark [] = false
first_mark (m ∷ ms) = m

-- a marked character may be the last one
abbrev pub is_last : Regexp → List Bool → Bool
is_last never ms = false
is_last empty ms = false
is_last (one is_kind) ms = first_mark ms
is_last (p then q) ms = (is_last p (take (size p) ms) && takes_empty q) || is_last q (drop (size p) ms)
is_last (p or q) ms = is_last p (take (size p) ms) || is_last q (drop (size p) ms)
is_last (many p) ms = is_last p ms

-- the marks after a character that follows one that is marked, or that comes first where `enters`
abbrev pub after : Regexp → Bool → ℕ → List Bool → List Bool
after never enters c ms = []
after empty enters c ms = []
after (one is_kind) enters c ms = (enters && is_kind c) ∷ []
after (p then q) enters c ms =
    after p enters c (take (size p) ms)
    ++ after q ((enters && takes_empty p) || is_last p (take (size p) ms)) c (drop (size p) ms)
after (p or q) enters c ms = after p enters c (take (size p) ms) ++ after q enters c (drop (size p) ms)
after (many p) enters c ms = after p (enters || is_last p ms) c ms

-- whether these characters may follow a marked one, or where `enters` come first
abbrev pub accepts : Regexp → Bool → List Bool → List ℕ → Bool
accepts p enters ms [] = (enters && takes_empty p) || is_last p ms
accepts p enters ms (c ∷ cs) = accepts p false (after p enters c ms) cs

-- the whole list matches, as each of its characters is read once
unfoldable pub matches : Regexp → List ℕ → Bool
matches p cs = accepts p true (replicate (size p) false) cs
