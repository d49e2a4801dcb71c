-- Characters of a pattern (RFC 9485, section 4), each with what is after it.
use Rattle.std.specs.Prelude.{ℕ, ◌+◌, ◌-◌, ◌*◌, List, [], ◌∷◌, Bool, cond, not, ◌==◌, ◌||◌, ◌&&◌, min, nat_le}
use Rattle.std.specs.Prelude.{Option, Some, None, is_some, option_map, option_and_then}
use denote.Ref.{Bor}
use Rattle.std.specs.Char.{is_ascii_digit}
use Rattle.std.specs.Option.{option_map_or}
use Rattle.std.specs.Str.{chars}
use Rattle.simd_json_regexp.specs.declared.item.Item.{Item}
use Rattle.simd_json_regexp.specs.declared.item.Item.TheVariants as kinds

-- what is after a character, if it is the first
abbrev pub after : ℕ → List ℕ → Option (List ℕ)
after c [] = None
after c (d ∷ cs) = cond (d == c) (Some cs) None

-- ( to +, ., ?, [ to ], { to }
abbrev pub is_special : ℕ → Bool
is_special c =
    (nat_le 40 c && nat_le c 43) || (c == 46) || (c == 63) || (nat_le 91 c && nat_le c 93) || (nat_le 123 c && nat_le c 125)

-- what a backslash before a character stands for
abbrev pub escaped : ℕ → Option ℕ
escaped c =
    cond (c == 110) (Some 10) (cond (c == 114) (Some 13) (cond (c == 116) (Some 9)
    (cond (is_special c || (c == 45) || (c == 94)) (Some c) None)))

abbrev pub escape : List ℕ → Option (ℕ × List ℕ)
escape [] = None
escape (c ∷ cs) = option_map (λ d. (d, cs)) (escaped c)

-- ---- categories: the numbers of L, M, N, P, S, Z and C, and of those with a second letter

abbrev pub group_numbers : ℕ → Option (ℕ × ℕ)
group_numbers c =
    cond (c == 76) (Some (0, 4)) (cond (c == 77) (Some (5, 7)) (cond (c == 78) (Some (8, 10)) (cond (c == 80) (Some (11, 17))
    (cond (c == 83) (Some (18, 21)) (cond (c == 90) (Some (22, 24)) (cond (c == 67) (Some (25, 29)) None))))))

-- u, l, t, m, o
abbrev pub letter_number : ℕ → Option ℕ
letter_number c =
    cond (c == 117) (Some 0) (cond (c == 108) (Some 1) (cond (c == 116) (Some 2)
    (cond (c == 109) (Some 3) (cond (c == 111) (Some 4) None))))

-- n, c, e
abbrev pub mark_number : ℕ → Option ℕ
mark_number c = cond (c == 110) (Some 5) (cond (c == 99) (Some 6) (cond (c == 101) (Some 7) None))

-- d, l, o
abbrev pub number_number : ℕ → Option ℕ
number_number c = cond (c == 100) (Some 8) (cond (c == 108) (Some 9) (cond (c == 111) (Some 10) None))

-- c, d, s, e, i, f, o
abbrev pub punctuation_number : ℕ → Option ℕ
punctuation_number c =
    cond (c == 99) (Some 11) (cond (c == 100) (Some 12) (cond (c == 115) (Some 13) (cond (c == 101) (Some 14)
    (cond (c == 105) (Some 15) (cond (c == 102) (Some 16) (cond (c == 111) (Some 17) None))))))

-- m, c, k, o
abbrev pub symbol_number : ℕ → Option ℕ
symbol_number c = cond (c == 109) (Some 18) (cond (c == 99) (Some 19) (cond (c == 107) (Some 20) (cond (c == 111) (Some 21) None)))

-- s, l, p
abbrev pub separator_number : ℕ → Option ℕ
separator_number c = cond (c == 115) (Some 22) (cond (c == 108) (Some 23) (cond (c == 112) (Some 24) None))

-- c, f, o, n
abbrev pub other_number : ℕ → Option ℕ
other_number c = cond (c == 99) (Some 25) (cond (c == 102) (Some 26) (cond (c == 111) (Some 28) (cond (c == 110) (Some 29) None)))

abbrev pub category_number : ℕ → ℕ → Option ℕ
category_number group c =
    cond (group == 76) (letter_number c) (cond (group == 77) (mark_number c) (cond (group == 78) (number_number c)
    (cond (group == 80) (punctuation_number c) (cond (group == 83) (symbol_number c) (cond (group == 90) (separator_number c)
    (cond (group == 67) (other_number c) None))))))

-- after the first letter of a name: `}`, or a second letter and `}`
abbrev pub second_letter : ℕ → List ℕ → Option ((ℕ × ℕ) × List ℕ)
second_letter group [] = None
second_letter group (c ∷ cs) =
    cond (c == 125) (option_map (λ ns. (ns, cs)) (group_numbers group))
    (option_and_then (λ n. option_map (λ rest. ((n, n), rest)) (after 125 cs)) (category_number group c))

abbrev pub name : List ℕ → Option ((ℕ × ℕ) × List ℕ)
name [] = None
name (c ∷ cs) = second_letter c cs

-- `\p{..}` or `\P{..}` without the first two characters
abbrev pub category : (ℕ → ℕ → Item) → List ℕ → Option (Item × List ℕ)
category of text = option_and_then (λ rest. option_map (λ r. (of r.0.0 r.0.1, r.1)) (name rest)) (after 123 text)

-- after a backslash: a category, else `others`
abbrev pub category_or : Option (Item × List ℕ) → List ℕ → Option (Item × List ℕ)
category_or others [] = others
category_or others (c ∷ cs) = cond (c == 112) (category kinds.Category cs) (cond (c == 80) (category kinds.OtherCategory cs) others)

-- ---- one character outside brackets

abbrev pub one_item : Option (ℕ × List ℕ) → Option (Item × List ℕ)
one_item found = option_map (λ r. (kinds.Range r.0 r.0, r.1)) found

abbrev pub item : List ℕ → Option (Item × List ℕ)
item [] = None
item (c ∷ cs) =
    cond (c == 46) (Some (kinds.InLine, cs))
    (cond (c == 92) (category_or (one_item (escape cs)) cs) (cond (is_special c) None (Some (kinds.Range c c, cs))))

-- ---- in brackets

-- -, [ to ]
abbrev pub is_bracket : ℕ → Bool
is_bracket c = (c == 45) || (nat_le 91 c && nat_le c 93)

abbrev pub character : List ℕ → Option (ℕ × List ℕ)
character [] = None
character (c ∷ cs) = cond (c == 92) (escape cs) (cond (is_bracket c) None (Some (c, cs)))

-- the last character of a range, which is no less than the first
abbrev pub range_to : ℕ → List ℕ → Option (Item × List ℕ)
range_to low text = option_and_then (λ r. cond (nat_le low r.0) (Some (kinds.Range low r.0, r.1)) None) (character text)

-- a character, or with `-` and another one a range; before `]` a `-` is a character
abbrev pub after_low : ℕ → List ℕ → Option (Item × List ℕ)
after_low low [] = Some (kinds.Range low low, [])
after_low low (c ∷ cs) =
    cond ((c == 45) && not (is_some (after 93 cs))) (range_to low cs) (Some (kinds.Range low low, c ∷ cs))

abbrev pub range : List ℕ → Option (Item × List ℕ)
range text = option_and_then (λ r. after_low r.0 r.1) (character text)

abbrev pub hyphen : Item
hyphen = kinds.Range 45 45

abbrev pub bracket_item : List ℕ → Option (Item × List ℕ)
bracket_item [] = None
bracket_item (c ∷ cs) =
    cond (c == 92) (category_or (range (c ∷ cs)) cs)
    (cond ((c == 45) && is_some (after 93 cs)) (Some (hyphen, cs)) (range (c ∷ cs)))

-- the first one may be `-`
abbrev pub first_item : List ℕ → Option (Item × List ℕ)
first_item [] = None
first_item (c ∷ cs) = cond (c == 45) (Some (hyphen, cs)) (bracket_item (c ∷ cs))

-- ---- counts

abbrev pub max_count : ℕ
max_count = 9999

-- decimal digits after a number; more than `max_count` is that
abbrev pub more_digits : ℕ → List ℕ → ℕ × List ℕ
more_digits n [] = (n, [])
more_digits n (c ∷ cs) = cond (is_ascii_digit c) (more_digits (min (10 * n + (c - 48)) max_count) cs) (n, c ∷ cs)

abbrev pub count : List ℕ → Option (ℕ × List ℕ)
count [] = None
count (c ∷ cs) = cond (is_ascii_digit c) (Some (more_digits (c - 48) cs)) None

-- after the second count of `{n,m}`
abbrev pub up_to : ℕ → ℕ × List ℕ → Option (ℕ × Option ℕ × List ℕ)
up_to least r = option_and_then (λ rest. cond (nat_le least r.0) (Some (least, Some r.0, rest)) None) (after 125 r.1)

-- after `{n,`
abbrev pub comma : ℕ → List ℕ → Option (ℕ × Option ℕ × List ℕ)
comma least text = option_map_or (λ rest. Some (least, None, rest)) (after 125 text) (option_and_then (up_to least) (count text))

-- after the first count: `}`, or `,` and more
abbrev pub count_end : ℕ × List ℕ → Option (ℕ × Option ℕ × List ℕ)
count_end r = option_map_or (λ rest. Some (r.0, Some r.0, rest)) (after 125 r.1) (option_and_then (comma r.0) (after 44 r.1))

-- after `{`
abbrev pub braces : List ℕ → Option (ℕ × Option ℕ × List ℕ)
braces text = option_and_then count_end (count text)

abbrev pub begins_quantifier : ℕ → Bool
begins_quantifier c = (c == 42) || (c == 43) || (c == 63) || (c == 123)

-- how many copies at least, how many at most
abbrev pub quantifier : List ℕ → Option (ℕ × Option ℕ × List ℕ)
quantifier [] = None
quantifier (c ∷ cs) =
    cond (c == 42) (Some (0, None, cs)) (cond (c == 43) (Some (1, None, cs)) (cond (c == 63) (Some (0, Some 1, cs)) (braces cs)))

-- ---- what is read of a text

abbrev pub text_of : Bor (List ℕ) → List ℕ
text_of r = chars r.now

abbrev pub read : {A : Type 0} → A × Bor (List ℕ) → A × List ℕ
read r = (r.0, chars r.1.now)

abbrev pub read_count : ℕ × Option ℕ × Bor (List ℕ) → ℕ × Option ℕ × List ℕ
read_count r = (r.0, r.1, chars r.2.now)
