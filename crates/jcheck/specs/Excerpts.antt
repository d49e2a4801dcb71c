-- The text of a line around a place, and a caret under it.
use Rattle.std.specs.Prelude.{ℕ, zero, suc, ◌-◌, ◌/◌, List, [], ◌∷◌, ◌++◌, flat_map, min, drop, count_by, codes, nat_le, nat_lt}
use Rattle.std.specs.Prelude.{encode_utf8}
use Rattle.std.specs.Prelude.{Bool, true, false, ◌==◌, if◌then◌else◌}
use Rattle.std.specs.Char.{is_control}
use Rattle.std.specs.List.{before_first, repeat}
use Rattle.std.specs.Str.{chars}
use Rattle.std.specs.Str.Lossy.{utf8_lossy}
use Rattle.jcheck.specs.declared.excerpt.Style.{Style}
use Rattle.simd_json_check.specs.Locations.{begins_character, is_line_feed, line_before}
use Rattle.simd_json_parts.specs.Bytes.{line_feed, space}
use Rattle.unicode_width.specs.Width.{str_width}

-- ---- characters, by the bytes that begin one

abbrev pub begun : ℕ → ℕ
begun x = if begins_character x then 1 else 0

abbrev pub characters : List ℕ → ℕ
characters s = count_by begins_character s

-- the longest beginning with at most n of them
abbrev pub first_characters : ℕ → List ℕ → List ℕ
first_characters n [] = []
first_characters n (x ∷ s) = if nat_lt n (begun x) then [] else x ∷ first_characters (n - begun x) s

-- the shortest end with n of them, or all where there are fewer
abbrev pub last_characters : ℕ → List ℕ → List ℕ
last_characters n [] = []
last_characters n (x ∷ s) = if nat_le n (characters s) then last_characters n s else x ∷ s

-- ---- how they are shown

-- a control character as a space, and a byte order mark, which a terminal does not show, by its number
abbrev pub visible : ℕ → List ℕ
visible c = if is_control c then space ∷ [] else if c == 0xfeff then codes "<U+FEFF>" else encode_utf8 c

abbrev pub visible_text : List ℕ → List ℕ
visible_text cs = flat_map visible cs

-- what is not UTF-8 as U+FFFD
abbrev pub lossy_text : List ℕ → List ℕ
lossy_text s = visible_text (chars (utf8_lossy s))

-- U+2026, in place of what is cut
abbrev pub ellipsis : List ℕ
ellipsis = 0xe2 ∷ 0x80 ∷ 0xa6 ∷ []

-- the end of a text, in at most n characters
abbrev pub end_text : ℕ → List ℕ → List ℕ
end_text zero s = []
end_text (suc n) s = if nat_le (characters s) (suc n) then lossy_text s else ellipsis ++ lossy_text (last_characters n s)

-- its beginning
abbrev pub front_text : ℕ → List ℕ → List ℕ
front_text zero s = []
front_text (suc n) s = if nat_le (characters s) (suc n) then lossy_text s else lossy_text (first_characters n s) ++ ellipsis

-- ---- what is shown around byte i: at most `width` characters of its line, half of them before it

-- what stands in its line from byte i on
abbrev pub line_from : List ℕ → ℕ → List ℕ
line_from b i = before_first is_line_feed (drop i b)

-- how many characters are shown before it
abbrev pub indent : ℕ → List ℕ → ℕ → ℕ
indent width b i = min (characters (line_before b i)) (width / 2)

-- bold and red, if it is colored
abbrev pub caret : Bool → List ℕ
caret false = codes "^"
caret true = (0x1b ∷ codes "[1;31m^") ++ (0x1b ∷ codes "[m")

-- a line of text, and a line with a caret under byte i, after as many columns of a terminal as the text before it takes
abbrev pub excerpt : Style → List ℕ → ℕ → List ℕ
excerpt style b i =
    let before = end_text (style.width / 2) (line_before b i) in
    before ++ front_text (style.width - indent style.width b i) (line_from b i) ++ (line_feed ∷ [])
    ++ repeat (str_width false (chars before)) (space ∷ []) ++ caret style.is_colored ++ (line_feed ∷ [])
