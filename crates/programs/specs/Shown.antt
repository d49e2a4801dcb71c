-- A text as it is printed: a terminal would obey its control characters.
use Rattle.std.specs.Prelude.{ℕ, ◌/◌, List, [], ◌∷◌, encode_utf8, flat_map, if◌then◌else◌}
use Rattle.std.specs.Char.{is_control}
use Rattle.std.specs.Char.Escape.{backslash, hex_digit_at}
use Rattle.std.specs.Str.{chars}

-- `\x1b`, which has room for each of them
abbrev pub escape : ℕ → List ℕ
escape c = backslash ∷ 120 ∷ hex_digit_at 1 (c / 16) ∷ hex_digit_at 1 c ∷ []

abbrev pub shown : ℕ → List ℕ
shown c = if is_control c then escape c else c ∷ []

abbrev pub shown_characters : List ℕ → List ℕ
shown_characters cs = flat_map encode_utf8 (flat_map shown cs)

abbrev pub shown_text : List ℕ → List ℕ
shown_text s = shown_characters (chars s)
