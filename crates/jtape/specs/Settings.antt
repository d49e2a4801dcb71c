-- What the words after the program's name ask for.
use Rattle.std.specs.Prelude.{ℕ, ◌^◌, List, [], ◌∷◌, length, codes, bytes_eq, Option, Some, None, option_map, option_and_then, ◌&&◌, nat_lt}
use Rattle.std.specs.Prelude.{if◌then◌else◌}
use Rattle.std.specs.Char.{is_ascii_digit}
use Rattle.std.specs.List.{list_all}
use Rattle.std.specs.Str.Parse.{digits_value}
use Rattle.jtape.specs.declared.words.Mode.{Mode}
use Rattle.jtape.specs.declared.words.Mode.TheVariants.{Tape, Positions, Compact, Pretty, Lines}
use Rattle.simd_json_stages.specs.Capacities.{default_max_depth}

abbrev pub mode_of : List ℕ → Option Mode
mode_of word =
    if bytes_eq word (codes "tape") then Some Tape
    else if bytes_eq word (codes "positions") then Some Positions
    else if bytes_eq word (codes "compact") then Some Compact
    else if bytes_eq word (codes "pretty") then Some Pretty
    else if bytes_eq word (codes "lines") then Some Lines
    else None

-- one digit or more, of a number below 2^64
abbrev pub word_number : List ℕ → Option ℕ
word_number word =
    if list_all is_ascii_digit word && nat_lt 0 (length word) && nat_lt (digits_value 10 word) (2 ^ 64) then Some (digits_value 10 word)
    else None

-- a mode, and a depth limit after it or not
abbrev pub settings_of : List (List ℕ) → Option (Mode × ℕ)
settings_of (mode ∷ []) = option_map (λ m. (m, default_max_depth)) (mode_of mode)
settings_of (mode ∷ depth ∷ []) = option_and_then (λ m. option_map (λ d. (m, d)) (word_number depth)) (mode_of mode)
settings_of _ = None
