-- What the words of a command line ask for, by what was found in them.
use Rattle.std.specs.Prelude.{◌≡◌, ℕ, List, [], ◌∷◌, codes, Bool, false, bytes_eq, Option, None, Some, Result, Ok}
use Rattle.std.specs.Option.{option_map_or}
use Rattle.std.specs.Str.Parse.{digits_value, without_leading_plus}
use Rattle.clap.specs.Matches.{first_value, matched_of, raw_values}
use Rattle.clap.specs.declared.parser.matches.Found.{Found}

-- the option without a value is among the words
abbrev pub is_given : Found → List ℕ → Bool
is_given f name = option_map_or (bytes_eq (codes "true")) (first_value f name) false

-- the values of an argument, in order
abbrev pub texts_of : Found → List ℕ → List (List ℕ)
texts_of f name = option_map_or raw_values (matched_of f name) []

-- standard input, if no file is named
abbrev pub or_input : List (List ℕ) → List (List ℕ)
or_input [] = codes "-" ∷ []
or_input (name ∷ names) = name ∷ names

-- the value of an option, if it is given, as its type reads it
abbrev pub IsReadBy : {T E : Type 0} → (List ℕ → Result T E → Type 0) → Option (List ℕ) → Option T → Type 0
IsReadBy gives None value = value ≡ None
IsReadBy gives (Some text) None = ⊥
IsReadBy gives (Some text) (Some value) = gives text (Ok value)

-- the number that an option has, or else the default
abbrev pub number_or : ℕ → Option (List ℕ) → ℕ
number_or default None = default
number_or default (Some text) = digits_value 10 (without_leading_plus text)
