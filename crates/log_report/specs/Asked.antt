-- Which keys and JSON Pointers lines count by.
use Rattle.std.specs.Prelude.{◌≡◌, ◌⊎◌, ℕ, List, [], ◌∷◌, ◌++◌, codes, map, Bool, true, false, ◌==◌, ◌||◌, if◌then◌else◌, nat_lt}
use Rattle.std.specs.Prelude.{Option, None, Some, is_some, option_and_then, slice_get}
use Rattle.std.specs.Borrow.{Bor}
use Rattle.clap.specs.Kinds.{Kinds}
use Rattle.clap.specs.Matches.{first_value, matched_of}
use Rattle.clap.specs.declared.error.kind.ErrorKind.TheVariants.{ValueValidation}
use Rattle.clap.specs.declared.parser.matches.Found.{Found}
use Rattle.simd_json_parts.specs.Bytes.{slash}
use Rattle.simd_json_parts.specs.Pointed.{is_pointer}
use Rattle.programs.specs.Asked.{is_given, number_or, or_input, texts_of}
use Rattle.log_report.specs.declared.options.Options.{Options}
use Rattle.log_report.specs.declared.rows.Selector.{Selector}
use Rattle.log_report.specs.declared.rows.Selector.TheVariants.{Key, Pointer}

-- paths of jq begin with `.`, and JSONPaths with `$`
abbrev pub begins_path : ℕ → Bool
begins_path c = (c == 36) || (c == 46)

-- A word that begins with `/` is a JSON Pointer, unless it is malformed; one that looks like another path is nothing; any other is
-- a key.
abbrev pub selector_by : Bor (List ℕ) → List ℕ → Option Selector
selector_by word [] = Some (Key word)
selector_by word (c ∷ s) =
    if c == slash then (if is_pointer (c ∷ s) then Some (Pointer word) else None)
    else if begins_path c then None
    else Some (Key word)

abbrev pub selector_of : Bor (List ℕ) → Option Selector
selector_of word = selector_by word word.now

-- what one lacks that is nothing
abbrev pub unread_text : List ℕ → List ℕ
unread_text [] = []
unread_text (c ∷ s) =
    if c == slash then codes "expected 0 or 1 after each ~"
    else codes "log_report counts by a key or a JSON Pointer: level, /level; --key takes any key"

abbrev pub selector_faults : Bor (List ℕ) → Kinds
selector_faults word = if is_some (selector_of word) then [] else ValueValidation ∷ []

-- no malformed JSON Pointer
abbrev pub is_selector : Selector → Bool
is_selector (Key key) = true
is_selector (Pointer pointer) = is_pointer pointer.now

-- where among the words the first value of an argument is
abbrev pub place_of : Found → List ℕ → Option ℕ
place_of f name = option_and_then (λ a. slice_get a.indices.items 0) (matched_of f name)

abbrev pub is_before : Option ℕ → Option ℕ → Bool
is_before (Some m) (Some n) = nat_lt m n
is_before m n = false

abbrev pub begins_with_key : Found → Bool
begins_with_key f = is_before (place_of f (codes "key")) (place_of f (codes "word"))

-- the selector of a word
abbrev pub IsOfWord : List ℕ → Selector → Type 0
IsOfWord text selector = (word : Bor (List ℕ)) × (word.now ≡ text) × (Some selector ≡ selector_of word)

-- that of any key
abbrev pub IsOfKey : List ℕ → Selector → Type 0
IsOfKey text selector = (key : Bor (List ℕ)) × (key.now ≡ text) × (selector ≡ Key key)

-- the selectors of words and of keys, with each of the two in their order
abbrev pub AreOf : List (List ℕ) → List (List ℕ) → List Selector → Type 0
AreOf words keys [] = (words ≡ []) × (keys ≡ [])
AreOf words keys (s ∷ selectors) =
    ((text : List ℕ) × (more : List (List ℕ)) × (words ≡ text ∷ more) × IsOfWord text s × AreOf more keys selectors)
    ⊎ ((text : List ℕ) × (more : List (List ℕ)) × (keys ≡ text ∷ more) × IsOfKey text s × AreOf words more selectors)

abbrev pub optional : Option (List ℕ) → List (List ℕ)
optional None = []
optional (Some text) = text ∷ []

-- the first word, unless it is a file, and then the values of --and
abbrev pub first_words : Found → List (List ℕ)
first_words f = if begins_with_key f then [] else optional (first_value f (codes "word"))

abbrev pub words_of : Found → List (List ℕ)
words_of f = first_words f ++ texts_of f (codes "and")

-- the first word is a file after --key
abbrev pub files_of : Found → List (List ℕ)
files_of f = or_input ((if begins_with_key f then texts_of f (codes "word") else []) ++ texts_of f (codes "file"))

pub record HasOptions (f : Found) (o : Options) : Type 0 where
  pub selectors : AreOf (words_of f) (texts_of f (codes "key")) o.selectors.items
  pub tsv : o.is_tsv ≡ is_given f (codes "tsv")
  pub values : o.values ≡ number_or 1024 (first_value f (codes "values"))
  pub longest : o.longest ≡ number_or 65536 (first_value f (codes "longest"))
  pub files : map (λ name. name.now) o.files.items ≡ files_of f
