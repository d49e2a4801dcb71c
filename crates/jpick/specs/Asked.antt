-- What the words of a command line ask for, by what was found in them.
use Rattle.std.specs.Prelude.{◌≡◌, ℕ, List, [], ◌∷◌, ◌++◌, codes, map, Bool, true, false, not, ◌&&◌, ◌||◌, bytes_eq, ◌==◌}
use Rattle.std.specs.Prelude.{if◌then◌else◌, is_some, Option, None, Some, ⊤}
use Rattle.std.specs.List.{AllZip}
use Rattle.std.specs.Option.{option_map_or}
use Rattle.clap.specs.Matches.{first_value, matched_of, raw_values}
use Rattle.clap.specs.declared.parser.matches.Found.{Found}
use Rattle.jpick.specs.declared.fields.Layout.{Layout}
use Rattle.jpick.specs.declared.fields.Layout.TheVariants.{Tabs, Tsv, Csv, Json}
use Rattle.jpick.specs.declared.fields.Wanted.{Wanted}
use Rattle.jpick.specs.declared.options.Options.{Options}
use Rattle.jpick.specs.declared.query.Query.{Query}
use Rattle.jpick.specs.declared.query.Query.TheVariants as query
use Rattle.simd_json_parts.specs.Bytes.{slash}
use Rattle.simd_json_path.specs.declared.filter.Filter.{Filter}
use Rattle.simd_json_query.specs.Queries as path
use Rattle.simd_json_query.specs.Steps.{dollar}

-- the option without a value is among the words
abbrev pub is_given : Found → List ℕ → Bool
is_given f name = option_map_or (bytes_eq (codes "true")) (first_value f name) false

-- by --tsv, --csv and --json, of which at most one may be given
abbrev pub layout_of : Bool → Bool → Bool → Layout
layout_of true csv json = Tsv
layout_of false true json = Csv
layout_of false false true = Json
layout_of false false false = Tabs

-- the values of an argument, in order
abbrev pub texts_of : Found → List ℕ → List (List ℕ)
texts_of f name = option_map_or raw_values (matched_of f name) []

-- it is empty, or begins as a JSON Pointer or a JSONPath does
abbrev pub begins_query : List ℕ → Bool
begins_query [] = true
begins_query (x ∷ xs) = (x == slash) || (x == dollar)

-- it may be left out where lines are filtered, values are printed over several lines, or there are rows of each of some
abbrev pub may_be_left_out : Found → Bool
may_be_left_out f =
    is_given f (codes "pretty") || is_some (first_value f (codes "where")) || is_some (first_value f (codes "each"))

-- the first word is a file then, if there is one
abbrev pub is_left_out : Found → Bool
is_left_out f = may_be_left_out f && not (option_map_or begins_query (first_value f (codes "query")) false)

-- a query that is left out selects the whole value
abbrev pub first_query : Found → List (List ℕ)
first_query f = if is_left_out f then [] ∷ [] else texts_of f (codes "query")

-- standard input, if no file is named
abbrev pub or_input : List (List ℕ) → List (List ℕ)
or_input [] = codes "-" ∷ []
or_input (name ∷ names) = name ∷ names

abbrev pub files_of : Found → List (List ℕ)
files_of f = or_input ((if is_left_out f then texts_of f (codes "query") else []) ++ texts_of f (codes "file"))

-- a JSONPath begins with `$`, and a JSON Pointer does not
abbrev pub is_path : List ℕ → Bool
is_path [] = false
is_path (x ∷ xs) = x == dollar

-- it is that of the text
abbrev pub IsQueryOf : Query → List ℕ → Type 0
IsQueryOf (query.Pointer pointer) text = (pointer.now ≡ text) × (is_path text ≡ false)
IsQueryOf (query.Path written p) text = (written.now ≡ text) × path.Query p.steps.now p.segments.now text

-- of an option that need not be given
abbrev pub IsEachOf : Option Query → Option (List ℕ) → Type 0
IsEachOf None None = ⊤
IsEachOf (Some q) (Some text) = IsQueryOf q text
IsEachOf _ _ = ⊥

abbrev pub IsFilterOf : Filter → List ℕ → Type 0
IsFilterOf filter text = path.FilterText filter.test.now text

-- what the options without a value ask for
abbrev pub with_flags : Found → Wanted → Wanted
with_flags f w = record w {
  layout = layout_of (is_given f (codes "tsv")) (is_given f (codes "csv")) (is_given f (codes "json"));
  is_raw = is_given f (codes "raw");
  is_pretty = is_given f (codes "pretty");
  has_sorted_keys = is_given f (codes "sort-keys");
  needs_all = is_given f (codes "exit-status") || is_given f (codes "all");
  is_quiet = is_given f (codes "quiet");
  is_document = is_given f (codes "document");
}

pub record HasOptions (f : Found) (o : Options) : Type 0 where
  pub each : IsEachOf o.wanted.each (first_value f (codes "each"))
  pub queries : AllZip IsQueryOf o.wanted.queries.now (first_query f ++ texts_of f (codes "and"))
  pub filters : AllZip IsFilterOf o.wanted.filters.now (texts_of f (codes "where"))
  pub flags : o.wanted ≡ with_flags f o.wanted
  pub header : o.has_header ≡ is_given f (codes "header")
  pub rows : o.needs_rows ≡ is_given f (codes "exit-status")
  pub files : map (λ name. name.now) o.files.items ≡ files_of f
