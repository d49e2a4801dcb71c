-- What the words of a command line ask for, by what was found in them.
use Rattle.std.specs.Prelude.{◌≡◌, ℕ, List, codes, map, Bool, true, false, bytes_eq, Option, None, Some, if◌then◌else◌}
use Rattle.clap.specs.Matches.{first_value}
use Rattle.clap.specs.declared.parser.matches.Found.{Found}
use Rattle.jcheck.specs.declared.options.Options.{Options}
use Rattle.programs.specs.Asked.{is_given, number_or, or_input, texts_of}

-- whether the caret is red, by the word of --color, if that says it
abbrev pub color_of : Option (List ℕ) → Option Bool
color_of None = None
color_of (Some word) =
    if bytes_eq word (codes "always") then Some true
    else if bytes_eq word (codes "never") then Some false
    else None

pub record HasOptions (f : Found) (o : Options) : Type 0 where
  pub depth : o.depth ≡ number_or 1024 (first_value f (codes "depth"))
  pub lines : o.has_lines ≡ is_given f (codes "lines")
  pub color : o.color ≡ color_of (first_value f (codes "color"))
  pub files : map (λ name. name.now) o.files.items ≡ or_input (texts_of f (codes "file"))
