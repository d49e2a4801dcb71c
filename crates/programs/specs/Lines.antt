-- How an input is cut into lines as it is read, and what comes of a step for each of them.
use Rattle.std.specs.Prelude.{◌≡◌, ◌≢◌, ◌⊎◌, ℕ, ◌+◌, List, [], ◌∷◌, ◌++◌, take, Bool, true, false, not, ◌==◌, Option, if◌then◌else◌}
use Rattle.std.specs.Io.KnownBytes.{Consumes, IsAtEnd}
use Rattle.std.specs.List.{list_all}
use Rattle.simd_json_parts.specs.Bytes.{line_feed}
use Rattle.simd_json_parts.specs.Pieces.{pieces}
use Rattle.programs.specs.declared.lines.Event.{Event}
use Rattle.programs.specs.declared.lines.Event.TheVariants.{Line, Block, End}

-- a step for each line
abbrev pub folded : {S : Type 0} → (S → List ℕ → S) → S → List (List ℕ) → S
folded step s [] = s
folded step s (line ∷ more) = folded step (step s line) more

-- how long a line may be, whether the last one has ended, and what was read and is not taken yet
pub record Cut : Type 0 where
  pub longest : ℕ
  pub has_ended : Bool
  pub unread : List ℕ

-- a line has ended, and nothing is left of what was read
abbrev pub IsBetween : Cut → Type 0
IsBetween c = (c.has_ended ≡ true) × (c.unread ≡ [])

-- what is kept of a line: of one that is too long one byte more than it may have
abbrev pub kept : ℕ → List ℕ → List ℕ
kept longest line = take (longest + 1) line

-- of the line that has begun
abbrev pub begun_of : Cut → List ℕ → List ℕ
begun_of c line = if c.has_ended then [] else line

abbrev pub has_no_feed : List ℕ → Bool
has_no_feed line = list_all (λ x. not (x == line_feed)) line

-- Of an input that was read so far: these lines have ended, and of the one that has begun the first bytes are kept.
pub record HasCut (c : Cut) (line input : List ℕ) (done : List (List ℕ)) : Type 0 where
  pub begun : List ℕ
  pub none : has_no_feed begun ≡ true
  pub cut : (more : List ℕ) → pieces (input ++ more) ≡ done ++ pieces (begun ++ (c.unread ++ more))
  pub keeps : begun_of c line ≡ kept c.longest begun

-- a line had ended, and the next one has begun; or these bytes more were read, or there were some
abbrev pub IsMoved : Cut → Cut → List ℕ → Type 0
IsMoved old new more = (new.has_ended ≡ false) × (IsBetween old ⊎ (old.unread ++ more ≢ []))

-- Of a reader with these bytes left before and after: one more line has ended, and what is kept of it may be overwritten; or all that
-- was read is taken, and that is not nothing for ever; or the input has ended, and the last line with it.
abbrev pub Goes : Cut → Cut → List ℕ → Option (List ℕ) → Option (List ℕ) → List ℕ → List (List ℕ) → Event → Type 0
Goes old c line before after input done Line = (more : List ℕ) × Consumes before after more
    × (last : List ℕ) × (line ≡ kept c.longest last) × ((any : List ℕ) → HasCut c any (input ++ more) (done ++ last ∷ []))
Goes old c line before after input done Block =
    (more : List ℕ) × Consumes before after more × (c.unread ≡ []) × HasCut c line (input ++ more) done × IsMoved old c more
Goes old c line before after input done End = Consumes before after [] × IsAtEnd after
    × (last : List ℕ) × (line ≡ kept c.longest last) × (pieces input ≡ done ++ last ∷ [])

-- so of any input
abbrev pub Moves : Cut → Cut → List ℕ → List ℕ → Option (List ℕ) → Option (List ℕ) → Event → Type 0
Moves old new line lines before after event = (new.longest ≡ old.longest)
    × ((input : List ℕ) (done : List (List ℕ)) → HasCut old line input done → Goes old new lines before after input done event)

-- ---- what private clauses cite

-- so many bytes more were read, and some are left, or the input has ended
pub record Fills (old new : Cut) (before after : Option (List ℕ)) (any : Bool) : Type 0 where
  pub more : List ℕ
  pub read : Consumes before after more
  pub same : new ≡ record old { unread = old.unread ++ more }
  pub some : any ≡ true → new.unread ≢ []
  pub end : any ≡ false → (new.unread ≡ []) × (more ≡ []) × IsAtEnd after

-- the bytes up to a line feed are taken, or all
abbrev pub IsTaken : Bool → List ℕ → List ℕ → List ℕ → Type 0
IsTaken true unread front rest = unread ≡ front ++ line_feed ∷ rest
IsTaken false unread front rest = (unread ≡ front) × (rest ≡ [])

pub record Takes (old new : Cut) (line lines : List ℕ) (ended : Bool) : Type 0 where
  pub front : List ℕ
  pub none : has_no_feed front ≡ true
  pub taken : IsTaken ended old.unread front new.unread
  pub same : new ≡ record old { has_ended = ended; unread = new.unread }
  pub keeps : (begun : List ℕ) → line ≡ kept old.longest begun → lines ≡ kept old.longest (begun ++ front)
