-- A walk along an array or an object that tells its end from a place where it stops, over any bytes: each item comes
-- with what is behind it. Inside an array or an object of a document its items come, and the walk ends.
use Rattle.std.specs.Prelude.{ℕ, zero, suc, List, [], ◌∷◌, length, drop, Bool, ◌==◌, ◌||◌, Option, Some, None, option_and_then}
use Rattle.std.specs.Prelude.{Result, Ok, Err, if◌then◌else◌}
use Rattle.std.specs.Char.{is_ascii_digit}
use Rattle.simd_json_parts.specs.Bytes.{quote, comma, minus_sign, colon, left_bracket, right_bracket, lower_f, lower_n, lower_t, byte_at}
use Rattle.simd_json_parts.specs.Bytes.{left_brace, right_brace}
use Rattle.simd_json_parts.specs.Document as parts
use Rattle.simd_json_parts.specs.Views.{as_str, ok_map}
use Rattle.simd_json_ondemand.specs.Closing.{span}
use Rattle.simd_json_ondemand.specs.Keys.{is_key}
use Rattle.simd_json_ondemand.specs.Unexpected.{unexpected}
use Rattle.simd_json_ondemand.specs.Viewed.{read_along}
use Rattle.simd_json_ondemand.specs.declared.array.Position.{Position}
use Rattle.simd_json_ondemand.specs.declared.array.Position.TheVariants.{First, AtValue, AfterValue}
use Rattle.simd_json_ondemand.specs.declared.unexpected.Expected.{Expected}
use Rattle.simd_json_ondemand.specs.declared.unexpected.Expected.TheVariants as expected
use Rattle.simd_json_ondemand.specs.declared.unexpected.Unexpected.{Unexpected}

abbrev pub and_ok : {A B E : Type 0} → Result A E → (A → Result B E) → Result B E
and_ok (Ok x) f = f x
and_ok (Err e) f = Err e

-- where there is something
abbrev pub and_some : {A B E : Type 0} → Result (Option A) E → (A → Result B E) → Result (Option B) E
and_some (Ok (Some x)) f = ok_map (λ y. Some y) (f x)
and_some (Ok None) f = Ok None
and_some (Err e) f = Err e

-- what was found, if something was
abbrev pub found : {A E : Type 0} → Result (Option A) E → Option A
found (Ok o) = o
found (Err e) = None

-- what is left to come: nothing, since the walk stopped or the container ended, or an item and more
pub data Walk (A : Type 0) : Type 0 where
  stopped : Unexpected → Walk A
  ended : Walk A
  came : A → Walk A → Walk A

-- the items, without how the walk ends
unfoldable pub items : {A : Type 0} → Walk A → List A
items (came x w) = x ∷ items w
items w = []

-- all of a list, to the end
unfoldable pub whole : {A : Type 0} → List A → Walk A
whole [] = ended
whole (x ∷ xs) = came x (whole xs)

-- what comes first
abbrev pub first : {A : Type 0} → Walk A → Result (Option A) Unexpected
first (stopped e) = Err e
first ended = Ok None
first (came x w) = Ok (Some x)

-- without so many items
unfoldable pub walk_past : {A : Type 0} → ℕ → Walk A → Walk A
walk_past zero w = w
walk_past (suc n) (came x w) = walk_past n w
walk_past (suc n) w = w

-- ---- tokens, by the structural indexes from one of them on

-- a byte that a value begins with (RFC 8259, section 3)
abbrev pub may_begin_value : ℕ → Bool
may_begin_value c =
    (c == left_bracket) || (c == left_brace) || (c == quote) || (c == lower_t) || (c == lower_f) || (c == lower_n) || (c == minus_sign)
    || is_ascii_digit c

module _ (b : List ℕ) where
  -- a value begins here
  abbrev pub value_here : List ℕ → Result (List ℕ) Unexpected
  value_here [] = Err (unexpected b expected.Value [])
  value_here (i ∷ is) = if may_begin_value (byte_at b i) then Ok (i ∷ is) else Err (unexpected b expected.Value (i ∷ is))

  -- behind a token with this first byte
  abbrev pub behind_token : ℕ → Expected → List ℕ → Result (List ℕ) Unexpected
  behind_token c wanted [] = Err (unexpected b wanted [])
  behind_token c wanted (i ∷ is) = if byte_at b i == c then Ok is else Err (unexpected b wanted (i ∷ is))

  -- after an item: the end, or behind a comma
  abbrev pub behind_item : ℕ → Expected → List ℕ → Result (Option (List ℕ)) Unexpected
  behind_item close wanted [] = Err (unexpected b wanted [])
  behind_item close wanted (i ∷ is) =
      if byte_at b i == close then Ok None else ok_map (λ js. Some js) (behind_token comma wanted (i ∷ is))

  -- after the opening bracket: the end, or an item
  abbrev pub first_item : ℕ → List ℕ → Result (Option (List ℕ)) Unexpected
  first_item close [] = Ok (Some [])
  first_item close (i ∷ is) = if byte_at b i == close then Ok None else Ok (Some (i ∷ is))

  -- the item after a cursor's position
  abbrev pub item_ahead : ℕ → Expected → Position → List ℕ → Result (Option (List ℕ)) Unexpected
  item_ahead close wanted First is = first_item close is
  item_ahead close wanted AtValue is = behind_item close wanted (drop (span b is) is)
  item_ahead close wanted AfterValue is = behind_item close wanted is

  abbrev pub element_ahead : Position → List ℕ → Result (Option (List ℕ)) Unexpected
  element_ahead position is = and_some (item_ahead right_bracket expected.CommaOrBracket position is) value_here

  -- a key, a colon, and a value, from the key on
  abbrev pub member_here : List ℕ → Result (List ℕ) Unexpected
  member_here is =
      ok_map (λ _. is) (and_ok (and_ok (behind_token quote expected.Key is) (behind_token colon expected.Colon)) value_here)

  abbrev pub member_ahead : Position → List ℕ → Result (Option (List ℕ)) Unexpected
  member_ahead position is = and_some (item_ahead right_brace expected.CommaOrBrace position is) member_here

-- ---- walks

-- from item to item; the number bounds the turns
unfoldable pub walk_by : {A : Type 0} → (List ℕ → A) → (List ℕ → Result (Option (List ℕ)) Unexpected) → ℕ
    → Result (Option (List ℕ)) Unexpected → Walk A
walk_by view next turns (Err e) = stopped e
walk_by view next turns (Ok None) = ended
walk_by view next zero (Ok (Some is)) = ended
walk_by view next (suc turns) (Ok (Some is)) = came (view is) (walk_by view next turns (next is))

-- what is seen of the elements after a position, and of members, each from its first index on
abbrev pub elements_seen : {A : Type 0} → (List ℕ → A) → List ℕ → Position → List ℕ → Walk A
elements_seen view b position is = walk_by view (element_ahead b AtValue) (length is) (element_ahead b position is)

abbrev pub members_seen : {A : Type 0} → (List ℕ → A) → List ℕ → Position → List ℕ → Walk A
members_seen view b position is =
    walk_by view (λ ks. member_ahead b AtValue (drop 2 ks)) (length is) (member_ahead b position is)

-- the documents of a key and of its value
abbrev pub pair_along : List ℕ → List ℕ → Option parts.Document × Option parts.Document
pair_along b is = (read_along b is, read_along b (drop 2 is))

-- the documents that begin at the elements, and at the keys and the values of members
abbrev pub elements_walk : List ℕ → Position → List ℕ → Walk (Option parts.Document)
elements_walk b = elements_seen (read_along b) b

abbrev pub members_walk : List ℕ → Position → List ℕ → Walk (Option parts.Document × Option parts.Document)
members_walk b = members_seen (pair_along b) b

-- from the first member with the key on
unfoldable pub walk_from : List ℕ → Walk (Option parts.Document × Option parts.Document)
    → Walk (Option parts.Document × Option parts.Document)
walk_from key (came m w) = if is_key key (option_and_then as_str m.0) then came m w else walk_from key w
walk_from key w = w

-- the one walk, or, if it comes to the end, the other
abbrev pub or_walk : {A : Type 0} → Walk A → Walk A → Walk A
or_walk (stopped e) other = stopped e
or_walk ended other = other
or_walk (came x w) other = came x w

-- once round: along the members that are left, or, if they end and none has the key, along all
abbrev pub walk_round : List ℕ → Walk (Option parts.Document × Option parts.Document)
    → Walk (Option parts.Document × Option parts.Document) → Walk (Option parts.Document × Option parts.Document)
walk_round key left all = or_walk (walk_from key left) (walk_from key all)
