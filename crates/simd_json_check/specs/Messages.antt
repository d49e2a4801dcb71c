-- What is printed of a place and of the reason there.
use Rattle.std.specs.Prelude.{ℕ, List, [], ◌∷◌, ◌++◌, ◌&&◌, ◌==◌, nat_lt, codes, Option, Some, if◌then◌else◌}
use Rattle.std.specs.Fmt.{decimal}
use Rattle.simd_json_check.specs.declared.location.Location.{Location}
use Rattle.simd_json_check.specs.declared.location.opening.Opened.{Opened}
use Rattle.simd_json_check.specs.declared.location.opening.Opened.TheVariants as openeds
use Rattle.simd_json_check.specs.declared.location.opening.Opening.{Opening}
use Rattle.simd_json_check.specs.declared.location.reason.Reason.{Reason}
use Rattle.simd_json_check.specs.declared.location.reason.Reason.TheVariants as reasons
use Rattle.simd_json_check.specs.Reasons.{shown_kind}
use Rattle.simd_json_parts.specs.Bytes.{carriage_return, line_feed, tab}
use Rattle.simd_json_parts.specs.ErrorKinds.{kind_text}

-- a byte, by its number or as the visible character of ASCII that it is
abbrev pub shown : ℕ → List ℕ
shown c = if nat_lt 32 c && nat_lt c 127 then codes "`" ++ (c ∷ []) ++ codes "`" else codes "byte " ++ decimal c

abbrev pub control_text : ℕ → List ℕ
control_text c =
    if c == tab then codes "a tab"
    else if c == line_feed then codes "a line feed"
    else if c == carriage_return then codes "a carriage return"
    else codes "control character " ++ decimal c

abbrev pub reason_text : Reason → List ℕ
reason_text reasons.TooLarge = codes "more than 4294967295 bytes"
reason_text reasons.TooLittlePadding = codes "fewer than 64 bytes after the document"
reason_text reasons.OutOfMemory = codes "out of memory"
reason_text (reasons.NotUtf8 c) = shown c ++ codes " begins no UTF-8 character"
reason_text (reasons.ControlCharacter c) = control_text c ++ codes " in a string"
reason_text reasons.OpenString = codes "the string that begins here has no end"
reason_text reasons.Blank = codes "expected a value, found only whitespace"
reason_text reasons.ByteOrderMark = codes "byte order mark"
reason_text reasons.MoreText = codes "more text after the document"
reason_text reasons.EndOfInput = codes "the input ends after this, within the document"
reason_text (reasons.ExpectedValue c) = codes "expected a value, found " ++ shown c
reason_text (reasons.ExpectedElementEnd c) = codes "expected `,` or `]` after an element, found " ++ shown c
reason_text (reasons.ExpectedFirstKey c) = codes "expected a key or `}`, found " ++ shown c
reason_text (reasons.ExpectedMemberEnd c) = codes "expected `,` or `}` after a member, found " ++ shown c
reason_text (reasons.ExpectedKey c) = codes "expected a key after `,`, found " ++ shown c
reason_text (reasons.ExpectedColon c) = codes "expected `:` after a key, found " ++ shown c
reason_text reasons.ExpectedTrue = codes "expected `true`"
reason_text reasons.ExpectedFalse = codes "expected `false`"
reason_text reasons.ExpectedNull = codes "expected `null`"
reason_text reasons.IntegerOutOfRange = codes "integer out of range"
reason_text reasons.MalformedNumber = codes "malformed number"
reason_text (reasons.UnknownEscape c) = codes "expected an escape after the backslash, found " ++ shown c
reason_text reasons.MalformedUnicodeEscape = codes "expected four hexadecimal digits after `\\u`"
reason_text reasons.LoneSurrogate = codes "half of a surrogate pair"
reason_text reasons.TooDeep = codes "one container more than the depth limit"
reason_text reasons.Other = codes "an error of another kind"

abbrev pub opened_text : Opened → List ℕ
opened_text openeds.String = codes "string"
opened_text openeds.Array = codes "array"
opened_text openeds.Object = codes "object"

abbrev pub opening_text : Opening → List ℕ
opening_text o =
    codes "the " ++ opened_text o.opened ++ codes " that begins at " ++ decimal o.line ++ codes ":" ++ decimal o.column

-- with what is open there
abbrev pub message_text : Reason → Option Opening → List ℕ
message_text (reasons.ControlCharacter c) (Some o) = control_text c ++ codes " in " ++ opening_text o
message_text reasons.EndOfInput (Some o) = codes "the input ends after this, within " ++ opening_text o
message_text reason o = reason_text reason

-- what is printed of a location: its line, its column and the reason
abbrev pub location_text : Location → List ℕ
location_text l = decimal l.line ++ codes ":" ++ decimal l.column ++ codes ": " ++ message_text l.reason l.opening

-- of its kind
abbrev pub kind_words : Location → List ℕ
kind_words l = kind_text (shown_kind l.reason l.error.error)
