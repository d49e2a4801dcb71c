-- The text of a JSON Pointer that is split, and what is printed of one that leads nowhere.
use Rattle.std.specs.Prelude.{ℕ, List, ◌++◌, codes, decimal}
use Rattle.simd_json_parts.specs.ErrorKinds.{type_words}
use Rattle.simd_json_parts.specs.declared.pointer.PointerError.{PointerError}
use Rattle.simd_json_parts.specs.declared.pointer.PointerExpected.{PointerExpected}
use Rattle.simd_json_parts.specs.declared.pointer.PointerExpected.TheVariants as lacking
use Rattle.simd_json_parts.specs.declared.pointer.split.Pointer.{Pointer}

abbrev pub text : {N : ℕ} → Pointer N → List ℕ
text p = p.text.now

abbrev pub lacking_text : PointerExpected → List ℕ
lacking_text lacking.Slash = codes "a /"
lacking_text lacking.Container = codes "an array or an object"
lacking_text lacking.Escape = codes "0 or 1 after each ~"
lacking_text lacking.Key = codes "a pair with the key"
lacking_text lacking.Index = codes "an array index"
lacking_text lacking.Element = codes "an element with the index"

abbrev pub missing_text : PointerError → List ℕ
missing_text e = codes "expected " ++ lacking_text e.expected ++ codes ", found " ++ type_words e.got

abbrev pub stop_text : PointerError → List ℕ
stop_text e = missing_text e ++ codes " at byte " ++ decimal e.index
