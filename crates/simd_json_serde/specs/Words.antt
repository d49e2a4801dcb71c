-- The kinds of values in found_words, as a mismatch names them.
use Rattle.std.specs.Prelude.{ℕ, List, codes}
use Rattle.simd_json_parts.specs.ErrorKinds.{type_words}
use Rattle.simd_json_parts.specs.declared.node.ValueType.{ValueType}
use Rattle.simd_json_parts.specs.declared.node.ValueType.TheVariants as kinds

-- integers are one kind here, whatever their size
abbrev pub found_words : ValueType → List ℕ
found_words kinds.I64 = codes "an integer"
found_words kinds.U64 = codes "an integer"
found_words kinds.I128 = codes "an integer"
found_words kinds.U128 = codes "an integer"
found_words kinds.Null = type_words kinds.Null
found_words kinds.Bool = type_words kinds.Bool
found_words kinds.String = type_words kinds.String
found_words kinds.Decimal = type_words kinds.Decimal
found_words kinds.Array = type_words kinds.Array
found_words kinds.Object = type_words kinds.Object

-- a float may be any number
abbrev pub wanted_words : ValueType → List ℕ
wanted_words kinds.Decimal = codes "a number"
wanted_words kinds.I64 = found_words kinds.I64
wanted_words kinds.U64 = found_words kinds.U64
wanted_words kinds.I128 = found_words kinds.I128
wanted_words kinds.U128 = found_words kinds.U128
wanted_words kinds.Null = found_words kinds.Null
wanted_words kinds.Bool = found_words kinds.Bool
wanted_words kinds.String = found_words kinds.String
wanted_words kinds.Array = found_words kinds.Array
wanted_words kinds.Object = found_words kinds.Object
