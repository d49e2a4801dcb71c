-- What is left of children.
use Rattle.std.specs.Prelude.{List, [], ◌∷◌, drop, take, reverse}
use Rattle.simd_json_parts.specs.Document.{Document, elements}
use Rattle.simd_json.specs.Iterated.{elements_left, values_left}
use Rattle.simd_json.specs.Viewed.{doc, docs}
use Rattle.simd_json_path.specs.Slices.{every}
use Rattle.simd_json_path.specs.declared.back.Back.{Back}
use Rattle.simd_json_path.specs.declared.children.Children.{Children}
use Rattle.simd_json_path.specs.declared.children.Children.TheVariants as children
use Rattle.simd_json_path.specs.declared.slice.Every.{Every}

abbrev pub every_left : Every → List Document
every_left e = every e.gap 0 (take e.span (elements_left e.elements))

abbrev pub back_left : Back → List Document
back_left b = every b.gap 0 (reverse (drop b.floor (take b.end (elements (docs b.array)))))

abbrev pub children_left : Children → List Document
children_left children.Nothing = []
children_left (children.One value) = doc value ∷ []
children_left (children.Elements it) = elements_left it
children_left (children.Values it) = values_left it
children_left (children.Every it) = every_left it
children_left (children.Back it) = back_left it
