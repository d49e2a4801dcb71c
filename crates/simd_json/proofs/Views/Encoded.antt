-- What is said of the printed text of a value, of either form.
use Rattle.std.proofs.Common.{◌≡◌, ◌∙◌, ap, sym, subst, ℕ, ◌≤◌, List, length, Option, IsUtf8}
use Rattle.std.specs.Result.{result_err}
use Rattle.simd_json_theorems.proofs.Printing.Again.{utf8-printed, answer-printed}
use Rattle.simd_json_theorems.proofs.Printing.Normalized.{equal-normalized, depth-normalized}
use Rattle.simd_json_theorems.proofs.Printing.Texts.{Denotes-compact, Denotes-pretty}
use Rattle.simd_json_parts.specs.Document.{Document}
use Rattle.simd_json_theorems.specs.Normalized.{normalized}
use Rattle.simd_json_parts.specs.Grammar.{Denotes}
use Rattle.simd_json_parts.specs.Limits.{depth, max_length, IntegersFit}
use Rattle.simd_json_parts.specs.Nodes.{Item}
use Rattle.simd_json_theorems.specs.Spellable.{IsSpellable}
use Rattle.simd_json_parts.specs.declared.error.Error.{Error}
use Rattle.simd_json_print.specs.Layout.{printed}
use Rattle.simd_json_print.specs.declared.document.Layout.{Layout}
use Rattle.simd_json_print.specs.declared.document.Layout.TheVariants as layouts
use Rattle.simd_json.specs.Parsed.{HasMemory, IsParse, answered_nodes}
use Rattle.simd_json.specs.PrintedAgain.{DenotesEqual, IsParsedAgain}
use Rattle.simd_json.specs.Viewed.{doc}
use Rattle.simd_json.specs.declared.value.tape.value.Value.{Value}
use Rattle.simd_json.proofs.Parses.ParseAnswers.{as-answered}
use Rattle.simd_json.proofs.Views.Printable.{listed-spelled}

pub Denotes-printed : (layout : Layout) (d : Document) → IsSpellable d → IntegersFit d → Denotes (printed layout d) (normalized d)
Denotes-printed layouts.Compact = Denotes-compact
Denotes-printed layouts.Pretty = Denotes-pretty

module _ (print : Document → List ℕ) (denotes : (d : Document) → IsSpellable d → IntegersFit d → Denotes (print d) (normalized d)) where
  pub utf8-encoded : (v : Value) (bs : List ℕ) → bs ≡ print (doc v) → IsUtf8 bs
  utf8-encoded v bs is =
      let s = listed-spelled v.nodes.now v.listed v.printable in
      subst IsUtf8 (sym is) (utf8-printed print denotes (doc v) s.0 s.1)

  pub denoted-encoded : (v : Value) (bs : List ℕ) → bs ≡ print (doc v) → DenotesEqual bs (doc v)
  denoted-encoded v bs is =
      let s = listed-spelled v.nodes.now v.listed v.printable in (
        normalized (doc v),
        subst (λ xs. Denotes xs (normalized (doc v))) (sym is) (denotes (doc v) s.0 s.1),
        equal-normalized (doc v),
        depth-normalized (doc v),
      )

  pub parsed-again : (v : Value) (limit capacity : ℕ) (fault : Option Error) (nodes : List Item) (listed : List ℕ)
      → length (print (doc v)) ≤ max_length → depth (doc v) ≤ limit
      → IsParse (print (doc v)) limit capacity fault nodes listed → HasMemory fault → IsParsedAgain (doc v) fault nodes
  parsed-again v limit capacity fault nodes listed size nesting parse memory =
      let s = listed-spelled v.nodes.now v.listed v.printable in
      let same = answer-printed print denotes (doc v) limit s.0 s.1 size nesting in
      let a = as-answered (print (doc v)) limit capacity fault nodes listed parse memory in
      (a.0 ∙ ap result_err same, a.1 ∙ ap answered_nodes same, equal-normalized (doc v))
