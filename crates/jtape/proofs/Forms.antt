-- What each mode puts of a document, from its nodes and from the positions of its bytes.
use Rattle.std.proofs.Common.{◌≡◌, ap, sym, subst, ℕ, List, [], ◌∷◌, ◌++◌, map}
use Rattle.simd_json_parts.specs.Bytes.{line_feed}
use Rattle.simd_json_parts.specs.Document.{Document}
use Rattle.simd_json_parts.specs.Listing.{listing}
use Rattle.simd_json_parts.specs.Nodes.{item_of}
use Rattle.simd_json_parts.specs.Positions.{positions}
use Rattle.simd_json_parts.specs.declared.node.Node.{Node}
use Rattle.simd_json_print.specs.Layout.{printed}
use Rattle.simd_json_print.specs.Texts.{TargetState, Adds, AddsSome, IsPrinted}
use Rattle.simd_json_print.specs.declared.document.Layout.{Layout}
use Rattle.simd_json_print.specs.declared.text.Text.{Text}
use Rattle.simd_json_print.proofs.Texts.{adds-is, adds-none, adds-then, adds-some, some-then}
use Rattle.jtape.specs.Lines.{lines, number_lines}
use Rattle.jtape.specs.Output.{mode_text}
use Rattle.jtape.specs.declared.words.Mode.{Mode}
use Rattle.jtape.specs.declared.words.Mode.TheVariants as modes

-- Some bytes are put, and of a document those that the mode prints.
pub record IsPut {T : Type 0} {size : ℕ} (state : T → TargetState) (a b : Text T size) (mode : Mode) (nodes : List Node)
    (indexes : List ℕ) : Type 0 where
  pub kept : AddsSome state a b
  pub given : (d : Document) (input : List ℕ) → map item_of nodes ≡ listing d → indexes ≡ positions input
      → Adds state a b (mode_text mode input d)

-- into a text by another name, in a mode that is this one
pub put-into : {T : Type 0} {size : ℕ} {state : T → TargetState} {a b c : Text T size} {mode this : Mode} {nodes : List Node}
    {indexes : List ℕ} → c ≡ b → mode ≡ this → IsPut state a b this nodes indexes → IsPut state a c mode nodes indexes
put-into {state = state} {a = a} {c = c} {this = this} {nodes = nodes} {indexes = indexes} same is p =
    subst (λ l. IsPut state a c l nodes indexes) (sym is) (subst (λ s. IsPut state a s this nodes indexes) (sym same) p)

pub put-tape : {T : Type 0} {size : ℕ} (state : T → TargetState) (a b : Text T size) (nodes : List Node) (indexes : List ℕ)
    → Adds state a b (lines (map item_of nodes)) → IsPut state a b modes.Tape nodes indexes
put-tape state a b nodes indexes g = record {
  kept = adds-some state a b _ g;
  given = λ d input listed found. adds-is state a b _ _ (ap lines listed) g;
}

pub put-positions : {T : Type 0} {size : ℕ} (state : T → TargetState) (a b : Text T size) (nodes : List Node) (indexes : List ℕ)
    → Adds state a b (number_lines indexes) → IsPut state a b modes.Positions nodes indexes
put-positions state a b nodes indexes g = record {
  kept = adds-some state a b _ g;
  given = λ d input listed found. adds-is state a b _ _ (ap number_lines found) g;
}

-- the text and a line feed
pub put-text : {T : Type 0} {size : ℕ} (state : T → TargetState) (a b c : Text T size) (nodes : List Node) (indexes : List ℕ)
    (layout : Layout) (mode : Mode) → ((input : List ℕ) (d : Document) → mode_text mode input d ≡ printed layout d ++ line_feed ∷ [])
    → IsPrinted state a b (map item_of nodes) (printed layout) → Adds state b c (line_feed ∷ []) → IsPut state a c mode nodes indexes
put-text state a b c nodes indexes layout mode same p h = record {
  kept = some-then state a b c p.kept (adds-some state b c _ h);
  given = λ d input listed found.
      adds-is state a c _ _ (sym (same input d)) (adds-then state a b c (printed layout d) (line_feed ∷ []) (p.given d listed) h);
}

pub put-nothing : {T : Type 0} {size : ℕ} (state : T → TargetState) (a : Text T size) (nodes : List Node) (indexes : List ℕ)
    → IsPut state a a modes.Lines nodes indexes
put-nothing state a nodes indexes = record {
  kept = adds-some state a a _ (adds-none state a);
  given = λ d input listed found. adds-none state a;
}
