-- What leads from one place in a printed text to another.
use Rattle.std.proofs.Common.{◌≡◌, sym, subst, refl, true, ℕ, ◌<◌, List, [], ◌++◌, length, take, append_assoc, append-nil}
use Rattle.std.specs.Prelude.{Result, Ok, IsErrAnd, is_some, max}
use Rattle.simd_json_parts.specs.Document.{Document}
use Rattle.simd_json_parts.specs.Limits.{depth}
use Rattle.simd_json_parts.specs.Listing.{listing}
use Rattle.simd_json_parts.specs.Nodes.{Item}
use Rattle.simd_json_print.specs.Layout.{printed}
use Rattle.simd_json_print.specs.declared.document.Layout.{Layout}
use Rattle.simd_json_print.specs.Texts.{TargetState, Adds, IsPrefix, IsPrinted, IsPrintedBy, Leads}
use Rattle.simd_json_print.specs.declared.text.Text.{Text}
use Rattle.simd_json_print.proofs.Levels.{failed}
use Rattle.simd_json_print.proofs.Texts.{adds-is, adds-lost, adds-none, adds-some, adds-then, some-none, some-then}

-- a place in the text of a root: what is printed before it
abbrev pub Place : Type 1
Place = List ℕ → Document → Type 0

module _ {T : Type 0} {size : ℕ} (state : T → TargetState) where
  pub leads-none : (a : Text T size) (p q : Place) → ((done : List ℕ) (root : Document) → p done root → q done root)
      → Leads state a a p q
  leads-none a p q f = record {
    kept = some-none state a;
    given = λ done root is. ([], adds-none state a, subst (λ us. q us root) (sym (append-nil done)) (f done root is));
  }

  pub leads-by : (a b : Text T size) (p q : Place) (bytes : List ℕ) → Adds state a b bytes
      → ((done : List ℕ) (root : Document) → p done root → q (done ++ bytes) root) → Leads state a b p q
  leads-by a b p q bytes g f = record {
    kept = adds-some state a b bytes g;
    given = λ done root is. (bytes, g, f done root is);
  }

  pub leads-then : (a b c : Text T size) (p q r : Place) → Leads state a b p q → Leads state b c q r → Leads state a c p r
  leads-then a b c p q r f g = record {
    kept = some-then state a b c f.kept g.kept;
    given = λ done root is.
        let x = f.given done root is in
        let y = g.given (done ++ x.0) root x.2 in (
          x.0 ++ y.0,
          adds-then state a b c x.0 y.0 x.1 y.1,
          subst (λ us. r us root) (append_assoc done x.0 y.0) y.2,
        );
  }

  pub leads-to : (a b : Text T size) (p q r : Place) → Leads state a b p q
      → ((done : List ℕ) (root : Document) → q done root → r done root) → Leads state a b p r
  leads-to a b p q r l f = record {
    kept = l.kept;
    given = λ done root is. let x = l.given done root is in (x.0, x.1, f (done ++ x.0) root x.2);
  }

  pub leads-from : (a b : Text T size) (p q r : Place) → ((done : List ℕ) (root : Document) → p done root → q done root)
      → Leads state a b q r → Leads state a b p r
  leads-from a b p q r f l = record {
    kept = l.kept;
    given = λ done root is. l.given done root (f done root is);
  }

  -- to the end of the text, after the target has failed
  pub leads-lost : (a b : Text T size) (p q r : Place) → is_some b.fault ≡ true → Leads state a b p q
      → ((done : List ℕ) (root : Document) → q done root → (rest : List ℕ) × r (done ++ rest) root) → Leads state a b p r
  leads-lost a b p q r failed l f = record {
    kept = l.kept;
    given = λ done root is.
        let x = l.given done root is in
        let y = f (done ++ x.0) root x.2 in (
          x.0 ++ y.0,
          adds-lost state a b x.0 y.0 failed x.1,
          subst (λ us. r us root) (append_assoc done x.0 y.0) y.1,
        );
  }

-- ---- a whole text

-- nothing of the document with these nodes is printed
abbrev pub IsStart : List Item → Place
IsStart items done root = (done ≡ []) × (items ≡ listing root)

-- all of it is
abbrev pub IsWhole : (Document → List ℕ) → Place
IsWhole printed done root = done ≡ printed root

pub is-printed : {T : Type 0} {size : ℕ} (state : T → TargetState) (a b : Text T size) (items : List Item) (printed : Document → List ℕ)
    → Leads state a b (IsStart items) (IsWhole printed) → IsPrinted state a b items printed
is-printed state a b items printed l = record {
  kept = l.kept;
  given = λ d is. let x = l.given [] d (refl, is) in adds-is state a b x.0 (printed d) x.2 x.1;
}

-- a value that is printed by a call of its own
pub leads-apart : {T : Type 0} {size : ℕ} (state : T → TargetState) (a b : Text T size) (items : List Item) (printed : Document → List ℕ)
    (p q : Place) → IsPrinted state a b items printed
    → ((done : List ℕ) (root : Document) → p done root → (d : Document) × (items ≡ listing d) × q (done ++ printed d) root)
    → Leads state a b p q
leads-apart state a b items printed p q put f = record {
  kept = put.kept;
  given = λ done root is. let x = f done root is in (printed x.0, put.given x.0 x.1, x.2);
}

-- at the exit of a `?`
pub begun-by : {T E : Type 0} {size : ℕ} (state : T → TargetState) (a b : Text T size) (items : List Item) (printed : Document → List ℕ)
    (levels : ℕ) (r : Result Unit E) (e : E) (p : Place) → IsErrAnd r (λ x. x ≡ e) → Leads state a b (IsStart items) p
    → ((done : List ℕ) (d : Document) → items ≡ listing d → p done d → IsPrefix done (printed d) × (max 64 levels < depth d))
    → IsPrintedBy state a b items printed levels r
begun-by state a b items printed levels r e p is l f = record {
  kept = l.kept;
  given = λ d listed.
      let x = l.given [] d (refl, listed) in
      let y = f x.0 d listed x.2 in
      failed r e _ _ is ((length x.0, adds-is state a b x.0 (take (length x.0) (printed d)) (sym y.0) x.1), y.1);
}

pub printed-by : {T E : Type 0} {size : ℕ} (state : T → TargetState) (a b : Text T size) (items : List Item) (printed : Document → List ℕ)
    (levels : ℕ) (u : Unit) → IsPrinted state a b items printed → IsPrintedBy {E = E} state a b items printed levels (Ok u)
printed-by state a b items printed levels u p = record { kept = p.kept; given = p.given }

-- in a layout that is this one, with a text and a result by other names
pub by-layout : {T E : Type 0} {size : ℕ} (state : T → TargetState) (a b c : Text T size) (items : List Item) (layout this : Layout)
    (levels : ℕ) (r q : Result Unit E) → layout ≡ this → c ≡ b → q ≡ r → IsPrintedBy state a b items (printed this) levels r
    → IsPrintedBy state a c items (printed layout) levels q
by-layout state a b c items layout this levels r q is out result p =
    subst (λ l. IsPrintedBy state a c items (printed l) levels q) (sym is)
    (subst (λ s. IsPrintedBy state a s items (printed this) levels q) (sym out)
    (subst (λ u. IsPrintedBy state a b items (printed this) levels u) (sym result) p))
