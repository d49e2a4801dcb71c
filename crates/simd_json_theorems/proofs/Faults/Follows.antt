-- What may follow a beginning of a document: items and rows of them up to a closing byte, with space between.
use Rattle.std.proofs.Common.{◌≡◌, refl, sym, ◌∙◌, ap, subst, ℕ, List, [], ◌∷◌, ◌++◌, append_assoc}
use Rattle.std.specs.Prelude.{codes}
use Rattle.simd_json_parts.specs.Bytes.{byte_at}
use Rattle.simd_json_parts.specs.Document.{Document, null}
use Rattle.simd_json_parts.specs.Grammar.{IsWhitespace, Spaced, Joined, After, IsValue}
use Rattle.simd_json_theorems.proofs.Unique.LeadingBytes.{NoSpace, value-NoSpace}
use Rattle.simd_json_theorems.proofs.Unique.SpacedPrefixes.{Delimited}

-- space, and then a list of the set
abbrev pub SpaceThen : (List ℕ → Type 0) → List ℕ → Type 0
SpaceThen A bs = Joined IsWhitespace A bs

-- an item, and what may follow it after space
abbrev pub ItemThen : (I : Type 0) → (I → List ℕ → Type 0) → (List ℕ → Type 0) → List ℕ → Type 0
ItemThen I P A bs = (i : I) × Joined (P i) (SpaceThen A) bs

abbrev pub ValueThen : (List ℕ → Type 0) → List ℕ → Type 0
ValueThen A bs = ItemThen Document IsValue A bs

-- more of a row, its closing byte, and what may follow that after space
abbrev pub RowThen : (B : Type 0) → (B → List ℕ → Type 0) → ℕ → (List ℕ → Type 0) → List ℕ → Type 0
RowThen B More close A bs = (x : B) × Joined (More x) (After close (SpaceThen A)) bs

-- what the set's lists begin with can stand after a value, and the set is not empty
pub record CanFollow (A : List ℕ → Type 0) : Type 0 where
  pub delimited : (bs : List ℕ) → A bs → Delimited bs
  pub some : (bs : List ℕ) × A bs

-- Bytes lead from the first set to the second: what may stand after them is, after space, of the second. It begins with the byte `next`.
pub record LeadsTo (Q : List ℕ → Type 0) (own : List ℕ) (R : List ℕ → Type 0) (next : ℕ) : Type 0 where
  pub goes : (rest : List ℕ) → SpaceThen R rest → Q (own ++ rest)
  pub comes : (rest : List ℕ) → byte_at rest 0 ≡ next → Q (own ++ rest) → SpaceThen R rest

-- No space is space too.
pub SpaceThen-nil : (A : List ℕ → Type 0) (bs : List ℕ) → A bs → SpaceThen A bs
SpaceThen-nil A bs h = record { left = []; right = bs; whole = refl; left_holds = refl; right_holds = h }

-- An item goes on with what may follow it,
pub item_then-some : (I : Type 0) (P : I → List ℕ → Type 0) (A : List ℕ → Type 0) → (bs : List ℕ) × A bs → (i : I) (xs : List ℕ)
    → P i xs → (rest : List ℕ) × ItemThen I P A (xs ++ rest)
item_then-some I P A (bs, h) i xs is =
    (bs, (i, record { left = xs; right = bs; whole = refl; left_holds = is; right_holds = SpaceThen-nil A bs h }))

-- and some value does.
pub value_then-some : (A : List ℕ → Type 0) → (bs : List ℕ) × A bs → (bs : List ℕ) × ValueThen A bs
value_then-some A some =
    let h : (rest : List ℕ) × ValueThen A (codes "null" ++ rest) = item_then-some Document IsValue A some null (codes "null") refl in
    (codes "null" ++ h.0, h.1)

-- A value begins with no space.
pub value_then-NoSpace : (A : List ℕ → Type 0) (bs : List ℕ) → ValueThen A bs → NoSpace bs
value_then-NoSpace A bs (d, j) = subst NoSpace (sym j.whole) (value-NoSpace d j.left j.right j.left_holds)

-- ---- an item with space round it, more of the row, and the closing byte

module _ (I B : Type 0) (P : I → List ℕ → Type 0) (More : B → List ℕ → Type 0) (close : ℕ) (A : List ℕ → Type 0) where
  -- such bytes
  pub record IsRow (bs : List ℕ) : Type 0 where
    pub item : I
    pub more : B
    pub inner : List ℕ
    pub after : List ℕ
    pub whole : bs ≡ inner ++ close ∷ after
    pub holds : Joined (Spaced (P item)) (More more) inner
    pub follows : SpaceThen A after

  -- They are an item and what may follow it,
  pub row-item : (bs : List ℕ) → IsRow bs → SpaceThen (ItemThen I P (RowThen B More close A)) bs
  row-item bs r =
      let s : Spaced (P r.item) (r.holds).left = (r.holds).left_holds in
      let more : List ℕ = (r.holds).right ++ close ∷ r.after in
      record {
        left = s.before;
        right = s.inner ++ (s.after ++ more);
        whole = r.whole ∙ ap (λ us. us ++ close ∷ r.after) ((r.holds).whole ∙ ap (λ us. us ++ (r.holds).right) s.whole) ∙ simp append_assoc;
        left_holds = s.before_space;
        right_holds = (
          r.item,
          record {
            left = s.inner;
            right = s.after ++ more;
            whole = refl;
            left_holds = s.holds;
            right_holds = record {
              left = s.after;
              right = more;
              whole = refl;
              left_holds = s.after_space;
              right_holds = (
                r.more,
                record {
                  left = (r.holds).right;
                  right = close ∷ r.after;
                  whole = refl;
                  left_holds = (r.holds).right_holds;
                  right_holds = (r.after, refl, r.follows);
                },
              );
            };
          },
        );
      }

  -- and these are such bytes.
  pub item-row : (bs : List ℕ) → SpaceThen (ItemThen I P (RowThen B More close A)) bs → IsRow bs
  item-row bs s =
      let j : Joined (P s.right_holds.0) (SpaceThen (RowThen B More close A)) s.right = s.right_holds.1 in
      let t : SpaceThen (RowThen B More close A) j.right = j.right_holds in
      let r : Joined (More t.right_holds.0) (After close (SpaceThen A)) t.right = t.right_holds.1 in
      record {
        item = s.right_holds.0;
        more = t.right_holds.0;
        inner = ((s.left ++ j.left) ++ t.left) ++ r.left;
        after = r.right_holds.0;
        whole =
            s.whole ∙ ap (λ us. s.left ++ us) (j.whole
            ∙ ap (λ us. j.left ++ us) (t.whole ∙ ap (λ us. t.left ++ us) (r.whole ∙ ap (λ us. r.left ++ us) r.right_holds.1)))
            ∙ simp append_assoc;
        holds = record {
          left = (s.left ++ j.left) ++ t.left;
          right = r.left;
          whole = refl;
          left_holds = record {
            before = s.left;
            inner = j.left;
            after = t.left;
            whole = refl;
            before_space = s.left_holds;
            after_space = t.left_holds;
            holds = j.left_holds;
          };
          right_holds = r.left_holds;
        };
        follows = r.right_holds.2;
      }
