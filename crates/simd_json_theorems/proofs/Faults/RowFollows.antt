-- What may follow inside a container, by the byte that stands there.
use Rattle.std.proofs.Common.{◌≡◌, ◌≢◌, refl, sym, ◌∙◌, ap, subst, ℕ, ◌⊎◌, inl, inr, List, [], ◌∷◌, ◌++◌, drop, append_assoc}
use Rattle.simd_json_parts.specs.Bytes.{comma}
use Rattle.simd_json_parts.specs.Grammar.{After, Between}
use Rattle.simd_json_theorems.proofs.Containers.{Container, rest-Delimited}
use Rattle.simd_json_theorems.proofs.Unique.LeadingBytes.{NoSpace}
use Rattle.simd_json_theorems.proofs.Unique.SpacedPrefixes.{Delimited}
use Rattle.simd_json_theorems.proofs.Faults.Follows.{SpaceThen, ItemThen, ValueThen, RowThen, CanFollow, LeadsTo, IsRow, row-item}
use Rattle.simd_json_theorems.proofs.Faults.Follows.{item-row, SpaceThen-nil}

-- after an item and what is more of it: the other items and the closing bracket
abbrev pub RestThen : Container → (List ℕ → Type 0) → List ℕ → Type 0
RestThen c A bs = RowThen c.Row c.IsRest c.last A bs

-- after an item: what is more of it, the other items and the closing bracket
abbrev pub MoreThen : Container → (List ℕ → Type 0) → List ℕ → Type 0
MoreThen c A bs = RowThen c.More c.AreMore c.last A bs

-- an item, and what may follow it
abbrev pub NextThen : Container → (List ℕ → Type 0) → List ℕ → Type 0
NextThen c A bs = ItemThen c.Item c.IsItem (MoreThen c A) bs

-- after an opening bracket: the closing one, or the first item
abbrev pub FirstThen : Container → (List ℕ → Type 0) → List ℕ → Type 0
FirstThen c A bs = After c.last (SpaceThen A) bs ⊎ NextThen c A bs

module _ (c : Container) (A : List ℕ → Type 0) where
  -- an item with what is more of it and those after it
  abbrev IsItemRow : List ℕ → Type 0
  IsItemRow bs = IsRow c.Item c.More c.IsItem c.AreMore c.last A bs

  row-next : (bs : List ℕ) → IsItemRow bs → SpaceThen (NextThen c A) bs
  row-next = row-item c.Item c.More c.IsItem c.AreMore c.last A

  next-row : (bs : List ℕ) → SpaceThen (NextThen c A) bs → IsItemRow bs
  next-row = item-row c.Item c.More c.IsItem c.AreMore c.last A

  -- What stands after an item can follow a value.
  pub rest-CanFollow : CanFollow A → CanFollow (RestThen c A)
  rest-CanFollow a = record {
    delimited = λ bs (h : RestThen c A bs). subst Delimited (sym (h.1.whole ∙ ap (λ us. h.1.left ++ us) h.1.right_holds.1))
        (rest-Delimited c h.0 h.1.left h.1.right_holds.0 h.1.left_holds);
    some = (
      c.last ∷ a.some.0,
      (
        c.none,
        record {
          left = [];
          right = c.last ∷ a.some.0;
          whole = refl;
          left_holds = c.rest_none;
          right_holds = (a.some.0, refl, SpaceThen-nil A a.some.0 a.some.1);
        },
      ),
    );
  }

  -- What stands first in a container begins with no space.
  pub next-NoSpace : (bs : List ℕ) → NextThen c A bs → NoSpace bs
  next-NoSpace bs (i, j) = subst NoSpace (sym j.whole) (c.item_NoSpace i j.left j.right j.left_holds)

  pub first-NoSpace : (bs : List ℕ) → FirstThen c A bs → NoSpace bs
  first-NoSpace bs (inl (rest, e, h)) = subst NoSpace (sym e) (c.last_ends rest).1
  first-NoSpace bs (inr h) = next-NoSpace bs h

  -- ---- an opening bracket

  -- no items, and an item with those after it
  inside-goes : (r : c.Row) (inner rest us : List ℕ) → c.IsWhole r inner → rest ≡ inner ++ c.last ∷ us → SpaceThen A us
      → ValueThen A (c.first ∷ rest)
  inside-goes r inner rest us w e h = (
    c.document r,
    record {
      left = c.first ∷ (inner ++ c.last ∷ []);
      right = us;
      whole = ap (λ zs. c.first ∷ zs) e ∙ simp append_assoc;
      left_holds = c.is_value r (c.first ∷ (inner ++ c.last ∷ [])) (inner, refl, w);
      right_holds = h;
    },
  )

  open-goes : (rest : List ℕ) → SpaceThen (FirstThen c A) rest → ValueThen A (c.first ∷ rest)
  open-goes rest s = elim s.right_holds [
    | inl (us, e, h) ↦
        inside-goes c.none s.left rest us (c.whole_none s.left s.left_holds) (s.whole ∙ ap (λ zs. s.left ++ zs) e) h
    | inr h ↦
        let r : IsItemRow rest = next-row rest
        (record { left = s.left; right = s.right; whole = s.whole; left_holds = s.left_holds; right_holds = h }) in
        inside-goes (c.some r.item r.more) r.inner rest r.after (c.whole_some r.item r.more r.inner r.holds) r.whole r.follows
  ]

  open-comes : (rest : List ℕ) → ValueThen A (c.first ∷ rest) → SpaceThen (FirstThen c A) rest
  open-comes rest (d, j) =
      let v : (r : c.Row) × Between c.first (c.IsWhole r) c.last j.left = c.value_row d j.left j.right rest j.left_holds j.whole in
      let e : c.first ∷ rest ≡ c.first ∷ (v.1.0 ++ c.last ∷ j.right) =
      j.whole ∙ ap (λ us. us ++ j.right) v.1.1 ∙ simp append_assoc in
      elim (c.whole_cases v.0 v.1.0 v.1.2) [
        | inl (_, w) ↦ record {
          left = v.1.0;
          right = c.last ∷ j.right;
          whole = ap (drop 1) e;
          left_holds = w;
          right_holds = inl (j.right, refl, j.right_holds);
        }
        | inr (i, m, _, h) ↦
            let s : SpaceThen (NextThen c A) rest = row-next rest (record {
              item = i;
              more = m;
              inner = v.1.0;
              after = j.right;
              whole = ap (drop 1) e;
              holds = h;
              follows = j.right_holds;
            }) in
            record { left = s.left; right = s.right; whole = s.whole; left_holds = s.left_holds; right_holds = inr s.right_holds }
      ]

  -- An opening bracket leads to the first item.
  pub bracket_opens : (n : ℕ) → LeadsTo (ValueThen A) (c.first ∷ []) (FirstThen c A) n
  bracket_opens n = record { goes = open-goes; comes = λ rest _. open-comes rest }

  -- ---- first in a container

  empty-comes : (rest : List ℕ) → FirstThen c A (c.last ∷ rest) → SpaceThen A rest
  empty-comes rest (inl (us, e, h)) = subst (SpaceThen A) (sym (ap (drop 1) e)) h
  empty-comes rest (inr (i, j)) = absurd (c.item_not_last i j.left j.right rest j.left_holds j.whole)

  -- A closing bracket leads to what follows the container.
  pub empty_closes : (n : ℕ) → LeadsTo (FirstThen c A) (c.last ∷ []) A n
  empty_closes n = record { goes = λ rest h. inl (rest, refl, h); comes = λ rest _. empty-comes rest }

  -- At another byte an item stands first.
  pub first-next : (x : ℕ) (rest : List ℕ) → x ≢ c.last → FirstThen c A (x ∷ rest) → NextThen c A (x ∷ rest)
  first-next x rest other (inl (us, e, h)) = absurd (other cc)
  first-next x rest other (inr h) = h

  -- ---- after an item

  -- the byte there, as the items after it say
  rest_after : (x : ℕ) (rest : List ℕ) → RestThen c A (x ∷ rest) → ((x ≡ c.last) × SpaceThen A rest) ⊎ ((x ≡ comma) × IsItemRow rest)
  rest_after x rest (r, j) =
      elim (c.rest_cases r j.left j.left_holds) [
        | inl (_, nothing) ↦
            let e : x ∷ rest ≡ c.last ∷ j.right_holds.0 = j.whole ∙ ap (λ us. us ++ j.right) nothing ∙ j.right_holds.1 in
            inl (cc, subst (SpaceThen A) (sym (ap (drop 1) e)) j.right_holds.2)
        | inr (i, m, _, (inner, f, h)) ↦
            let e : x ∷ rest ≡ comma ∷ (inner ++ c.last ∷ j.right_holds.0) =
            j.whole ∙ ap (λ us. us ++ j.right) f ∙ ap (λ us. comma ∷ (inner ++ us)) j.right_holds.1 in
            inr (
              cc,
              record {
                item = i;
                more = m;
                inner = inner;
                after = j.right_holds.0;
                whole = ap (drop 1) e;
                holds = h;
                follows = j.right_holds.2;
              },
            )
      ]

  -- It is a closing bracket or a comma.
  pub rest-byte : (x : ℕ) (rest : List ℕ) → RestThen c A (x ∷ rest) → (x ≡ c.last) ⊎ (x ≡ comma)
  rest-byte x rest v = elim (rest_after x rest v) [ inl h ↦ inl h.0 | inr h ↦ inr h.0 ]

  -- A closing bracket leads to what follows the container,
  pub bracket_closes : (n : ℕ) → LeadsTo (RestThen c A) (c.last ∷ []) A n
  bracket_closes n = record {
    goes = λ rest h. (
      c.none,
      record { left = []; right = c.last ∷ rest; whole = refl; left_holds = c.rest_none; right_holds = (rest, refl, h) },
    );
    comes = λ rest _ (v : RestThen c A (c.last ∷ rest)). elim (rest_after c.last rest v) [
      | inl h ↦ h.1
      | inr h ↦ absurd (c.last_no_comma h.0)
    ];
  }

  -- and a comma to an item.
  pub comma_goes_on : (n : ℕ) → LeadsTo (RestThen c A) (comma ∷ []) (NextThen c A) n
  comma_goes_on n = record {
    goes = λ rest h. goes rest (next-row rest h);
    comes = λ rest _ (v : RestThen c A (comma ∷ rest)). elim (rest_after comma rest v) [
      | inl h ↦ absurd (c.last_no_comma (sym h.0))
      | inr h ↦ row-next rest h.1
    ];
  }
    where
      goes : (rest : List ℕ) → IsItemRow rest → RestThen c A (comma ∷ rest)
      goes rest r = (
        c.some r.item r.more,
        record {
          left = comma ∷ r.inner;
          right = c.last ∷ r.after;
          whole = ap (λ zs. comma ∷ zs) r.whole;
          left_holds = c.rest_some r.item r.more r.inner r.holds;
          right_holds = (r.after, refl, r.follows);
        },
      )
