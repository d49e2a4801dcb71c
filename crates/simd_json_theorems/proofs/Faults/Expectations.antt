-- What the bytes before an index of the input let stand from there on, where the whole is to be a document.
use Rattle.std.proofs.Common.{◌≡◌, refl, sym, ◌∙◌, ap, subst, ℕ, suc, ◌<◌, List, [], ◌∷◌, ◌++◌, length, take, drop, append_assoc, false}
use Rattle.std.proofs.lemmas.List.{append_cancel_right, take-append-drop}
use Rattle.std.proofs.Math.Seq.{drop-cons}
use Rattle.simd_json_parts.specs.Bytes.{is_whitespace, byte_at}
use Rattle.simd_json_parts.specs.Document.{Document}
use Rattle.simd_json_parts.specs.Grammar.{IsWhitespace, Denotes}
use Rattle.simd_json_parts.specs.FaultKinds.{IsBeginning}
use Rattle.simd_json_parts.proofs.Lists.Drops.{drop-head}
use Rattle.simd_json_theorems.proofs.Unique.LeadingBytes.{NoSpace}
use Rattle.simd_json_theorems.proofs.Unique.SpacedPrefixes.{space-one}
use Rattle.simd_json_theorems.proofs.Faults.Follows.{SpaceThen, LeadsTo}

-- the bytes denote some document
abbrev pub IsDocument : List ℕ → Type 0
IsDocument bs = (d : Document) × Denotes bs d

-- What goes on to a document is a beginning.
pub IsBeginning-document : (bs rest : List ℕ) → IsDocument (bs ++ rest) → IsBeginning bs
IsBeginning-document bs rest (d, h) = (rest, d, h)

-- A prefix of a beginning is one.
pub IsBeginning-prefix : (xs ys : List ℕ) → IsBeginning (xs ++ ys) → IsBeginning xs
IsBeginning-prefix xs ys (rest, d, h) = (ys ++ rest, d, subst (λ us. Denotes us d) (append_assoc xs ys rest) h)

module _ (b : List ℕ) where
  -- The bytes up to an index are those up to one before, and those between.
  pub take-through : (k j : ℕ) (xs : List ℕ) → drop k b ≡ xs ++ drop j b → take j b ≡ take k b ++ xs
  take-through k j xs e =
      append_cancel_right (take j b) (take k b ++ xs) (drop j b)
      (take-append-drop j b ∙ sym (append_assoc (take k b) xs (drop j b) ∙ ap (λ us. take k b ++ us) (sym e) ∙ take-append-drop k b))

  -- The bytes before index k and some space go on to a document with each list of the set. What stands after the next
  -- byte that is no space lets the whole be a document only if it is of the set, with that byte.
  pub record Expects (Q : List ℕ → Type 0) (k : ℕ) : Type 0 where
    pub goes : (space rest : List ℕ) → IsWhitespace space → Q rest → IsDocument (take k b ++ (space ++ rest))
    pub comes : (j : ℕ) (space rest : List ℕ) → IsWhitespace space → drop k b ≡ space ++ drop j b → j < length b
        → is_whitespace (byte_at b j) ≡ false
        → IsDocument (take j b ++ byte_at b j ∷ rest) → Q (byte_at b j ∷ rest)

  -- the same at that byte
  pub record ExpectsAt (Q : List ℕ → Type 0) (j : ℕ) : Type 0 where
    pub goes : (rest : List ℕ) → Q rest → IsDocument (take j b ++ rest)
    pub comes : (rest : List ℕ) → IsDocument (take j b ++ byte_at b j ∷ rest) → Q (byte_at b j ∷ rest)

  -- Space is passed.
  pub expects-at : (Q : List ℕ → Type 0) (k j : ℕ) (space : List ℕ) → Expects Q k → IsWhitespace space → drop k b ≡ space ++ drop j b
      → j < length b → is_whitespace (byte_at b j) ≡ false → ExpectsAt Q j
  expects-at Q k j space x w e l token = record {
    goes = λ rest h. subst IsDocument
        (sym (append_assoc (take k b) space rest) ∙ ap (λ us. us ++ rest) (sym (take-through k j space e))) (x.goes space rest w h);
    comes = λ rest. x.comes j space rest w e l token;
  }

  -- the byte at an index, where space and then a byte stand there
  first-byte : (k j : ℕ) (space rest : List ℕ) → drop k b ≡ space ++ drop j b → j < length b
      → byte_at (space ++ byte_at b j ∷ rest) 0 ≡ byte_at b k
  first-byte k j [] rest e l = sym (drop-head k b (byte_at b j) (drop (suc j) b) (e ∙ drop-cons b j 32 l))
  first-byte k j (x ∷ space) rest e l = sym (drop-head k b x (space ++ drop j b) e)

  -- Bytes that lead from one set to another lead from the one expectation to the other.
  pub expects-after : (Q R : List ℕ → Type 0) (j end : ℕ) (tail : List ℕ) → ExpectsAt Q j → drop j b ≡ (byte_at b j ∷ tail) ++ drop end b
      → LeadsTo Q (byte_at b j ∷ tail) R (byte_at b end) → ((bs : List ℕ) → R bs → NoSpace bs) → Expects R end
  expects-after Q R j end tail x e leads plain = record { goes = goes; comes = comes }
    where
      own : List ℕ
      own = byte_at b j ∷ tail

      through : take end b ≡ take j b ++ own
      through = take-through j end own e

      goes : (space rest : List ℕ) → IsWhitespace space → R rest → IsDocument (take end b ++ (space ++ rest))
      goes space rest w h =
          let s : SpaceThen R (space ++ rest) = record { left = space; right = rest; whole = refl; left_holds = w; right_holds = h } in
          subst IsDocument (sym (append_assoc (take j b) own (space ++ rest)) ∙ ap (λ us. us ++ (space ++ rest)) (sym through))
          (x.goes (own ++ (space ++ rest)) (leads.goes (space ++ rest) s))

      comes : (i : ℕ) (space rest : List ℕ) → IsWhitespace space → drop end b ≡ space ++ drop i b → i < length b
          → is_whitespace (byte_at b i) ≡ false
          → IsDocument (take i b ++ byte_at b i ∷ rest) → R (byte_at b i ∷ rest)
      comes i space rest w f l token h =
          let more : List ℕ = byte_at b i ∷ rest in
          let whole : take i b ++ more ≡ take j b ++ (own ++ (space ++ more)) =
          ap (λ us. us ++ more) (take-through end i space f ∙ ap (λ us. us ++ space) through)
          ∙ append_assoc (take j b ++ own) space more ∙ append_assoc (take j b) own (space ++ more) in
          let s : SpaceThen R (space ++ more) =
          leads.comes (space ++ more) (first-byte end i space rest f l)
          (x.comes (tail ++ (space ++ more)) (subst IsDocument whole h)) in
          subst R (sym (space-one space s.left more s.right w s.left_holds token (plain s.right s.right_holds) s.whole)) s.right_holds
