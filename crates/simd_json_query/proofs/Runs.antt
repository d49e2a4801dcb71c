-- Parts and characters that are read one after the other.
use Rattle.std.proofs.Common.{◌≡◌, ◌∙◌, ap, sym, refl, subst, ℕ, List, [], ◌∷◌, ◌++◌, Bool, true, append_assoc}
use Rattle.std.specs.Prelude.{◌&&◌, encode_utf8, encode_utf8_all}
use Rattle.std.specs.List.{list_all}
use Rattle.std.proofs.lemmas.List.{append-nil}
use Rattle.std.proofs.lemmas.List.Folds.{list_all-append}
use Rattle.std.proofs.lemmas.Str.{encodes-append}
use Rattle.simd_json_parts.specs.Bytes.{is_whitespace}
use Rattle.simd_json_query.specs.Steps.{Blanks}
use Rattle.simd_json_query.specs.Spans.{Many, Run}

both : (a b : Bool) → a ≡ true → b ≡ true → (a && b) ≡ true
both a b first second = cc

pub encodes-more : (cs : List ℕ) (c : ℕ) → encode_utf8_all (cs ++ c ∷ []) ≡ encode_utf8_all cs ++ encode_utf8 c
encodes-more cs c = encodes-append cs (c ∷ []) ∙ ap (λ bs. encode_utf8_all cs ++ bs) (append-nil (encode_utf8 c))

pub many-more : {A : Type 0} (P : A → List ℕ → List ℕ → Type 0) (xs : List A) (x : A) (text between rest : List ℕ) → Many P xs text between
    → P x between rest → Many P (xs ++ x ∷ []) text rest
many-more P [] x text between rest same part = (rest, subst (λ bs. P x bs rest) (sym same) part, refl)
many-more P (y ∷ xs) x text between rest parts part = (parts.0, parts.1, many-more P xs x parts.0 between rest parts.2 part)

pub run-none : (p : ℕ → Bool) (text : List ℕ) → Run p [] text text
run-none p text = record { whole = refl; kind = refl }

pub run-more : (p : ℕ → Bool) (cs text between rest : List ℕ) (c : ℕ) → Run p cs text between → p c ≡ true
    → between ≡ encode_utf8 c ++ rest → Run p (cs ++ c ∷ []) text rest
run-more p cs text between rest c run is next = record {
  whole =
      run.whole
      ∙ ap (λ bs. encode_utf8_all cs ++ bs) next
      ∙ sym (append_assoc (encode_utf8_all cs) (encode_utf8 c) rest)
      ∙ ap (λ bs. bs ++ rest) (sym (encodes-more cs c));
  kind = list_all-append p cs (c ∷ []) ∙ both (list_all p cs) (list_all p (c ∷ [])) run.kind (both (p c) true is refl);
}

pub blanks-none : (text : List ℕ) → Blanks text text
blanks-none text = ([], run-none is_whitespace text)

pub blanks-more : (text between rest : List ℕ) (c : ℕ) → Blanks text between → is_whitespace c ≡ true
    → between ≡ encode_utf8 c ++ rest → Blanks text rest
blanks-more text between rest c blanks is next = (blanks.0 ++ c ∷ [], run-more is_whitespace blanks.0 text between rest c blanks.1 is next)
