-- Characters of names that are read one after the other.
use Rattle.std.proofs.Common.{◌≡◌, ◌∙◌, ap, sym, refl, ℕ, List, [], ◌∷◌, ◌++◌, true, append_assoc}
use Rattle.std.specs.Prelude.{encode_utf8, encode_utf8_all}
use Rattle.std.specs.List.{list_all}
use Rattle.std.proofs.lemmas.List.{append-nil}
use Rattle.simd_json_query.specs.Steps.{Name, Piece, Quoted, begins_name, is_in_name}
use Rattle.simd_json_query.specs.Spans.{Many, Mark, Run}
use Rattle.simd_json_query.proofs.Runs.{encodes-more, many-more, run-none, run-more}

-- the characters after the first one so far, and all of them as bytes
pub record IsNamed (first : ℕ) (name text rest : List ℕ) : Type 0 where
  pub others : List ℕ
  pub run : Run is_in_name others text rest
  pub spelled : name ≡ encode_utf8_all (first ∷ others)

pub named-none : (first : ℕ) (text : List ℕ) → IsNamed first (encode_utf8 first) text text
named-none first text = record { others = []; run = run-none is_in_name text; spelled = sym (append-nil (encode_utf8 first)) }

pub named-more : (first : ℕ) (name text between rest : List ℕ) (c : ℕ) → IsNamed first name text between → is_in_name c ≡ true
    → between ≡ encode_utf8 c ++ rest → IsNamed first (name ++ encode_utf8 c) text rest
named-more first name text between rest c named is next = record {
  others = named.others ++ c ∷ [];
  run = run-more is_in_name named.others text between rest c named.run is next;
  spelled = ap (λ bs. bs ++ encode_utf8 c) named.spelled ∙ sym (encodes-more (first ∷ named.others) c);
}

kinds : (first : ℕ) (cs : List ℕ) → begins_name first ≡ true → list_all is_in_name cs ≡ true → list_all is_in_name (first ∷ cs) ≡ true
kinds first cs begins all = cc

pub named-name : (first : ℕ) (name text between rest : List ℕ) → IsNamed first name between rest → begins_name first ≡ true
    → text ≡ encode_utf8 first ++ between → Name name text rest
named-name first name text between rest named begins is = (
  first,
  named.others,
  named.spelled,
  begins,
  record {
    whole = is ∙ ap (λ bs. encode_utf8 first ++ bs) named.run.whole
        ∙ sym (append_assoc (encode_utf8 first) (encode_utf8_all named.others) rest);
    kind = kinds first named.others begins named.run.kind;
  },
)

-- ---- in quotes

pub record IsStarted (q : ℕ) (string text rest : List ℕ) : Type 0 where
  pub characters : List ℕ
  pub pieces : Many (Piece q) characters text rest
  pub spelled : string ≡ encode_utf8_all characters

pub started-none : (q : ℕ) (text : List ℕ) → IsStarted q [] text text
started-none q text = record { characters = []; pieces = refl; spelled = refl }

pub started-more : (q : ℕ) (string text between rest : List ℕ) (c : ℕ) → IsStarted q string text between → Piece q c between rest
    → IsStarted q (string ++ encode_utf8 c) text rest
started-more q string text between rest c started piece = record {
  characters = started.characters ++ c ∷ [];
  pieces = many-more (Piece q) started.characters c text between rest started.pieces piece;
  spelled = ap (λ bs. bs ++ encode_utf8 c) started.spelled ∙ sym (encodes-more started.characters c);
}

pub started-quoted : (q : ℕ) (string text begin between rest : List ℕ) → IsStarted q string begin between → Mark q text begin
    → Mark q between rest → Quoted q string text rest
started-quoted q string text begin between rest started first last =
    (started.characters, started.spelled, (begin, first, (between, started.pieces, last)))
