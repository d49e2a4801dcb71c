-- What may follow a string, an atom or a number.
use Rattle.std.proofs.Common.{◌≡◌, refl, sym, ◌∙◌, ap, subst, ℕ, List, ◌++◌, true}
use Rattle.std.proofs.lemmas.Bool.{eqb-false}
use Rattle.simd_json_parts.specs.Bytes.{quote, is_terminator}
use Rattle.simd_json_parts.specs.Document.{Document, string}
use Rattle.simd_json_parts.specs.Grammar.{Joined, IsValue}
use Rattle.simd_json_parts.specs.Strings.{IsStringLiteral}
use Rattle.simd_json_theorems.proofs.Unique.LeadingBytes.{leading, value-leads, string-leads, Leads-one}
use Rattle.simd_json_theorems.proofs.Unique.ScalarPrefixes.{string-one}
use Rattle.simd_json_theorems.proofs.Complete.TokensHere.{Ended, ended-space}
use Rattle.simd_json_theorems.proofs.Containers.{IsName}
use Rattle.simd_json_theorems.proofs.Unique.OneDocument.{value-one}
use Rattle.simd_json_theorems.proofs.Faults.Follows.{SpaceThen, ItemThen, ValueThen, CanFollow, LeadsTo}

-- A name, whatever stands after it,
pub LeadsTo-name : (A : List ℕ → Type 0) (name own : List ℕ) (n : ℕ) → IsStringLiteral own name
    → LeadsTo (ItemThen (List ℕ) IsName A) own A n
LeadsTo-name A name own n is = record {
  goes = λ rest h. (name, record { left = own; right = rest; whole = refl; left_holds = is; right_holds = h });
  comes = λ rest _ (v : ItemThen (List ℕ) IsName A (own ++ rest)).
      subst (SpaceThen A) (sym (string-one name v.0 own v.1.left rest v.1.right is v.1.left_holds v.1.whole).1) v.1.right_holds;
}

-- a string,
string-comes : (A : List ℕ → Type 0) (t own : List ℕ) (d : Document) (rest : List ℕ) → IsStringLiteral own t
    → Joined (IsValue d) (SpaceThen A) (own ++ rest) → SpaceThen A rest
string-comes A t own (string s) rest is j =
    subst (SpaceThen A) (sym (string-one t s own j.left rest j.right is j.left_holds j.whole).1) j.right_holds
string-comes A t own d rest is j =
    absurd (eqb-false quote (leading d) refl
    (Leads-one quote (leading d) own j.left rest j.right (string-leads own t is) (value-leads d j.left j.left_holds) j.whole))

pub LeadsTo-string : (A : List ℕ → Type 0) (t own : List ℕ) (n : ℕ) → IsStringLiteral own t → LeadsTo (ValueThen A) own A n
LeadsTo-string A t own n is = record {
  goes = λ rest h. (string t, record { left = own; right = rest; whole = refl; left_holds = is; right_holds = h });
  comes = λ rest _ (v : ValueThen A (own ++ rest)). string-comes A t own v.0 rest is v.1;
}

-- and any value with a terminator or the end after it.
pub LeadsTo-value : (A : List ℕ → Type 0) → CanFollow A → (d : Document) (own : List ℕ) (n : ℕ) → IsValue d own
    → is_terminator n ≡ true → LeadsTo (ValueThen A) own A n
LeadsTo-value A a d own n is ended = record {
  goes = λ rest h. (d, record { left = own; right = rest; whole = refl; left_holds = is; right_holds = h });
  comes = λ rest first (v : ValueThen A (own ++ rest)).
      let s : SpaceThen A v.1.right = v.1.right_holds in
      let after : Ended v.1.right =
      subst Ended (sym s.whole) (ended-space s.left s.right s.left_holds (a.delimited s.right s.right_holds).0) in
      subst (SpaceThen A) (sym
      (value-one d v.0 own v.1.left rest v.1.right is v.1.left_holds v.1.whole (ap is_terminator first ∙ ended) after).1) s;
}
