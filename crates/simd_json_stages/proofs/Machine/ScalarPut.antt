-- A scalar that becomes a node, or is rejected: a decimal's literal is UTF-8 and ends inside the input, and a fault is of no scalar.
use Rattle.std.proofs.Common.{◌≡◌, ◌≢◌, refl, sym, ◌∙◌, ap, ap₂, subst, ℕ, ◌+◌, ◌<◌, ◌≤◌, inl, inr, List, [], ◌∷◌, ◌++◌, length, get_or}
use Rattle.std.proofs.Common.{take, drop, Bool, true, false, ◌||◌, ◌&&◌, ◌==◌, nat_eq, nat_le, nat_lt, arith}
use Rattle.std.specs.Prelude.{Option, Some, None, Result, Ok, Err, IfOk, IsUtf8, codes, if◌then◌else◌}
use Rattle.std.specs.List.{starts_with}
use Rattle.std.specs.Str.{IsAscii}
use Rattle.std.proofs.lemmas.Bool.{and_parts, cases_lt, cond_both, leb-false}
use Rattle.std.proofs.lemmas.List.{get_or_past, length-drop}
use Rattle.std.proofs.lemmas.Str.{IsUtf8-from_ascii}
use Rattle.simd_json_parts.specs.AtomAt.{atom_at, atom_or}
use Rattle.simd_json_parts.specs.Bytes.{quote, is_terminator, byte_at}
use Rattle.simd_json_parts.specs.Derivatives.{matches, longest_prefix}
use Rattle.simd_json_parts.specs.Descent.{is_container}
use Rattle.simd_json_parts.specs.Document.{Document, null, boolean, integer, decimal, array, object}
use Rattle.simd_json_parts.specs.Faults.{fault_at, fault_with}
use Rattle.simd_json_parts.specs.Integers.{integer_node, max_magnitude, max_magnitude_64}
use Rattle.simd_json_parts.specs.Listing.{listing}
use Rattle.simd_json_parts.specs.Nodes.{Item, static_item, decimal_item}
use Rattle.simd_json_parts.specs.NumberAt.{number_at, integer_or, first_excess}
use Rattle.simd_json_parts.specs.Numbers.{number_literal, integer_literal, has_minus, magnitude}
use Rattle.simd_json_parts.specs.StringAt.{string_at}
use Rattle.simd_json_parts.specs.Tokens.{Form, begin_array, end_array, begin_object, end_object, name_separator, value_separator}
use Rattle.simd_json_parts.specs.Tokens.{string_token, scalar, form_at}
use Rattle.simd_json_parts.specs.declared.error.Error.{Error}
use Rattle.simd_json_parts.specs.declared.error.ErrorType.{ErrorType}
use Rattle.simd_json_parts.specs.declared.error.ErrorType.TheVariants.{ExpectedTrue, ExpectedFalse, ExpectedNull, InvalidNumber}
use Rattle.simd_json_parts.proofs.Patterns.Bytes.{All-Matches}
use Rattle.simd_json_parts.proofs.Patterns.Sets.{matches-Matches, longest_prefix-le}
use Rattle.simd_json_scalars.specs.NumberRead.{IsNumberAt}
use Rattle.simd_json_scalars.specs.declared.numberparse.Number.TheVariants.{Integer}
use Rattle.simd_json_stages.specs.Inputs.{HasInteger, HasString}
use Rattle.simd_json_stages.specs.Placed.{is_long}
use Rattle.simd_json_stages.specs.Put.{AtNumber, IsScalarPut, IsNoScalar}
use Rattle.simd_json_stages.specs.declared.stage2.progress.Progress.{Progress}
use Rattle.simd_json_stages.specs.Rejections.{error_type, rejected_kind, number_rejection}
use Rattle.simd_json_parts.specs.declared.node.StaticNode.{StaticNode}
use Rattle.simd_json_stages.specs.declared.stage2.fault.Fault.{Fault}
use Rattle.simd_json_stages.specs.declared.stage2.fault.FaultKind.{FaultKind}
use Rattle.simd_json_stages.specs.declared.stage2.fault.FaultKind.TheVariants as kinds
use Rattle.simd_json_stages.proofs.Tokens.ScalarLaws.{is_no_scalar, number_at-within}
use Rattle.simd_json_stages.proofs.Tokens.TokenForms.{no_value}

-- ---- a decimal

-- the bytes of a number are ASCII
number-utf8 : (bs : List ℕ) → matches number_literal bs ≡ true → IsUtf8 bs
number-utf8 bs h =
    let all : (i d : ℕ) → i < length bs → nat_le 128 (get_or bs i d) ≡ false = All-Matches (λ c. nat_le 128 c)
    number_literal bs refl (matches-Matches number_literal bs h) in
    let ascii : IsAscii bs = λ i. elim (cases_lt i (length bs))
    [ inl l ↦ leb-false 128 (get_or bs i 0) (all i 0 l) | inr past ↦ omega (arith, get_or_past bs i 0 past) ] in
    IsUtf8-from_ascii bs ascii

-- of an integer the literal is this one, which says sign and magnitude
record IntegerHere (b : List ℕ) (i : ℕ) (minus : Bool) (m end : ℕ) : Type 0 where
  len : ℕ
  ends : end ≡ i + len
  within : end ≤ length b
  utf8 : IsUtf8 (take len (drop i b))
  matched : matches integer_literal (take len (drop i b)) ≡ true
  minus_is : minus ≡ has_minus (take len (drop i b))
  magnitude_is : m ≡ magnitude (take len (drop i b))

-- the literal of a number is UTF-8, and it ends inside the input
abbrev LiteralHere : List ℕ → ℕ → Document → ℕ → Type 0
LiteralHere b i (integer minus m) end = IntegerHere b i minus m end
LiteralHere b i (decimal literal) end = IsUtf8 literal × (end ≤ length b)
LiteralHere b i _ end = Unit {0}

abbrev ScalarHere : List ℕ → ℕ → Result (Document × ℕ) Error → Type 0
ScalarHere b i r = IfOk r (λ p. LiteralHere b i p.0 p.1)

abbrev FormHere : List ℕ → ℕ → Form → Type 0
FormHere b i (scalar r) = ScalarHere b i r
FormHere b i _ = Unit {0}

atom-here : (b : List ℕ) (i : ℕ) → ScalarHere b i (atom_at b i)
unfolding atom_at
atom-here b i =
    cond_both (byte_at b i == 116) _ _ (ScalarHere b i) (λ _. letters (codes "true") (boolean true) ExpectedTrue tt)
    (λ _. cond_both (byte_at b i == 102) _ _ (ScalarHere b i) (λ _. letters (codes "false") (boolean false) ExpectedFalse tt)
    (λ _. letters (codes "null") null ExpectedNull tt))
  where
    letters : (bs : List ℕ) (d : Document) (kind : ErrorType) → LiteralHere b i d (i + length bs) → ScalarHere b i (atom_or bs d kind b i)
    letters bs d kind h = cond_both (starts_with nat_eq (drop i b) bs && is_terminator (byte_at b (i + length bs))) _ _
        (ScalarHere b i) (λ _. h) (λ _. tt)

number-here : (b : List ℕ) (i : ℕ) → i ≤ length b → ScalarHere b i (number_at b i)
unfolding number_at
number-here b i l =
    cond_both (matches number_literal literal && is_terminator (byte_at b end)) _ _ (ScalarHere b i)
    (λ h. cond_both (matches integer_literal literal) _ _ (ScalarHere b i) (λ is. whole (and_parts _ _ h).0 is (first_excess literal))
    (λ _. (number-utf8 literal (and_parts _ _ h).0, within)))
    (λ _. tt)
  where
    n : ℕ
    n = longest_prefix number_literal (drop i b)

    literal : List ℕ
    literal = take n (drop i b)

    end : ℕ
    end = i + n

    within : end ≤ length b
    within = omega (arith, longest_prefix-le number_literal (drop i b), length-drop i b)

    whole : matches number_literal literal ≡ true → matches integer_literal literal ≡ true → (o : Option ℕ)
        → ScalarHere b i (integer_or b i literal end o)
    whole number is (Some k) = tt
    whole number is None = cond_both (nat_lt (max_magnitude (has_minus literal)) (magnitude literal)) _ _ (ScalarHere b i) (λ _. tt)
        (λ _. record {
          len = n;
          ends = refl;
          within = within;
          utf8 = number-utf8 literal number;
          matched = is;
          minus_is = refl;
          magnitude_is = refl;
        })

form-here : (b : List ℕ) (i : ℕ) → i ≤ length b → FormHere b i (form_at b i)
unfolding form_at
form-here b i l =
    structural 91 begin_array _ tt (structural 93 end_array _ tt (structural 123 begin_object _ tt (structural 125 end_object _ tt
    (structural 58 name_separator _ tt (structural 44 value_separator _ tt (structural quote (string_token (string_at b i)) _ tt
    (cond_both ((x == 116) || (x == 102) || (x == 110)) _ _ (FormHere b i) (λ _. atom-here b i)
    (λ _. cond_both ((x == 45) || (nat_le 48 x && nat_le x 57)) _ _ (FormHere b i) (λ _. number-here b i l) (λ _. tt)))))))))
  where
    x : ℕ
    x = byte_at b i

    structural : (c : ℕ) (form other : Form) → FormHere b i form → FormHere b i other → FormHere b i (if x == c then form else other)
    structural c form other here after = cond_both (x == c) form other (FormHere b i) (λ _. here) (λ _. after)

pub decimal-here : (b : List ℕ) (i : ℕ) (literal : List ℕ) (end : ℕ) → i ≤ length b
    → form_at b i ≡ scalar (Ok (decimal literal, end)) → IsUtf8 literal × (end ≤ length b)
decimal-here b i literal end l is = subst (FormHere b i) is (form-here b i l)

-- so its literal can be shared, and is put
module _ {b : List ℕ} (can_read : List ℕ → ℕ → Type 0) {capacity written : ℕ} {p : Progress}
    (given : AtNumber b (can_read b) capacity written p)
  where
    pub decimal-asked : (len : ℕ) → number_at b p.at ≡ Ok (decimal (take len (drop p.at b)), p.at + len) → HasString can_read p.at len
    decimal-asked len is =
        let here = decimal-here b p.at (take len (drop p.at b)) (p.at + len) (omega (arith, given.at.within)) (given.form ∙ ap scalar is) in
        record { bytes = record { b = b; reads = given.at.input; within = here.1 }; utf8 = here.0 }

    pub decimal-put : {reads : ℕ → Type 0} {nodes nodes' : List Item} (len : ℕ)
        → number_at b p.at ≡ Ok (decimal (take len (drop p.at b)), p.at + len)
        → nodes' ≡ nodes ++ decimal_item (take len (drop p.at b)) ∷ [] → reads (p.at + len) → IsScalarPut b p.at nodes nodes' reads
    decimal-put len is put input =
        record {
          document = decimal (take len (drop p.at b));
          end = p.at + len;
          node = decimal_item (take len (drop p.at b));
          read = given.form ∙ ap scalar is;
          listed = refl;
          single = refl;
          put = put;
          input = inr input;
        }

    -- so is that of an integer
    pub integer-asked : (value : StaticNode) (len : ℕ) → IsNumberAt b p.at (Integer value len) → HasInteger can_read p.at len value
    integer-asked value len is =
        let here : IntegerHere b p.at is.0 is.1 (p.at + len) = subst (ScalarHere b p.at) is.2
        (number-here b p.at (omega (arith, given.at.within))) in
        let same : here.len ≡ len = omega (arith, here.ends) in
        record {
          string = record {
            bytes = record { b = b; reads = given.at.input; within = here.within };
            utf8 = subst (λ k. IsUtf8 (take k (drop p.at b))) same here.utf8;
          };
          matched = subst (λ k. matches integer_literal (take k (drop p.at b)) ≡ true) same here.matched;
          is = is.3 ∙ ap₂ integer_node here.minus_is here.magnitude_is
              ∙ ap (λ k. integer_node (has_minus (take k (drop p.at b))) (magnitude (take k (drop p.at b)))) same;
        }

    pub integer-put : {reads : ℕ → Type 0} {nodes nodes' : List Item} (value : StaticNode) (len : ℕ)
        → IsNumberAt b p.at (Integer value len) → nodes' ≡ nodes ++ static_item value ∷ [] → reads (p.at + len)
        → IsScalarPut b p.at nodes nodes' reads
    integer-put value len is put input =
        record {
          document = integer is.0 is.1;
          end = p.at + len;
          node = static_item value;
          read = given.form ∙ ap scalar is.2;
          listed = ap (λ s. static_item s ∷ []) (sym is.3);
          single = refl;
          put = put;
          input = inr input;
        }

-- ---- a node of fixed size

-- an integer of 64 bits
pub integer-short : (minus : Bool) (m : ℕ) → m ≤ max_magnitude_64 minus → is_long (integer_node minus m) ≡ false
integer-short true m l = cond_both (nat_le m (max_magnitude_64 true)) _ _ (λ s. is_long s ≡ false) (λ _. refl)
    (λ no. absurd (omega (arith, l, leb-false m (max_magnitude_64 true) no)))
integer-short false m l = cond_both (nat_le m (max_magnitude_64 false)) _ _ (λ s. is_long s ≡ false) (λ _. refl)
    (λ no. absurd (omega (arith, l, leb-false m (max_magnitude_64 false) no)))

static-single : (d : Document) (s : StaticNode) → listing d ≡ static_item s ∷ [] → is_container d ≡ false
static-single (array ds) s listed = cc listed
static-single (object ms) s listed = cc listed
static-single _ s listed = refl

-- nothing is split off before it
pub static-put : {b : List ℕ} {i : ℕ} {nodes nodes' : List Item} {reads : ℕ → Type 0} (d : Document) (s : StaticNode) (end : ℕ) → reads i
    → form_at b i ≡ scalar (Ok (d, end)) → listing d ≡ static_item s ∷ [] → nodes' ≡ nodes ++ static_item s ∷ []
    → IsScalarPut b i nodes nodes' reads
static-put d s end input is listed put =
    record {
      document = d;
      end = end;
      node = static_item s;
      read = is;
      listed = listed;
      single = static-single d s listed;
      put = put;
      input = inl input;
    }

-- ---- a rejection

-- a number's lies inside the input
pub offset-within : (b : List ℕ) (i offset : ℕ) → i ≤ length b → number_at b i ≡ Err (fault_at b InvalidNumber (i + offset))
    → offset ≤ length (drop i b)
offset-within b i offset l is = omega (arith, length-drop i b, number_at-within b i (fault_at b InvalidNumber (i + offset)) l is)

pub number-rejected : (b : List ℕ) (i offset : ℕ) (f : Fault) → form_at b i ≡ scalar (number_at b i)
    → number_at b i ≡ Err (fault_at b InvalidNumber (i + offset))
    → f ≡ number_rejection b (i + offset) → IsNoScalar b i f
number-rejected b i offset f form is same = subst (IsNoScalar b i) (sym same) (inl (form ∙ ap scalar is))

-- an atom's, or that of a token that begins no value
pub atom-rejected : (b : List ℕ) (i c : ℕ) (f : Fault) → f ≡ record { kind = rejected_kind c; index = i; byte = c } → c ≡ byte_at b i
    → form_at b i ≡ scalar (Err (fault_at b (error_type (rejected_kind c)) i)) → IsNoScalar b i f
atom-rejected b i c f same e is = subst (IsNoScalar b i) (sym same)
    (inl (is ∙ ap (λ x. scalar (Err (fault_with (error_type (rejected_kind c)) i x))) (sym e)))

pub none-rejected : (b : List ℕ) (i c : ℕ) (f : Fault) → f ≡ record { kind = rejected_kind c; index = i; byte = c } → c ≡ byte_at b i
    → rejected_kind c ≡ kinds.InternalError → is_no_scalar (form_at b i) ≡ true → c ≢ 34 → c ≢ 91 → c ≢ 123 → IsNoScalar b i f
none-rejected b i c f same e kind none no_string no_array no_object =
    inr (
      no_value b i none (λ h. no_string (e ∙ h)) (λ h. no_array (e ∙ h)) (λ h. no_object (e ∙ h)),
      same ∙ ap₂ (λ (k : FaultKind) (x : ℕ). let f : Fault = record { kind = k; index = i; byte = x } in f) kind e,
    )
