-- The string at the last token: where it ends, and that nothing of it is a position.
use Rattle.std.proofs.Common.{◌≡◌, refl, sym, ◌∙◌, ap, subst, ℕ, suc, ◌+◌, ◌-◌, ◌<◌, ◌≤◌, ◌⊎◌, inl, inr, List, [], ◌∷◌, length, get_or}
use Rattle.std.proofs.Common.{true, false, not, ◌==◌, ◌&&◌, Contains, arith}
use Rattle.std.specs.Prelude.{None, Err, slice_range}
use Rattle.std.proofs.lemmas.Bool.{and_parts, eqb-true, cases_Bool, cases_lt, false≢true}
use Rattle.simd_json_parts.specs.Bytes.{quote, is_structural, is_whitespace, byte_at}
use Rattle.simd_json_parts.specs.InputFaults.{input_fault}
use Rattle.simd_json_parts.specs.Positions.{is_even, backslashes_before, is_real_quote, is_inside, is_fresh, is_position, positions}
use Rattle.simd_json_parts.specs.StringAt.{closing_quote, escape_fault, read_pieces, string_read, string_at}
use Rattle.simd_json_parts.specs.declared.error.Error.{Error}
use Rattle.simd_json_parts.proofs.Positions.Between.{string-ends}
use Rattle.simd_json_parts.proofs.Positions.Boundaries.{Boundary, closing_quote-next, closed-inside}
use Rattle.simd_json_parts.proofs.Positions.Order.{Contains-positions}
use Rattle.simd_json_parts.proofs.Positions.Scan.{is_closed, is_closed-quote, is_closed-other, is_inside-at, is_position-picks}
use Rattle.simd_json_stages.specs.Members.{AtString}
use Rattle.simd_json_stages.specs.Inputs.{IsStringBefore}
use Rattle.simd_json_stages.specs.Progresses.{IsRead}
use Rattle.simd_json_stages.specs.declared.stage2.progress.Progress.{Progress}
use Rattle.simd_json_stages.specs.declared.stage2.progress.Route.{Route}
use Rattle.simd_json_stages.proofs.Tokens.Places.{token, at-position, at-inside, none-between, next-there, at-before_next, next-inside}
use Rattle.simd_json_stages.proofs.Tokens.Places.{string-closed, string-utf8}

-- ---- after an opening quote

-- After a position with a quote a string is open.
opened : (b : List ℕ) (i : ℕ) → is_position b i ≡ true → byte_at b i ≡ quote → is_closed b (suc i) ≡ false
opened b i h e = elim (cases_Bool (is_closed b (suc i))) [
  | inr is_open ↦ is_open
  | inl closed ↦
      let outside : is_inside b i ≡ false = is_inside-at b i true closed in
      elim (cases_Bool (is_real_quote b i)) [
        | inl real ↦ absurd (false≢true (sym (is_position-picks b i true false _ _ _ real outside refl refl refl) ∙ h))
        | inr other ↦ elim (cases_Bool (is_fresh b i)) [
          | inr stale ↦ absurd (false≢true (sym (is_position-picks b i false false false false false other outside
              (ap is_structural e) (ap is_whitespace e) stale) ∙ h))
          | inl fresh ↦
              let at : Boundary b i = record { closed = sym (is_closed-other b i other) ∙ closed; free = inr fresh } in
              closed-inside b i at (ap (λ x. x == quote) e) (suc i) (omega arith) (omega (arith, (closing_quote-next b i).0))
        ]
      ]
]

-- So the next index is no position.
no_position-after : (b : List ℕ) (i : ℕ) → is_closed b (suc i) ≡ false → is_position b (suc i) ≡ false
no_position-after b i is_open = elim (cases_Bool (is_real_quote b (suc i))) [
  | inl real ↦ is_position-picks b (suc i) true false _ _ _ real
      (is_inside-at b (suc i) true (is_closed-quote b (suc i) real ∙ ap not is_open)) refl refl refl
  | inr other ↦ is_position-picks b (suc i) false true _ _ _ other
      (is_inside-at b (suc i) false (is_closed-other b (suc i) other ∙ is_open)) refl refl refl
]

-- ---- a bad escape

-- it is before the closing quote
string_read-fault : (r : List ℕ × List ℕ) (close : ℕ) (e : Error) → string_read r close ≡ Err e → e.index ≤ close
string_read-fault (u, []) close e h = cc h
string_read-fault (u, x ∷ left) close e h =
    let same : escape_fault (close - length (x ∷ left)) (byte_at left 0) ≡ e = cc h in
    let place : close - length (x ∷ left) ≡ e.index = ap (λ (f : Error). f.index) same in
    omega arith

string_at-fault : (b : List ℕ) (i : ℕ) (e : Error) → string_at b i ≡ Err e → e.index ≤ closing_quote b i
unfolding string_at
string_at-fault b i e h = string_read-fault (read_pieces 0 (slice_range b (suc i) (closing_quote b i))) (closing_quote b i) e h

-- ---- the string at the last token

-- as `push_string` is called, where `next` is the next position or the end of the input
module _ {b : List ℕ} {r : Route} {reads : ℕ → Type 0} {capacity written : ℕ} {p : Progress} (at : AtString b r reads capacity written p)
  where
    none : input_fault b ≡ None
    none = at.on_route.whole

    read : IsRead b (positions b) p
    read = subst (λ ps. IsRead b ps p) at.on_route.positions at.read

    opening : byte_at b p.at ≡ quote
    opening = sym read.first ∙ at.opening

    pub at-within : p.at < length b
    at-within = at-inside b p read

    closed : closing_quote b p.at < length b
    closed = string-closed b p.at (at-position b p read) opening none

    unfold-real : (k : ℕ) → is_real_quote b k ≡ true → ((byte_at b k == quote) && is_even (backslashes_before b k)) ≡ true
    unfolding is_real_quote
    unfold-real k h = h

    quoted : byte_at b (closing_quote b p.at) ≡ quote
    quoted = eqb-true _ quote (and_parts _ _ (unfold-real (closing_quote b p.at) ((closing_quote-next b p.at).2 closed))).0

    -- the next position is after the byte that follows the opening quote
    later : (next : ℕ) → next ≡ get_or (positions b) p.read (length b) → Contains (positions b) next ⊎ (next ≡ length b) → p.at + 1 < next
    later next is there =
        let before : p.at < next = omega (arith, is, at-before_next b p read) in
        elim (cases_lt (suc p.at) next) [
          | inl h ↦ omega arith
          | inr h ↦
              let same : next ≡ suc p.at = omega arith in
              elim there [
                | inl c ↦ absurd (false≢true (sym (no_position-after b p.at
                    (opened b p.at ((Contains-positions b p.at).0 (at-position b p read)).1 opening))
                    ∙ ap (is_position b) (sym same) ∙ ((Contains-positions b next).0 c).1))
                | inr last ↦ absurd (omega (arith, closed, (closing_quote-next b p.at).0, last, same))
              ]
        ]

    -- its closing quote is the last one before that
    pub string-before : {next end : ℕ} → next ≡ get_or r.indexes.now p.read end → end ≡ length b → IsStringBefore b p.at next
    string-before {next} is' whole =
        let is : next ≡ get_or (positions b) p.read (length b) = is' ∙ ap (get_or r.indexes.now p.read) whole
        ∙ ap (λ ps. get_or ps p.read (length b)) at.on_route.positions in
        let there : Contains (positions b) next ⊎ (next ≡ length b) = subst (λ n. Contains (positions b) n ⊎ (n ≡ length b))
        (sym is) (next-there b p) in
        let ends = string-ends b (token b p.at) next at.token opening closed (later next is there) there
        (λ (j : ℕ) (f : p.at < j) (t : j < next). none-between b p read j f (omega (arith, is))) in
        record {
          opening = opening;
          closing = quoted;
          later = omega (arith, (closing_quote-next b p.at).0);
          closed = ends.0;
          within = omega (arith, is, next-inside b p);
          last = ends.1;
          utf8 = string-utf8 b p.at at-within opening none;
        }

    pub bad-within : (offset letter : ℕ) → string_at b p.at ≡ Err (escape_fault (p.at + offset) letter) → p.at + offset < length b
    bad-within offset letter e = omega (arith, closed, string_at-fault b p.at (escape_fault (p.at + offset) letter) e)
