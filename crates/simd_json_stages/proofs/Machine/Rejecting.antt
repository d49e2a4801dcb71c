-- The steps of the machine that reject a token: the fault is the whole descent's.
use Rattle.std.proofs.Common.{inl, inr, ◌≡◌, ◌≢◌, refl, sym, ◌∙◌, ap, subst, ℕ, ◌+◌, ◌-◌, ◌<◌, ◌≤◌, List, [], ◌∷◌, ◌++◌, Bool, true, false}
use Rattle.std.proofs.Common.{length-append, length, get_or, take, drop, cond, arith}
use Rattle.std.specs.Prelude.{Ok, Err, if◌then◌else◌}
use Rattle.std.proofs.lemmas.List.{append-nil}
use Rattle.std.proofs.Math.Seq.{take-append_seam, drop-length}
use Rattle.simd_json_parts.specs.Bytes.{byte_at, is_closing}
use Rattle.simd_json_parts.specs.Document.{Document}
use Rattle.simd_json_parts.specs.Nodes.{Item}
use Rattle.simd_json_parts.specs.Descent.{◌>>=◌, is_container, last_index, last_read, root_end}
use Rattle.simd_json_parts.specs.Faults.{fault_at, fault_with}
use Rattle.simd_json_parts.specs.Tokens.{Token, Form, name_separator, value_separator, string_token, form_at}
use Rattle.simd_json_parts.specs.TokensAlong.{goes_on, tokens_along}
use Rattle.simd_json_parts.specs.declared.error.Error.{Error}
use Rattle.simd_json_parts.specs.declared.error.ErrorType.{ErrorType}
use Rattle.simd_json_parts.specs.declared.error.ErrorType.TheVariants.{Syntax, InternalError, ExpectedObjectKey}
use Rattle.simd_json_parts.specs.declared.error.ErrorType.TheVariants.{TrailingData}
use Rattle.simd_json_stages.specs.Continued.{Open, in_array, in_object, at_value, at_name, after_value}
use Rattle.simd_json_stages.specs.Building.{closer, content_kind, end_kind, frames, HoldsValue, missing, whole, AtValue, AtName}
use Rattle.simd_json_stages.specs.Building.{AfterValue, IsFirstFault}
use Rattle.simd_json_stages.specs.Progresses.{IsNext}
use Rattle.simd_json_stages.specs.Put.{IsBadString, IsNoScalar, IsStringPut}
use Rattle.simd_json_stages.specs.Rejections.{error_type}
use Rattle.simd_json_stages.specs.declared.stage2.stack.Container.{Container}
use Rattle.simd_json_stages.specs.declared.stage2.stack.Container.TheVariants.{Array, Object}
use Rattle.simd_json_stages.specs.declared.stage2.progress.Progress.{Progress}
use Rattle.simd_json_stages.specs.declared.stage2.stack.StackState.{StackState}
use Rattle.simd_json_stages.specs.declared.stage2.fault.Fault.{Fault}
use Rattle.simd_json_stages.specs.declared.stage2.fault.FaultKind.{FaultKind}
use Rattle.simd_json_stages.specs.declared.stage2.fault.FaultKind.TheVariants as kinds
use Rattle.simd_json_stages.proofs.Tokens.Places.{token}
use Rattle.simd_json_stages.proofs.Machine.Steps.{opening_form, container-open, container-too_deep, container-missing, after_value-comma}
use Rattle.simd_json_stages.proofs.Machine.Steps.{at_value-missing, at_value-fault, at_value-unexpected, after_value-none}
use Rattle.simd_json_stages.proofs.Machine.Steps.{after_value-unexpected, at_name-value, at_name-missing, at_name-other, at_name-fault}
use Rattle.simd_json_stages.proofs.Machine.Steps.{at_name-no_more, at_name-no_colon, after_value-member_comma, at_value-string_fault}
use Rattle.simd_json_stages.proofs.Tokens.TokenForms.{along-form, commas, last_index-append, next, colons, quotes, no_string}
use Rattle.simd_json_stages.proofs.Tokens.TokenForms.{no_colon, no_ending, no_member_ending}
use Rattle.simd_json_stages.proofs.Machine.Bounds.{next-byte, next-read}
use Rattle.simd_json_stages.proofs.Machine.BuildingSteps.{extended, reached_next, opening-form, opening-goes_on, root-whole}

-- the kind of fault that the descent has after a root
kind-of : (is : Bool) → (if is then InternalError else TrailingData) ≡ error_type (end_kind is)
kind-of true = refl
kind-of false = refl

-- ---- where no token is left, the last one read is reported

module _ (b ps : List ℕ) where
  missing-at : (before : List Token) (i : ℕ) → tokens_along b ps ≡ before → last_index before ≡ i → missing b ps ≡ fault_at b Syntax i
  missing-at before i along' last = ap (λ ts. fault_at b Syntax (last_index ts)) along' ∙ ap (fault_at b Syntax) last

  nothing_left : (k : ℕ) → k ≡ length ps → drop k ps ≡ []
  nothing_left k end = ap (λ n. drop n ps) end ∙ drop-length ps

  at_end : (before : List Token) (k : ℕ) → k ≡ length ps → tokens_along b ps ≡ before ++ tokens_along b (drop k ps)
      → tokens_along b ps ≡ before
  at_end before k end along' = along' ∙ ap (λ us. before ++ tokens_along b us) (nothing_left k end) ∙ append-nil before

  -- after the token at i none is left
  ends_at : (before : List Token) (i k : ℕ) {form : Form} → form_at b i ≡ form → goes_on form ≡ true → k ≡ length ps
      → tokens_along b ps ≡ before ++ tokens_along b (i ∷ drop k ps) → missing b ps ≡ fault_at b Syntax i
  ends_at before i k is goes end along' =
      missing-at (before ++ token b i ∷ []) i (at_end (before ++ token b i ∷ []) k end
      (extended b ps before i (drop k ps) is goes along')) (last_index-append before (token b i))

  -- it is the only one that is left
  only : (i k : ℕ) {form : Form} → form_at b i ≡ form → goes_on form ≡ true → k ≡ length ps
      → tokens_along b (i ∷ drop k ps) ≡ token b i ∷ []
  only i k {form} is goes end = along-form b i (drop k ps) form is goes ∙ ap (λ us. token b i ∷ tokens_along b us) (nothing_left k end)

  -- what is left after a root is reported at the last token that was read
  left_over : (before rest : List Token) (u : Token) (us : List Token) (d : Document) → tokens_along b ps ≡ before ++ rest → rest ≡ u ∷ us
      → root_end b (tokens_along b ps) (d, rest) ≡ Err (fault_at b (if is_container d then InternalError else TrailingData)
      (last_index before))
  left_over before rest u us d along' is =
      let size : length (before ++ rest) - length rest ≡ length before = omega (arith, length-append before rest) in
      ap (λ ts. root_end b ts (d, rest)) along' ∙ ap (λ zs. root_end b (before ++ rest) (d, zs)) is
      ∙ ap (λ zs. Err (fault_at b (if is_container d then InternalError else TrailingData) (last_read (before ++ rest) zs))) (sym is)
      ∙ ap (λ n. Err (fault_at b (if is_container d then InternalError else TrailingData) n))
      (ap (λ n. last_index (take n (before ++ rest))) size ∙ ap last_index (take-append_seam before rest))

-- ---- the faults

-- the fault of this kind at a token
abbrev pub RejectedAt : List ℕ → List ℕ → ℕ → FaultKind → ℕ → ℕ → Type 0
RejectedAt b ps limit kind i x = IsFirstFault b ps limit (record { kind = kind; index = i; byte = x })

module _ (b ps : List ℕ) (limit : ℕ) where
  rejected : (f : Fault) → whole b ps limit ≡ Err (fault_with (error_type f.kind) f.index f.byte) → IsFirstFault b ps limit f
  rejected f is = ap (λ r. r >>= root_end b (tokens_along b ps)) is

  rejected-here : (kind : FaultKind) (i x : ℕ) → x ≡ byte_at b i → whole b ps limit ≡ Err (fault_at b (error_type kind) i)
      → RejectedAt b ps limit kind i x
  rejected-here kind i x first is = subst (RejectedAt b ps limit kind i) (sym first)
      (rejected (record { kind = kind; index = i; byte = byte_at b i }) is)

module _ {b ps : List ℕ} {limit : ℕ} {stack : List StackState} {nodes : List Item} {p : Progress} where
  -- one container too many
  pub rejects-deep : (c : Container) → AtValue b ps limit stack nodes p → p.byte ≡ byte_at b p.at → limit ≤ p.depth
      → p.byte + 2 ≡ closer c → RejectedAt b ps limit kinds.DepthLimitExceeded p.at p.byte
  rejects-deep c at first l e =
      let full : limit ≤ length at.opens = omega (arith, at.deep) in
      let is : form_at b p.at ≡ opening_form c = opening-form b c p.at (omega (arith, first, e)) in
      rejected-here b ps limit kinds.DepthLimitExceeded p.at p.byte first (at.same
      ∙ ap (at_value b (missing b ps) limit at.opens) (along-form b p.at (drop p.read ps) (opening_form c) is (opening-goes_on c))
      ∙ container-too_deep b (missing b ps) limit c at.opens (token b p.at) (tokens_along b (drop p.read ps)) full is)

  -- nothing after an opening bracket
  pub rejects-open_end : (c : Container) → AtValue b ps limit stack nodes p → p.byte ≡ byte_at b p.at → p.depth < limit
      → p.byte + 2 ≡ closer c → p.read ≡ length ps → RejectedAt b ps limit kinds.Syntax p.at (byte_at b p.at)
  rejects-open_end c at first l e end =
      let capacity : length at.opens < limit = omega (arith, at.deep) in
      let is : form_at b p.at ≡ opening_form c = opening-form b c p.at (omega (arith, first, e)) in
      rejected b ps limit (record { kind = kinds.Syntax; index = p.at; byte = byte_at b p.at }) (at.same
      ∙ ap (at_value b (missing b ps) limit at.opens) (only b ps p.at p.read is (opening-goes_on c) end)
      ∙ container-open b (missing b ps) limit c at.opens (token b p.at) [] capacity is
      ∙ container-missing b (missing b ps) limit c at.opens
      ∙ ap Err (ends_at b ps at.before p.at p.read is (opening-goes_on c) end at.along))

  -- a scalar that is rejected, or a token that begins no value
  pub rejects-scalar : (f : Fault) → AtValue b ps limit stack nodes p → IsNoScalar b p.at f → IsFirstFault b ps limit f
  rejects-scalar f at (inl is) =
      rejected b ps limit f (at.same ∙ at_value-fault b (missing b ps) limit at.opens (token b p.at)
      (cond (goes_on (form_at b p.at)) (tokens_along b (drop p.read ps)) []) (fault_with (error_type f.kind) f.index f.byte) is)
  rejects-scalar f at (inr (none, is)) =
      subst (IsFirstFault b ps limit) (sym is)
      (rejected-here b ps limit kinds.InternalError p.at (byte_at b p.at) refl
      (at.same ∙ at_value-unexpected b (missing b ps) limit at.opens (token b p.at)
      (cond (goes_on (form_at b p.at)) (tokens_along b (drop p.read ps)) []) (form_at b p.at) refl none))

  -- a bad string
  pub rejects-string : (f : Fault) → AtValue b ps limit stack nodes p → p.byte ≡ byte_at b p.at → p.byte ≡ 34 → IsBadString b p.at f
      → IsFirstFault b ps limit f
  rejects-string f at first e bad =
      let error : Error = fault_with (error_type f.kind) f.index f.byte in
      rejected b ps limit f (at.same ∙ at_value-string_fault b (missing b ps) limit at.opens (token b p.at)
      (cond (goes_on (form_at b p.at)) (tokens_along b (drop p.read ps)) []) error
      (quotes b p.at (sym first ∙ e) ∙ ap string_token bad))

  -- after a member nothing is left
  pub rejects-end : AfterValue b ps limit stack nodes p → 0 < p.depth → p.read ≡ length ps
      → RejectedAt b ps limit kinds.Syntax p.at (byte_at b p.at)
  rejects-end at l end =
      rejected b ps limit (record { kind = kinds.Syntax; index = p.at; byte = byte_at b p.at })
      (at.same ∙ ap (λ us. after_value b (missing b ps) limit at.opens at.last (tokens_along b us)) (nothing_left b ps p.read end)
      ∙ go at.opens at.deep ∙ ap Err (missing-at b ps at.before p.at (at_end b ps at.before p.read end at.along) at.reached))
    where
      go : (os : List Open) → length os ≡ p.depth → after_value b (missing b ps) limit os at.last [] ≡ Err (missing b ps)
      go [] deep = absurd (omega (arith, deep, l))
      go (o ∷ outer) deep = after_value-none b (missing b ps) limit o outer at.last

  -- after a comma nothing is left
  pub rejects-comma_end : {q : Progress} → AfterValue b ps limit stack nodes p → 0 < p.depth → IsNext b ps p q → q.byte ≡ 44
      → q.read ≡ length ps → RejectedAt b ps limit kinds.Syntax q.at (byte_at b q.at)
  rejects-comma_end at l n e end' =
      subst (λ (q : Progress). RejectedAt b ps limit kinds.Syntax q.at (byte_at b q.at)) (sym n.same)
      (rejected b ps limit (record { kind = kinds.Syntax; index = i; byte = byte_at b i })
      (at.same ∙ ap (after_value b (missing b ps) limit at.opens at.last) (next b ps p.read n.more ∙ only b ps i (p.read + 1) is refl end)
      ∙ go at.opens at.deep
      ∙ ap Err (ends_at b ps at.before i (p.read + 1) is refl end (reached_next b ps at.before p.read n.more at.along))))
    where
      i : ℕ
      i = get_or ps p.read 0

      is : form_at b i ≡ value_separator
      is = commas b i (next-byte n ∙ e)

      end : p.read + 1 ≡ length ps
      end = omega (arith, next-read n, end')

      go : (os : List Open) → length os ≡ p.depth → after_value b (missing b ps) limit os at.last (token b i ∷ []) ≡ Err (missing b ps)
      go [] deep = absurd (omega (arith, deep, l))
      go (in_array ds ∷ outer) deep = after_value-comma b (missing b ps) limit ds outer at.last (token b i) [] is
          ∙ at_value-missing b (missing b ps) limit (in_array (ds ++ at.last ∷ []) ∷ outer)
      go (in_object ms name ∷ outer) deep = after_value-member_comma b (missing b ps) limit ms name outer at.last (token b i) [] is
          ∙ at_name-missing b (missing b ps) limit ExpectedObjectKey (ms ++ (name, at.last) ∷ []) outer

  -- another token after a member
  pub rejects-other : {q : Progress} → AfterValue b ps limit stack nodes p → 0 < p.depth → IsNext b ps p q → q.byte ≢ 44
      → q.byte ≢ closer p.container → RejectedAt b ps limit (content_kind p.container) q.at q.byte
  rejects-other at l n comma' other' =
      subst (λ (q : Progress). RejectedAt b ps limit (content_kind p.container) q.at q.byte) (sym n.same)
      (rejected b ps limit (record { kind = content_kind p.container; index = i; byte = byte_at b i })
      (at.same ∙ ap (after_value b (missing b ps) limit at.opens at.last) (next b ps p.read n.more)
      ∙ go at.opens at.deep p.container at.holds (λ is. other' (sym (next-byte n) ∙ is))))
    where
      i : ℕ
      i = get_or ps p.read 0

      ts : List Token
      ts = cond (goes_on (form_at b i)) (tokens_along b (drop (p.read + 1) ps)) []

      comma : byte_at b i ≢ 44
      comma is = comma' (sym (next-byte n) ∙ is)

      go : (os : List Open) → length os ≡ p.depth → (c : Container) → HoldsValue os at.last c (frames stack p.depth) p.len nodes
          → byte_at b i ≢ closer c → after_value b (missing b ps) limit os at.last (token b i ∷ ts)
          ≡ Err (fault_at b (error_type (content_kind c)) i)
      go [] deep c holds other = absurd (omega (arith, deep, l))
      go (in_array ds ∷ outer) deep Array holds other = after_value-unexpected b (missing b ps) limit (in_array ds) outer at.last
          (token b i) ts (form_at b i) refl (no_ending b i other comma)
      go (in_array ds ∷ outer) deep Object holds other = let clash : Object ≡ Array = holds.0 in cc
      go (in_object ms name ∷ outer) deep Array holds other = let clash : Array ≡ Object = holds.0 in cc
      go (in_object ms name ∷ outer) deep Object holds other = after_value-unexpected b (missing b ps) limit (in_object ms name) outer
          at.last (token b i) ts (form_at b i) refl (no_member_ending b i other comma)

  -- something after the root
  pub rejects-trailing : AfterValue b ps limit stack nodes p → p.depth ≡ 0 → p.byte ≡ byte_at b p.at → p.read < length ps
      → RejectedAt b ps limit (end_kind (is_closing p.byte)) p.at p.byte
  rejects-trailing at root byte k =
      let i : ℕ = get_or ps p.read 0 in
      let rest : List Token = tokens_along b (drop p.read ps) in
      subst (λ x. RejectedAt b ps limit (end_kind (is_closing x)) p.at x) (sym byte)
      (ap (λ r. r >>= root_end b (tokens_along b ps)) (root-whole at root).1
      ∙ left_over b ps at.before rest (token b i) (cond (goes_on (form_at b i)) (tokens_along b (drop (p.read + 1) ps)) [])
      at.last at.along (next b ps p.read k)
      ∙ ap (λ n. Err (fault_at b (if is_container at.last then InternalError else TrailingData) n)) at.reached
      ∙ ap (λ is. Err (fault_at b (if is then InternalError else TrailingData) p.at)) (sym at.kind)
      ∙ ap (λ kind. Err (fault_at b kind p.at)) (kind-of (is_closing (byte_at b p.at))))

  -- no name where one is expected
  pub rejects-no_name : (kind : FaultKind) → AtName b ps limit (error_type kind) stack nodes p → p.byte ≡ byte_at b p.at
      → p.byte ≢ 34 → RejectedAt b ps limit kind p.at p.byte
  rejects-no_name kind at first other =
      rejected-here b ps limit kind p.at p.byte first
      (at.same ∙ at_name-other b (missing b ps) limit (error_type kind) at.members at.outer (token b p.at)
      (cond (goes_on (form_at b p.at)) (tokens_along b (drop p.read ps)) []) (form_at b p.at) refl
      (no_string b p.at (λ is. other (first ∙ is))))

  module _ {kind : ErrorType} (at : AtName b ps limit kind stack nodes p) (first : p.byte ≡ byte_at b p.at) (quote : p.byte ≡ 34) where
    -- a bad name
    pub rejects-name : (f : Fault) → IsBadString b p.at f → IsFirstFault b ps limit f
    rejects-name f bad =
        let error : Error = fault_with (error_type f.kind) f.index f.byte in
        rejected b ps limit f (at.same ∙ at_name-fault b (missing b ps) limit kind at.members at.outer (token b p.at)
        (cond (goes_on (form_at b p.at)) (tokens_along b (drop p.read ps)) []) error
        (quotes b p.at (sym first ∙ quote) ∙ ap string_token bad))

    -- after a good one
    module _ {nodes' : List Item} {reads : ℕ → Type 0} (put : IsStringPut b p.at nodes nodes' reads) where
      named : form_at b p.at ≡ string_token (Ok (put.string, put.end))
      named = quotes b p.at (sym first ∙ quote) ∙ ap string_token put.read

      -- nothing
      pub rejects-name_end : p.read ≡ length ps → RejectedAt b ps limit kinds.Syntax p.at (byte_at b p.at)
      rejects-name_end none =
          rejected b ps limit (record { kind = kinds.Syntax; index = p.at; byte = byte_at b p.at })
          (at.same ∙ ap (at_name b (missing b ps) limit kind at.members at.outer) (only b ps p.at p.read named refl none)
          ∙ at_name-no_more b (missing b ps) limit kind at.members at.outer (token b p.at) put.string put.end named
          ∙ ap Err (ends_at b ps at.before p.at p.read named refl none at.along))

      -- no colon
      pub rejects-no_colon : {q : Progress} → IsNext b ps p q → q.byte ≢ 58 → RejectedAt b ps limit kinds.ExpectedObjectColon q.at q.byte
      rejects-no_colon n other =
          let i : ℕ = get_or ps p.read 0 in
          subst (λ (q : Progress). RejectedAt b ps limit kinds.ExpectedObjectColon q.at q.byte) (sym n.same)
          (rejected b ps limit (record { kind = kinds.ExpectedObjectColon; index = i; byte = byte_at b i })
          (at.same ∙ ap (at_name b (missing b ps) limit kind at.members at.outer)
          (along-form b p.at (drop p.read ps) (string_token (Ok (put.string, put.end))) named refl
          ∙ ap (λ us. token b p.at ∷ us) (next b ps p.read n.more))
          ∙ at_name-no_colon b (missing b ps) limit kind at.members at.outer (token b p.at) (token b i)
          (cond (goes_on (form_at b i)) (tokens_along b (drop (p.read + 1) ps)) []) put.string put.end (form_at b i) named refl
          (no_colon b i (λ is. other (sym (next-byte n) ∙ is)))))

      -- nothing after a colon
      pub rejects-colon_end : {q : Progress} → IsNext b ps p q → q.byte ≡ 58 → q.read ≡ length ps
          → RejectedAt b ps limit kinds.Syntax q.at (byte_at b q.at)
      rejects-colon_end n colon none' =
          let i : ℕ = get_or ps p.read 0 in
          let is : form_at b i ≡ name_separator = colons b i (next-byte n ∙ colon) in
          let none : p.read + 1 ≡ length ps = omega (arith, next-read n, none') in
          let before : List Token = at.before ++ token b p.at ∷ [] in
          subst (λ (q : Progress). RejectedAt b ps limit kinds.Syntax q.at (byte_at b q.at)) (sym n.same)
          (rejected b ps limit (record { kind = kinds.Syntax; index = i; byte = byte_at b i })
          (at.same ∙ ap (at_name b (missing b ps) limit kind at.members at.outer)
          (along-form b p.at (drop p.read ps) (string_token (Ok (put.string, put.end))) named refl
          ∙ ap (λ us. token b p.at ∷ us) (next b ps p.read n.more ∙ only b ps i (p.read + 1) is refl none))
          ∙ at_name-value b (missing b ps) limit kind at.members at.outer (token b p.at) (token b i) [] put.string put.end named is
          ∙ at_value-missing b (missing b ps) limit (in_object at.members put.string ∷ at.outer)
          ∙ ap Err (ends_at b ps before i (p.read + 1) is refl none (reached_next b ps before p.read n.more
          (extended b ps at.before p.at (drop p.read ps) named refl at.along)))))
