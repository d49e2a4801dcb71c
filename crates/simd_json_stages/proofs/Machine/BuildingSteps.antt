-- The steps of the machine that accept a token: each keeps what is built, and what the rest of the tokens make of it.
use Rattle.std.proofs.Common.{◌≡◌, ◌≢◌, refl, sym, ◌∙◌, ap, subst, ℕ, zero, suc, ◌+◌, ◌-◌, ◌<◌, ◌≤◌, List, [], ◌∷◌, ◌++◌, true}
use Rattle.std.proofs.Common.{append_assoc, length, get_or, set, drop, cond, add-one, arith}
use Rattle.std.specs.Prelude.{Ok, Err}
use Rattle.std.proofs.lemmas.List.{get_or-set_other, get_or-set_same, drop_more}
use Rattle.std.proofs.Math.Seq.{drop-length}
use Rattle.simd_json_parts.specs.Bytes.{byte_at, is_closing}
use Rattle.simd_json_parts.specs.Document.{Document, string}
use Rattle.simd_json_parts.specs.Nodes.{Item}
use Rattle.simd_json_parts.specs.Listing.{listing}
use Rattle.simd_json_parts.specs.Descent.{◌>>=◌, is_container, value_from, last_index, root_end, descent}
use Rattle.simd_json_parts.specs.Faults.{fault_at, fault_with}
use Rattle.simd_json_parts.specs.Positions.{positions}
use Rattle.simd_json_parts.specs.Tokens.{Token, Form, name_separator, value_separator}
use Rattle.simd_json_parts.specs.Tokens.{string_token, scalar, form_at}
use Rattle.simd_json_parts.specs.TokensAlong.{goes_on, tokens_along}
use Rattle.simd_json_parts.specs.declared.error.ErrorType.{ErrorType}
use Rattle.simd_json_parts.specs.declared.error.ErrorType.TheVariants.{Syntax}
use Rattle.simd_json_parts.proofs.Positions.TokensAtPositions.{tokens-positions}
use Rattle.simd_json_stages.specs.Continued.{Open, in_array, in_object, at_value, at_name, after_value}
use Rattle.simd_json_stages.specs.Building.{closer, header_of, frames, top, patch, Headed, Holds, HoldsValue, HoldsMembers}
use Rattle.simd_json_stages.specs.Building.{closed_with, missing, whole, AtValue, AtName, AfterValue, AtMemberOf, AtMember}
use Rattle.simd_json_stages.specs.Building.{IsBuilt, IsWritten, IsFirstFault}
use Rattle.simd_json_stages.specs.Progresses.{IsNext}
use Rattle.simd_json_stages.specs.Put.{IsStringPut, IsScalarPut}
use Rattle.simd_json_stages.specs.Rejections.{error_type}
use Rattle.simd_json_stages.specs.declared.stage2.stack.Container.{Container}
use Rattle.simd_json_stages.specs.declared.stage2.stack.Container.TheVariants.{Array, Object}
use Rattle.simd_json_stages.specs.declared.stage2.progress.Progress.{Progress}
use Rattle.simd_json_stages.specs.declared.stage2.stack.StackState.{StackState}
use Rattle.simd_json_stages.specs.declared.stage2.fault.Fault.{Fault}
use Rattle.simd_json_stages.specs.declared.stage2.fault.FaultKind.TheVariants as kinds
use Rattle.simd_json_stages.proofs.Machine.Holding.{Holds-value, Holds-name, Holds-comma, Holds-member_comma, Headed-open}
use Rattle.simd_json_stages.proofs.Machine.Holding.{HasHeader, Holds-close, Holds-top}
use Rattle.simd_json_stages.proofs.Machine.Bounds.{next-byte, at_next, at_second, two-left, two-is}
use Rattle.simd_json_stages.proofs.Tokens.Places.{token}
use Rattle.simd_json_stages.proofs.Machine.Steps.{opening_form, ending_form, empty_of, at_container, container-open, container-close}
use Rattle.simd_json_stages.proofs.Machine.Steps.{after_value-comma, at_array-element, at_value-scalar, after_value-root, at_value-root}
use Rattle.simd_json_stages.proofs.Machine.Steps.{after_value-closed, at_object-name, at_name-value, after_value-member_comma}
use Rattle.simd_json_stages.proofs.Machine.Steps.{at_value-string, closing_form}
use Rattle.simd_json_stages.proofs.Tokens.TokenForms.{along-form, closes, commas, last_index-append, next, no_end, no_end_object, opens}
use Rattle.simd_json_stages.proofs.Tokens.TokenForms.{opens_object, closes_object, colons, quotes, no_closing}

-- ---- the stack and the nodes

frames-set : (stack : List StackState) (f : StackState) (k depth : ℕ) → depth ≤ k → frames (set stack k f) depth ≡ frames stack depth
frames-set stack f k zero l = refl
frames-set stack f k (suc depth) l =
    let other : depth ≢ k = omega arith in
    rw (get_or-set_other, frames-set stack f k depth (omega arith)) refl

frames-push : (stack : List StackState) (f : StackState) (depth : ℕ) → depth < length stack
    → frames (set stack depth f) (depth + 1) ≡ f ∷ frames stack depth
frames-push stack f depth l = ap (frames (set stack depth f)) (add-one depth)
    ∙ rw (get_or-set_same, frames-set stack f depth depth (omega arith)) refl

frames-top : (stack : List StackState) (depth : ℕ) → 0 < depth → frames stack depth ≡ top stack depth ∷ frames stack (depth - 1)
frames-top stack zero l = absurd (omega arith)
frames-top stack (suc depth) l = let same : suc depth - 1 ≡ depth = omega arith in rw same refl

-- ---- either container

pub opening-goes_on : (c : Container) → goes_on (opening_form c) ≡ true
opening-goes_on Array = refl
opening-goes_on Object = refl

ending-goes_on : (c : Container) → goes_on (ending_form c) ≡ true
ending-goes_on Array = refl
ending-goes_on Object = refl

closing-goes_on : (o : Open) → goes_on (closing_form o) ≡ true
closing-goes_on (in_array ds) = refl
closing-goes_on (in_object ms name) = refl

empty-listed : (c : Container) → listing (empty_of c) ≡ header_of c 0 0 ∷ []
empty-listed Array = refl
empty-listed Object = refl

pub opening-form : (b : List ℕ) (c : Container) (i : ℕ) → byte_at b i + 2 ≡ closer c → form_at b i ≡ opening_form c
opening-form b Array i e = opens b i (omega (arith, e))
opening-form b Object i e = opens_object b i (omega (arith, e))

ending-form : (b : List ℕ) (c : Container) (i : ℕ) → byte_at b i ≡ closer c → form_at b i ≡ ending_form c
ending-form b Array i e = closes b i e
ending-form b Object i e = closes_object b i e

-- the container in the progress is the innermost one that is open
closing-form : (b : List ℕ) (i : ℕ) (o : Open) (outer : List Open) (d : Document) (c : Container) (fs : List StackState) (len : ℕ)
    (items : List Item)
    → HoldsValue (o ∷ outer) d c fs len items → byte_at b i ≡ closer c → form_at b i ≡ closing_form o
closing-form b i (in_array ds) outer d c fs len items h e = closes b i (e ∙ ap closer h.0)
closing-form b i (in_object ms name) outer d c fs len items h e = closes_object b i (e ∙ ap closer h.0)

-- what ends with a closing bracket is a container
empty-kind : (c : Container) → is_closing (closer c) ≡ is_container (empty_of c)
empty-kind Array = refl
empty-kind Object = refl

closed-kind : (c : Container) (o : Open) (d : Document) → is_closing (closer c) ≡ is_container (closed_with o d)
closed-kind Array (in_array ds) d = refl
closed-kind Array (in_object ms name) d = refl
closed-kind Object (in_array ds) d = refl
closed-kind Object (in_object ms name) d = refl

-- ---- the tokens up to where the machine is

module _ (b ps : List ℕ) where
  -- one more token is read
  pub extended : (before : List Token) (i : ℕ) (rest : List ℕ) {form : Form} → form_at b i ≡ form → goes_on form ≡ true
      → tokens_along b ps ≡ before ++ tokens_along b (i ∷ rest) → tokens_along b ps ≡ (before ++ token b i ∷ []) ++ tokens_along b rest
  extended before i rest {form} is goes along' = along' ∙ ap (λ us. before ++ us) (along-form b i rest form is goes)
      ∙ sym (append_assoc before (token b i ∷ []) (tokens_along b rest))

  -- and the next one is at the next position
  pub reached_next : (before : List Token) (k : ℕ) → k < length ps → tokens_along b ps ≡ before ++ tokens_along b (drop k ps)
      → tokens_along b ps ≡ before ++ tokens_along b (get_or ps k 0 ∷ drop (k + 1) ps)
  reached_next before k l along' = along' ∙ ap (λ us. before ++ us) (next b ps k l)

  -- after the next token, where it is a comma or a colon
  next-along : (before : List Token) (k : ℕ) {form : Form} → form_at b (get_or ps k 0) ≡ form → goes_on form ≡ true
      → k + 1 < length ps → tokens_along b ps ≡ before ++ tokens_along b (drop k ps)
      → tokens_along b ps ≡ (before ++ token b (get_or ps k 0) ∷ []) ++ tokens_along b (get_or ps (k + 1) 0 ∷ drop (k + 2) ps)
  next-along before k is goes m along' =
      let i : ℕ = get_or ps k 0 in
      let two : (k + 1) + 1 ≡ k + 2 = omega arith in
      reached_next (before ++ token b i ∷ []) (k + 1) m
      (extended before i (drop (k + 1) ps) is goes (reached_next before k (omega arith) along'))
      ∙ ap (λ n. (before ++ token b i ∷ []) ++ tokens_along b (get_or ps (k + 1) 0 ∷ drop n ps)) two

  next-token : (k : ℕ) → k + 1 < length ps → tokens_along b (drop (k + 1) ps) ≡ tokens_along b (get_or ps (k + 1) 0 ∷ drop (k + 2) ps)
  next-token k m = let two : (k + 1) + 1 ≡ k + 2 = omega arith in next b ps (k + 1) m
      ∙ ap (λ n. tokens_along b (get_or ps (k + 1) 0 ∷ drop n ps)) two

-- ---- the steps

-- what is held under the innermost frame
held : (o : Open) (outer : List Open) (d : Document) (stack : List StackState) (nodes : List Item) (p : Progress) → 0 < p.depth
    → HoldsValue (o ∷ outer) d p.container (frames stack p.depth) p.len nodes
    → HoldsValue (o ∷ outer) d p.container (top stack p.depth ∷ frames stack (p.depth - 1)) p.len nodes
held o outer d stack nodes p l h = subst (λ fs. HoldsValue (o ∷ outer) d p.container fs p.len nodes)
    (frames-top stack p.depth l) h

-- after a closing bracket
abbrev pub closed_at : List StackState → Progress → Progress
closed_at stack q = record q {
  depth = q.depth - 1;
  container = (top stack q.depth).outer;
  len = (top stack q.depth).len + 1;
}

module _ {b ps : List ℕ} {limit : ℕ} {stack : List StackState} {nodes : List Item} {p : Progress} where
  -- a value of one token is read, and its node is put
  step-one : {nodes' : List Item} (at : AtValue b ps limit stack nodes p) (form : Form) (d : Document) → form_at b p.at ≡ form
      → goes_on form ≡ true → is_closing (byte_at b p.at) ≡ is_container d
      → at_value b (missing b ps) limit at.opens (token b p.at ∷ tokens_along b (drop p.read ps))
      ≡ after_value b (missing b ps) limit at.opens d (tokens_along b (drop p.read ps))
      → nodes' ≡ nodes ++ listing d → AfterValue b ps limit stack nodes' (record p { len = p.len + 1 })
  step-one at form d is goes kind step put =
      record {
        opens = at.opens;
        last = d;
        same = at.same ∙ ap (at_value b (missing b ps) limit at.opens) (along-form b p.at (drop p.read ps) form is goes) ∙ step;
        before = at.before ++ token b p.at ∷ [];
        along = extended b ps at.before p.at (drop p.read ps) is goes at.along;
        reached = last_index-append at.before (token b p.at);
        kind = kind;
        holds = subst (HoldsValue at.opens d p.container (frames stack p.depth) (p.len + 1)) (sym put)
            (Holds-value at.opens p.container (frames stack p.depth) p.len nodes d at.holds);
        deep = at.deep;
      }

  pub step-scalar : {nodes' : List Item} {reads : ℕ → Type 0} → AtValue b ps limit stack nodes p
      → IsScalarPut b p.at nodes nodes' reads → AfterValue b ps limit stack nodes' (record p { len = p.len + 1 })
  step-scalar at put = step-one at (scalar (Ok (put.document, put.end))) put.document put.read refl
      (no_closing b p.at put.read ∙ sym put.single)
      (at_value-scalar b (missing b ps) limit at.opens (token b p.at) (tokens_along b (drop p.read ps)) put.document put.end put.read)
      (put.put ∙ ap (λ us. nodes ++ us) (sym put.listed))

  pub step-string : {nodes' : List Item} {reads : ℕ → Type 0} → AtValue b ps limit stack nodes p → p.byte ≡ byte_at b p.at
      → p.byte ≡ 34 → IsStringPut b p.at nodes nodes' reads → AfterValue b ps limit stack nodes' (record p { len = p.len + 1 })
  step-string at first q put =
      let form : Form = string_token (Ok (put.string, put.end)) in
      let is : form_at b p.at ≡ form = quotes b p.at (sym first ∙ q) ∙ ap string_token put.read in
      step-one at form (string put.string) is refl (ap is_closing (sym first ∙ q))
      (at_value-string b (missing b ps) limit at.opens (token b p.at) (tokens_along b (drop p.read ps)) put.string put.end is)
      (put.put ∙ ap (λ x. nodes ++ x ∷ []) put.item)

  -- after the opening bracket of a value
  opened : (c : Container) (at : AtValue b ps limit stack nodes p)
      → p.depth < limit → form_at b p.at ≡ opening_form c → p.read < length ps
      → whole b ps limit ≡ at_container b (missing b ps) limit c at.opens (tokens_along b (get_or ps p.read 0 ∷ drop (p.read + 1) ps))
  opened c at l is k =
      let capacity : length at.opens < limit = omega (arith, at.deep) in
      at.same
      ∙ ap (at_value b (missing b ps) limit at.opens) (along-form b p.at (drop p.read ps) (opening_form c) is (opening-goes_on c))
      ∙ container-open b (missing b ps) limit c at.opens (token b p.at) (tokens_along b (drop p.read ps)) capacity is
      ∙ ap (at_container b (missing b ps) limit c at.opens) (next b ps p.read k)

  -- and the tokens up to there
  opened-along : (c : Container) (at : AtValue b ps limit stack nodes p) → form_at b p.at ≡ opening_form c → p.read < length ps
      → tokens_along b ps ≡ (at.before ++ token b p.at ∷ []) ++ tokens_along b (get_or ps p.read 0 ∷ drop (p.read + 1) ps)
  opened-along c at is k = reached_next b ps (at.before ++ token b p.at ∷ []) p.read k
      (extended b ps at.before p.at (drop p.read ps) is (opening-goes_on c) at.along)

  -- an empty container
  pub step-empty : {nodes' : List Item} {q : Progress} (c : Container) → AtValue b ps limit stack nodes p → p.byte ≡ byte_at b p.at
      → nodes' ≡ nodes ++ header_of c 0 0 ∷ [] → p.depth < limit → p.byte + 2 ≡ closer c → IsNext b ps p q → q.byte ≡ closer c
      → AfterValue b ps limit stack nodes' (record q { len = q.len + 1 })
  step-empty {nodes'} c at first put capacity o n byte =
      let i : ℕ = get_or ps p.read 0 in
      let rest : List ℕ = drop (p.read + 1) ps in
      let is : form_at b p.at ≡ opening_form c = opening-form b c p.at (omega (arith, first, o)) in
      let ends : form_at b i ≡ ending_form c = ending-form b c i (next-byte n ∙ byte) in
      subst (λ (q : Progress). AfterValue b ps limit stack nodes' (record q { len = q.len + 1 })) (sym n.same) (record {
        opens = at.opens;
        last = empty_of c;
        same = opened c at capacity is n.more ∙ ap (at_container b (missing b ps) limit c at.opens)
            (along-form b i rest (ending_form c) ends (ending-goes_on c))
            ∙ container-close b (missing b ps) limit c at.opens (token b i) (tokens_along b rest) ends;
        before = (at.before ++ token b p.at ∷ []) ++ token b i ∷ [];
        along = extended b ps (at.before ++ token b p.at ∷ []) i rest ends (ending-goes_on c) (opened-along c at is n.more);
        reached = last_index-append (at.before ++ token b p.at ∷ []) (token b i);
        kind = ap is_closing (next-byte n ∙ byte) ∙ empty-kind c;
        holds = subst (HoldsValue at.opens (empty_of c) p.container (frames stack p.depth) (p.len + 1))
            (sym (put ∙ ap (λ us. nodes ++ us) (sym (empty-listed c))))
            (Holds-value at.opens p.container (frames stack p.depth) p.len nodes (empty_of c) at.holds);
        deep = at.deep;
      })

  -- a container with members
  pub step-open : {nodes' : List Item} {q : Progress} {header : ℕ} (c : Container) → AtValue b ps limit stack nodes p
      → p.byte ≡ byte_at b p.at → nodes' ≡ nodes ++ header_of c 0 0 ∷ [] → header ≡ length nodes → p.depth < length stack
      → p.depth < limit → p.byte + 2 ≡ closer c → IsNext b ps p q → q.byte ≢ closer c
      → AtMember b ps limit kinds.ExpectedObjectContent (set stack p.depth
      (record { header = header; outer = p.container; len = p.len })) nodes'
      (record { read = q.read; at = q.at; byte = q.byte; depth = p.depth + 1; container = c; len = 0 })
  step-open {nodes'} {q} {header} c at first put head s capacity o n byte =
      subst (λ (q : Progress). AtMember b ps limit kinds.ExpectedObjectContent (set stack p.depth f) nodes'
      (record { read = q.read; at = q.at; byte = q.byte; depth = p.depth + 1; container = c; len = 0 })) (sym n.same)
      (go c put (opening-form b c p.at (omega (arith, first, o))) (λ is. byte (sym (next-byte n) ∙ is)))
    where
      f : StackState
      f = record { header = header; outer = p.container; len = p.len }

      i : ℕ
      i = get_or ps p.read 0

      rest : List ℕ
      rest = drop (p.read + 1) ps

      opened_holds : (c : Container) → Headed (Holds at.opens) [] 0 (f ∷ frames stack p.depth) 0 (nodes ++ header_of c 0 0 ∷ [])
      opened_holds Array = Headed-open _ refl at.opens p.container (frames stack p.depth) p.len nodes header at.holds head
      opened_holds Object = Headed-open _ refl at.opens p.container (frames stack p.depth) p.len nodes header at.holds head

      go : (c : Container) → nodes' ≡ nodes ++ header_of c 0 0 ∷ [] → form_at b p.at ≡ opening_form c → byte_at b i ≢ closer c
          → AtMember b ps limit kinds.ExpectedObjectContent (set stack p.depth f) nodes'
          (record { read = p.read + 1; at = i; byte = byte_at b i; depth = p.depth + 1; container = c; len = 0 })
      go Array put is other = record {
        opens = in_array [] ∷ at.opens;
        same = opened Array at capacity is n.more ∙ at_array-element b (missing b ps) limit at.opens (token b i)
            (cond (goes_on (form_at b i)) (tokens_along b rest) []) (form_at b i) refl (no_end b i other);
        before = at.before ++ token b p.at ∷ [];
        along = opened-along Array at is n.more;
        holds = subst (λ fs. Holds (in_array [] ∷ at.opens) Array fs 0 nodes')
            (sym (frames-push stack f p.depth s)) (subst (Holds (in_array [] ∷ at.opens) Array (f ∷ frames stack p.depth) 0)
            (sym put) (refl, opened_holds Array));
        deep = omega (arith, at.deep);
      }
      go Object put is other = record {
        members = [];
        outer = at.opens;
        same = opened Object at capacity is n.more ∙ at_object-name b (missing b ps) limit at.opens (token b i)
            (cond (goes_on (form_at b i)) (tokens_along b rest) []) (form_at b i) refl (no_end_object b i other);
        before = at.before ++ token b p.at ∷ [];
        along = opened-along Object at is n.more;
        holds = subst (λ fs. HoldsMembers [] at.opens Object fs 0 nodes')
            (sym (frames-push stack f p.depth s)) (subst (HoldsMembers [] at.opens Object (f ∷ frames stack p.depth) 0)
            (sym put) (refl, opened_holds Object));
        deep = omega (arith, at.deep);
      }

  -- a comma, and the next member
  pub step-comma : {q s : Progress} → AfterValue b ps limit stack nodes p → 0 < p.depth → IsNext b ps p q → q.byte ≡ 44
      → IsNext b ps q s → AtMember b ps limit kinds.ExpectedObjectKey stack nodes s
  step-comma at some n byte m' =
      subst (AtMember b ps limit kinds.ExpectedObjectKey stack nodes) (sym (two-is n m')) (go at.opens at.last at.same at.holds at.deep)
    where
      m : p.read + 1 < length ps
      m = two-left n m'

      i : ℕ
      i = get_or ps p.read 0

      is : form_at b i ≡ value_separator
      is = commas b i (next-byte n ∙ byte)

      go : (opens' : List Open) (last : Document) → whole b ps limit ≡ after_value b (missing b ps) limit opens' last
          (tokens_along b (drop p.read ps)) → HoldsValue opens' last p.container (frames stack p.depth) p.len nodes
          → length opens' ≡ p.depth → AtMember b ps limit kinds.ExpectedObjectKey stack nodes (at_second b ps p)
      go [] last same h deep = absurd (omega (arith, deep, some))
      go (in_array ds ∷ outer) last same h deep =
          subst (λ c. AtMemberOf b ps limit c (error_type kinds.ExpectedObjectKey) stack nodes (at_second b ps p)) (sym h.0) (record {
            opens = in_array (ds ++ last ∷ []) ∷ outer;
            same = same
                ∙ ap (after_value b (missing b ps) limit (in_array ds ∷ outer) last)
                (next b ps p.read n.more ∙ along-form b i (drop (p.read + 1) ps) value_separator is refl)
                ∙ after_value-comma b (missing b ps) limit ds outer last (token b i) (tokens_along b (drop (p.read + 1) ps)) is
                ∙ ap (at_value b (missing b ps) limit (in_array (ds ++ last ∷ []) ∷ outer)) (next-token b ps p.read m);
            before = at.before ++ token b i ∷ [];
            along = next-along b ps at.before p.read is refl m at.along;
            holds = Holds-comma ds outer last p.container (frames stack p.depth) p.len nodes h;
            deep = deep;
          })
      go (in_object ms name ∷ outer) last same h deep =
          subst (λ c. AtMemberOf b ps limit c (error_type kinds.ExpectedObjectKey) stack nodes (at_second b ps p)) (sym h.0) (record {
            members = ms ++ (name, last) ∷ [];
            outer = outer;
            same = same
                ∙ ap (after_value b (missing b ps) limit (in_object ms name ∷ outer) last)
                (next b ps p.read n.more ∙ along-form b i (drop (p.read + 1) ps) value_separator is refl)
                ∙ after_value-member_comma b (missing b ps) limit ms name outer last (token b i) (tokens_along b (drop (p.read + 1) ps)) is
                ∙ ap (at_name b (missing b ps) limit (error_type kinds.ExpectedObjectKey) (ms ++ (name, last) ∷ []) outer)
                (next-token b ps p.read m);
            before = at.before ++ token b i ∷ [];
            along = next-along b ps at.before p.read is refl m at.along;
            holds = Holds-member_comma ms name outer last p.container (frames stack p.depth) p.len nodes h;
            deep = deep;
          })

  -- a closing bracket
  pub step-close : {nodes' : List Item} {q q' : Progress} → AfterValue b ps limit stack nodes p → 0 < p.depth → IsNext b ps p q
      → q.byte ≡ closer p.container → q' ≡ closed_at stack q → nodes' ≡ patch nodes (top stack q.depth) q
      → AfterValue b ps limit stack nodes' q'
  step-close {nodes'} at some n byte is patched =
      subst (AfterValue b ps limit stack nodes') (sym (is ∙ ap (closed_at stack) n.same))
      (subst (λ ns. AfterValue b ps limit stack ns (closed_at stack (at_next b ps p)))
      (sym (patched ∙ ap (λ (q : Progress). patch nodes (top stack q.depth) q) n.same)) (go at.opens at.last at.same at.holds at.deep))
    where
      i : ℕ
      i = get_or ps p.read 0

      rest : List ℕ
      rest = drop (p.read + 1) ps

      go : (opens' : List Open) (last : Document) → whole b ps limit ≡ after_value b (missing b ps) limit opens' last
          (tokens_along b (drop p.read ps)) → HoldsValue opens' last p.container (frames stack p.depth) p.len nodes
          → length opens' ≡ p.depth
          → AfterValue b ps limit stack (patch nodes (top stack p.depth) p) (closed_at stack (at_next b ps p))
      go [] last same h deep = absurd (omega (arith, deep, some))
      go (o ∷ outer) last same h deep =
          let is : form_at b i ≡ closing_form o = closing-form b i o outer last p.container (frames stack p.depth) p.len nodes h
          (next-byte n ∙ byte) in
          record {
            opens = outer;
            last = closed_with o last;
            same = same ∙ ap (after_value b (missing b ps) limit (o ∷ outer) last)
                (next b ps p.read n.more ∙ along-form b i rest (closing_form o) is (closing-goes_on o))
                ∙ after_value-closed b (missing b ps) limit o outer last (token b i) (tokens_along b rest) is;
            before = at.before ++ token b i ∷ [];
            along = extended b ps at.before i rest is (closing-goes_on o) (reached_next b ps at.before p.read n.more at.along);
            reached = last_index-append at.before (token b i);
            kind = ap is_closing (next-byte n ∙ byte) ∙ closed-kind p.container o last;
            holds = Holds-close o outer last p.container (top stack p.depth) (frames stack (p.depth - 1)) p.len nodes
                (held o outer _ stack nodes p some h);
            deep = omega (arith, deep);
          }

  -- the frame of the innermost container points at a header, and the container round it has fewer members than there are nodes
  pub top-header : AfterValue b ps limit stack nodes p → 0 < p.depth
      → HasHeader nodes (top stack p.depth).header × ((top stack p.depth).len < length nodes)
  top-header at some = go at.opens at.holds at.deep
    where
      go : (opens' : List Open) → HoldsValue opens' at.last p.container (frames stack p.depth) p.len nodes → length opens' ≡ p.depth
          → HasHeader nodes (top stack p.depth).header × ((top stack p.depth).len < length nodes)
      go [] h deep = absurd (omega (arith, deep, some))
      go (o ∷ outer) h deep = Holds-top o outer at.last p.container (top stack p.depth) (frames stack (p.depth - 1)) p.len nodes
          (held o outer _ stack nodes p some h)

  -- a name and its colon, and the value after it
  pub step-name : {kind : ErrorType} {nodes' : List Item} {reads : ℕ → Type 0} {q s : Progress}
      → AtName b ps limit kind stack nodes p → p.byte ≡ byte_at b p.at → p.byte ≡ 34 → IsStringPut b p.at nodes nodes' reads
      → IsNext b ps p q → q.byte ≡ 58 → IsNext b ps q s → AtValue b ps limit stack nodes' s
  step-name {kind} {nodes'} at first quote put n colon m' =
      let m : p.read + 1 < length ps = two-left n m' in
      let i : ℕ = get_or ps p.read 0 in
      let rest : List ℕ = drop (p.read + 1) ps in
      let form : Form = string_token (Ok (put.string, put.end)) in
      let is : form_at b p.at ≡ form = quotes b p.at (sym first ∙ quote) ∙ ap string_token put.read in
      let separator = colons b i (next-byte n ∙ colon) in
      let named : List Token = at.before ++ token b p.at ∷ [] in
      subst (AtValue b ps limit stack nodes') (sym (two-is n m')) (record {
        opens = in_object at.members put.string ∷ at.outer;
        same = at.same
            ∙ ap (at_name b (missing b ps) limit kind at.members at.outer)
            (along-form b p.at (drop p.read ps) form is refl ∙ ap (λ us. token b p.at ∷ us)
            (next b ps p.read n.more ∙ along-form b i rest name_separator separator refl))
            ∙ at_name-value b (missing b ps) limit kind at.members at.outer (token b p.at) (token b i) (tokens_along b rest)
            put.string put.end is separator
            ∙ ap (at_value b (missing b ps) limit (in_object at.members put.string ∷ at.outer)) (next-token b ps p.read m);
        before = named ++ token b i ∷ [];
        along = next-along b ps named p.read separator refl m (extended b ps at.before p.at (drop p.read ps) is refl at.along);
        holds = subst (Holds (in_object at.members put.string ∷ at.outer) p.container (frames stack p.depth) p.len)
            (sym (put.put ∙ ap (λ x. nodes ++ x ∷ []) put.item))
            (Holds-name at.members at.outer p.container (frames stack p.depth) p.len nodes put.string at.holds);
        deep = at.deep;
      })

  -- with nothing open the root is whole, and where no token is after it, all is built
  pub root-whole : (at : AfterValue b ps limit stack nodes p) → p.depth ≡ 0 → (nodes ≡ listing at.last)
      × (whole b ps limit ≡ Ok (at.last, tokens_along b (drop p.read ps)))
  root-whole at none = go at.opens at.same at.holds at.deep
    where
      go : (opens' : List Open) → whole b ps limit ≡ after_value b (missing b ps) limit opens' at.last (tokens_along b (drop p.read ps))
          → HoldsValue opens' at.last p.container (frames stack p.depth) p.len nodes → length opens' ≡ p.depth
          → (nodes ≡ listing at.last) × (whole b ps limit ≡ Ok (at.last, tokens_along b (drop p.read ps)))
      go [] same h deep = (h.1, same ∙ after_value-root b (missing b ps) limit at.last (tokens_along b (drop p.read ps)))
      go (o ∷ outer) same h deep = absurd (omega (arith, deep, none))

  pub step-end : AfterValue b ps limit stack nodes p → p.depth ≡ 0 → p.read ≡ length ps → IsBuilt b ps limit nodes
  step-end at none all =
      let (listed, same) = root-whole at none in
      record {
        document = at.last;
        same = same ∙ ap (λ us. Ok (at.last, tokens_along b us)) (ap (λ n. drop n ps) all ∙ drop-length ps);
        listed = listed;
      }

-- at the first token nothing is read
pub root-value : {b ps : List ℕ} {limit : ℕ} {stack : List StackState} {nodes : List Item} {byte : ℕ} → nodes ≡ [] → 0 < length ps
    → AtValue b ps limit stack nodes (record { read = 1; at = get_or ps 0 0; byte = byte; depth = 0; container = Array; len = 0 })
root-value {b} {ps} {limit} empty l =
    record {
      opens = [];
      same = ap (λ us. at_value b (missing b ps) limit [] (tokens_along b us)) (drop_more ps 0 0 l);
      before = [];
      along = ap (tokens_along b) (drop_more ps 0 0 l);
      holds = (refl, refl, empty);
      deep = refl;
    }

-- the whole is what the descent reads
whole-descent : (b : List ℕ) (limit : ℕ) → (whole b (positions b) limit >>= root_end b (tokens_along b (positions b))) ≡ descent b limit
unfolding descent
whole-descent b limit =
    let ts : List Token = tokens_along b (positions b) in
    let zero_less : limit - 0 ≡ limit = omega arith in
    ap (λ r. r >>= root_end b ts) (at_value-root b (missing b (positions b)) limit ts
    ∙ ap (λ n. value_from b (missing b (positions b)) n ts) zero_less)
    ∙ ap (λ us. value_from b (fault_at b Syntax (last_index us)) limit us >>= root_end b us) (sym (tokens-positions b))

-- What is built is the descent's document.
pub descent-built : (b : List ℕ) (limit : ℕ) (nodes : List Item) → IsBuilt b (positions b) limit nodes
    → IsWritten b limit nodes
descent-built b limit nodes built =
    record {
      document = built.document;
      same = sym (whole-descent b limit)
          ∙ ap (λ r. r >>= root_end b (tokens_along b (positions b))) built.same;
      listed = built.listed;
    }

-- What is reported is the descent's fault.
pub descent-rejected : (b : List ℕ) (limit : ℕ) (f : Fault) → IsFirstFault b (positions b) limit f
    → descent b limit ≡ Err (fault_with (error_type f.kind) f.index f.byte)
descent-rejected b limit f rejected = sym (whole-descent b limit) ∙ rejected
