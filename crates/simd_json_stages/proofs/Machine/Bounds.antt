-- What the machine counts stays within bounds from one token to the next.
use Rattle.std.proofs.Common.{inl, inr, ◌≡◌, ◌≢◌, refl, sym, ◌∙◌, ap, subst, ℕ, ◌+◌, ◌-◌, ◌<◌, ◌≤◌, List, [], ◌∷◌, ◌++◌, length, get_or}
use Rattle.std.proofs.Common.{drop, Contains, arith}
use Rattle.std.specs.Prelude.{Some, slice_index}
use Rattle.std.proofs.lemmas.Bool.{cases_lt}
use Rattle.std.proofs.lemmas.List.{length_push}
use Rattle.simd_json_parts.specs.Bytes.{byte_at}
use Rattle.simd_json_parts.specs.Positions.{positions}
use Rattle.simd_json_parts.specs.Tokens.{form_end, token_end}
use Rattle.simd_json_parts.specs.Tokens.{Token, tokens, string_token}
use Rattle.simd_json_parts.specs.TokensAlong.{tokens_along}
use Rattle.simd_json_parts.specs.declared.error.ErrorType.{ErrorType}
use Rattle.simd_json_parts.specs.Nodes.{Item}
use Rattle.simd_json_stages.specs.Building.{AtValue, AtName}
use Rattle.simd_json_stages.specs.Inputs.{IsKept}
use Rattle.simd_json_stages.specs.Members.{HasCapacity}
use Rattle.simd_json_stages.specs.NodesEnough.{nodes_enough}
use Rattle.simd_json_stages.specs.Progresses.{EndsClosed, IsRead, IsNext, IsBefore, IsAfter}
use Rattle.simd_json_stages.specs.declared.stage2.stack.Container.{Container}
use Rattle.simd_json_stages.specs.Put.{IsStringPut, IsScalarPut}
use Rattle.simd_json_stages.specs.declared.stage2.progress.Progress.{Progress}
use Rattle.simd_json_stages.specs.declared.stage2.stack.StackState.{StackState}
use Rattle.simd_json_stages.proofs.Tokens.Places.{token, at-inside, position-inside, next-later, end-before_next, token-read}
use Rattle.simd_json_stages.proofs.Tokens.TokenForms.{quotes}

-- where the last position holds a closing bracket, after any other token a position is left
pub some-left : {b ps : List ℕ} {p : Progress} → EndsClosed b ps → IsRead b ps p → p.byte ≢ 93 → p.byte ≢ 125 → p.read < length ps
some-left {b} {ps} {p} closed r x y =
    elim (cases_lt p.read (length ps)) [
      | inl h ↦ h
      | inr h ↦
          let all : p.read ≡ length ps = omega (arith, r.within) in
          let byte : p.byte ≡ byte_at b (slice_index ps (length ps - 1)) = r.first
          ∙ ap (byte_at b) (r.last ∙ ap (λ n. slice_index ps (n - 1)) all) in
          absurd (elim closed [
            | inl is ↦ x (byte ∙ is)
            | inr is ↦ y (byte ∙ is)
          ])
    ]

-- at a value or a name there is a node for it
pub node-left : {b ps : List ℕ} {reads : ℕ → Type 0} {limit capacity written : ℕ} {stack : List StackState} {p : Progress}
    → IsBefore b ps reads written p → p.depth ≤ limit → HasCapacity ps limit stack capacity → written < capacity
unfolding nodes_enough
node-left r deep h = omega (arith, h.node_capacity, r.read.within, r.few, r.deep)

-- one more node is written
pub put-longer : (nodes nodes' : List Item) (x : Item) → nodes' ≡ nodes ++ x ∷ [] → length nodes + 1 ≡ length nodes'
put-longer nodes nodes' x put = sym (ap length put ∙ length_push nodes x)

-- the next token's number and byte
pub next-read : {b ps : List ℕ} {p q : Progress} → IsNext b ps p q → q.read ≡ p.read + 1
next-read n = ap (λ (q : Progress). q.read) n.same

pub next-byte : {b ps : List ℕ} {p q : Progress} → IsNext b ps p q → byte_at b (get_or ps p.read 0) ≡ q.byte
next-byte n = sym (ap (λ (q : Progress). q.byte) n.same)

-- one more position is read
pub read-next : {b ps : List ℕ} {p q : Progress} → IsRead b ps p → p.read < length ps → q.read ≡ p.read + 1 → q.at ≡ get_or ps p.read 0
    → q.byte ≡ byte_at b (get_or ps p.read 0) → IsRead b ps q
read-next {b} {ps} {p} {q} r l read at byte =
    let before : p.read ≡ q.read - 1 = omega (arith, read) in
    record {
      some = omega (arith, read);
      within = omega (arith, read, l);
      last = at ∙ ap (λ k. get_or ps k 0) before;
      first = byte ∙ ap (byte_at b) (sym at);
    }

-- it is the next one
pub is-next : {b ps : List ℕ} {p q : Progress} → IsRead b ps p → p.read < length ps
    → q ≡ record p { read = p.read + 1; at = get_or ps p.read 0; byte = byte_at b (get_or ps p.read 0) } → IsNext b ps p q
is-next r more is =
    record {
      more = more;
      read = read-next r more (ap (λ (q : Progress). q.read) is) (ap (λ (q : Progress). q.at) is) (ap (λ (q : Progress). q.byte) is);
      same = is;
    }

module _ (b ps : List ℕ) where
  -- the progress at the next position
  abbrev pub at_next : Progress → Progress
  at_next p = record p { read = p.read + 1; at = get_or ps p.read 0; byte = byte_at b (get_or ps p.read 0) }

  -- and at the one after it
  abbrev pub at_second : Progress → Progress
  at_second p = record p { read = p.read + 2; at = get_or ps (p.read + 1) 0; byte = byte_at b (get_or ps (p.read + 1) 0) }

  at_second-is : (p : Progress) → at_next (at_next p) ≡ at_second p
  at_second-is p = let two : (p.read + 1) + 1 ≡ p.read + 2 = omega arith in
      ap (λ n. record p { read = n; at = get_or ps (p.read + 1) 0; byte = byte_at b (get_or ps (p.read + 1) 0) }) two

-- two tokens further
module _ {b ps : List ℕ} {p q s : Progress} (n : IsNext b ps p q) (m : IsNext b ps q s) where
  pub two-left : p.read + 1 < length ps
  two-left = omega (arith, m.more, next-read n)

  pub two-is : s ≡ at_second b ps p
  two-is = m.same ∙ ap (at_next b ps) n.same ∙ at_second-is b ps p

  pub two-advances : (p.read < s.read) × (s.depth ≡ p.depth) × (s.container ≡ p.container)
  two-advances = subst (λ (s : Progress). (p.read < s.read) × (s.depth ≡ p.depth) × (s.container ≡ p.container))
      (sym two-is) (omega arith, refl, refl)

module _ (b ps : List ℕ) (e : ps ≡ positions b) where
  lift : (P : List ℕ → Type 0) → P (positions b) → P ps
  lift P h = subst P (sym e) h

  pub inside : (k : ℕ) → k < length ps → get_or ps k 0 < length b
  inside = lift (λ ps. (k : ℕ) → k < length ps → get_or ps k 0 < length b) (position-inside b)

  pub last-inside : (p : Progress) → IsRead b ps p → p.at < length b
  last-inside = lift (λ ps. (p : Progress) → IsRead b ps p → p.at < length b) (at-inside b)

  pub later : (p : Progress) → IsRead b ps p → p.read < length ps → p.at < get_or ps p.read 0
  later = lift (λ ps. (p : Progress) → IsRead b ps p → p.read < length ps → p.at < get_or ps p.read 0) (next-later b)

  -- a value's first token, and a name's, is read by the descent
  token-along : (before : List Token) (i : ℕ) (rest : List ℕ) → tokens_along b ps ≡ before ++ tokens_along b (i ∷ rest)
      → Contains (tokens b) (token b i)
  token-along before i rest along = token-read b before [] i rest
      (subst (λ ps. tokens_along b ps ≡ before ++ tokens_along b (i ∷ rest)) e along)

  -- it ends at the next position at the latest
  ends-before : (p : Progress) (end : ℕ) → IsRead b ps p → Contains (tokens b) (token b p.at)
      → token_end (token b p.at) ≡ Some end → p.read < length ps → end ≤ get_or ps p.read 0
  ends-before = lift (λ ps. (p : Progress) (end : ℕ) → IsRead b ps p → Contains (tokens b) (token b p.at)
      → token_end (token b p.at) ≡ Some end → p.read < length ps → end ≤ get_or ps p.read 0) (end-before_next b)

-- ---- from a token to the next

module _ {b ps : List ℕ} {p : Progress} (e : ps ≡ positions b) where
  pub value-token : {limit : ℕ} {stack : List StackState} {nodes : List Item} → AtValue b ps limit stack nodes p
      → Contains (tokens b) (token b p.at)
  value-token at = token-along b ps e at.before p.at (drop p.read ps) at.along

  pub name-token : {limit : ℕ} {kind : ErrorType} {stack : List StackState} {nodes : List Item}
      → AtName b ps limit kind stack nodes p → Contains (tokens b) (token b p.at)
  name-token at = token-along b ps e at.before p.at (drop p.read ps) at.along

  -- what can be read from the next position on can be from the one after it
  pub next-ahead : {reads : ℕ → Type 0} {q : Progress} → IsKept reads → IsNext b ps p q → reads (get_or ps p.read 0) → q.read < length ps
      → reads (get_or ps q.read 0)
  next-ahead {q = q} kept n h more = kept _ _ h (omega (arith, ap (λ (q : Progress). q.at) n.same, later b ps e q n.read more))

  -- what is after a string can be read from the next position on
  pub string-ahead : {reads : ℕ → Type 0} {nodes nodes' : List Item} → IsKept reads → IsRead b ps p → Contains (tokens b) (token b p.at) →
      p.byte ≡ 34
      → IsStringPut b p.at nodes nodes' reads → p.read < length ps → reads (get_or ps p.read 0)
  string-ahead kept r c quote put more = kept _ _ put.input (ends-before b ps e p put.end r c
      (ap (form_end p.at) (quotes b p.at (sym r.first ∙ quote) ∙ ap string_token put.read)) more)

  pub scalar-ahead : {reads : ℕ → Type 0} {nodes nodes' : List Item} → IsKept reads → IsRead b ps p → Contains (tokens b) (token b p.at)
      → IsScalarPut b p.at nodes nodes' reads → p.read < length ps → reads (get_or ps p.read 0)
  scalar-ahead kept r c put more =
      elim put.input [
        | inl early ↦ kept _ _ early (omega (arith, later b ps e p r more))
        | inr end ↦ kept _ _ end (ends-before b ps e p put.end r c (ap (form_end p.at) put.read) more)
      ]

  -- after a value of one node
  pub after-value : {reads reads' : ℕ → Type 0} (nodes nodes' : List Item) (x : Item) → nodes' ≡ nodes ++ x ∷ []
      → IsBefore b ps reads (length nodes) p → (p.read < length ps → reads' (get_or ps p.read 0))
      → IsAfter b ps reads' (length nodes') (record p { len = p.len + 1 })
  after-value nodes nodes' x put r ahead =
      let more = put-longer nodes nodes' x put in
      record {
        read = record { some = r.read.some; within = r.read.within; last = r.read.last; first = r.read.first };
        few = omega (arith, r.few);
        deep = omega (arith, r.deep);
        len = omega (arith, r.len);
        input = ahead;
      }

  -- after a first token that closes its container at once
  pub after-first : {reads : ℕ → Type 0} {reads' : ℕ → Type 0} {q : Progress} (nodes nodes' : List Item) (x : Item) → nodes' ≡ nodes ++ x
      ∷ []
      → IsKept reads' → ((i : ℕ) → reads i → reads' i) → IsBefore b ps reads (length nodes) p → IsNext b ps p q
      → IsAfter b ps reads' (length nodes') (record q { len = q.len + 1 })
  after-first {reads' = reads'} nodes nodes' x put kept still r n =
      let l : p.at < get_or ps p.read 0 = later b ps e p r.read n.more in
      let more = put-longer nodes nodes' x put in
      subst (λ (q : Progress). IsAfter b ps reads' (length nodes') (record q { len = q.len + 1 })) (sym n.same)
      (let s : Progress = record p {
        read = p.read + 1;
        at = get_or ps p.read 0;
        byte = byte_at b (get_or ps p.read 0);
        len = p.len + 1;
      } in
      let read : IsRead b ps s = read-next r.read n.more refl refl refl in
      record {
        read = read;
        few = omega (arith, r.few);
        deep = omega (arith, r.deep);
        len = omega (arith, r.len);
        input = λ h. kept _ _ (still _ r.input) (omega (arith, later b ps e s read h));
      })

  -- at the first token of a container that has members
  pub before-first : {reads : ℕ → Type 0} {reads' : ℕ → Type 0} {q : Progress} (c : Container) (nodes nodes' : List Item) (x : Item)
      → nodes' ≡ nodes ++ x ∷ [] → IsKept reads' → ((i : ℕ) → reads i → reads' i) → IsBefore b ps reads (length nodes) p
      → IsNext b ps p q → IsBefore b ps reads' (length nodes')
      (record { read = q.read; at = q.at; byte = q.byte; depth = p.depth + 1; container = c; len = 0 })
  before-first {reads' = reads'} c nodes nodes' x put kept still r n =
      let l : p.at < get_or ps p.read 0 = later b ps e p r.read n.more in
      let more = put-longer nodes nodes' x put in
      let opened : Progress → Progress = λ q. record {
        read = q.read;
        at = q.at;
        byte = q.byte;
        depth = p.depth + 1;
        container = c;
        len = 0;
      } in
      subst (λ (q : Progress). IsBefore b ps reads' (length nodes') (opened q)) (sym n.same)
      (record {
        read = read-next r.read n.more refl refl refl;
        few = omega (arith, r.few);
        deep = omega (arith, r.deep);
        len = omega (arith, r.len);
        input = kept _ _ (still _ r.input) (omega arith);
      })
