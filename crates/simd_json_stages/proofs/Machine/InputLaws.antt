-- What the machine can read of an input: later on it stays, and a string without an escape is its bytes.
use Rattle.std.proofs.Common.{◌≡◌, sym, ◌∙◌, ap, subst, ℕ, suc, ◌+◌, ◌-◌, ◌<◌, ◌≤◌, ◌≢◌, List, length, get_or, take, drop, refl, arith}
use Rattle.std.specs.Prelude.{Ok, IsUtf8, IsFalse, slice_range}
use Rattle.std.proofs.lemmas.List.{get_or-drop, get_or_past, drop-drop, drop-take, length-drop, take_all, take_rest}
use Rattle.simd_json_parts.specs.Bytes.{quote, backslash, byte_at}
use Rattle.simd_json_parts.specs.StringAt.{closing_quote, string_at}
use Rattle.simd_json_scalars.proofs.Strings.Plain.{plain-decoded}
use Rattle.simd_json_scalars.proofs.Strings.Reader.{decoded-string, string_at-shared}
use Rattle.simd_json_scalars.proofs.Strings.Standalone.{closing_quote-further}
use Rattle.simd_json_stages.specs.EscapeBlocks.{blocks_in, backslash_blocks}
use Rattle.simd_json_stages.specs.EscapesAhead.{AreAhead, PlainFrom}
use Rattle.simd_json_stages.specs.Inputs.{IsLent, IsStringBefore, Reads}
use Rattle.simd_json_stages.specs.declared.stage2.escapes.Escapes.{Escapes}
use Rattle.simd_json_stages.specs.declared.stage2.input.Unread.{Unread}
use Rattle.simd_json_stages.proofs.Machine.BetweenBlocks.{plain-to_first}
use Rattle.simd_json_stages.specs.ReadsLater.{ahead-later}

-- what is lent is from an index on the input from there on
pub lent-drop : {b rest : List ℕ} {at : ℕ} {escapes : Escapes} {i : ℕ} → IsLent b rest at escapes i → (j : ℕ) → at ≤ j
    → drop (j - at) rest ≡ drop j b
lent-drop {b} {rest} {at} lent j l =
    let there : at + (j - at) ≡ j = omega (arith, l) in
    ap (drop (j - at)) lent.rest ∙ drop-drop (j - at) at b ∙ ap (λ n. drop n b) there

-- and some bytes of it from where a token begins
pub lent-slice : {b rest : List ℕ} {at : ℕ} {escapes : Escapes} {i : ℕ} {prefix : List ℕ} (len : ℕ) → IsLent b rest at escapes i
    → prefix ≡ take (i + len - at) rest → take (length prefix - (i - at)) (drop (i - at) prefix) ≡ take len (drop i b)
lent-slice {b} {rest} {at} {i = i} {prefix} len lent is =
    let size : i + len - at ≡ (i - at) + len = omega (arith, lent.before) in
    take_rest prefix (i - at) ∙ ap (drop (i - at)) (is ∙ ap (λ n. take n rest) size) ∙ drop-take (i - at) len rest
    ∙ ap (take len) (lent-drop lent i lent.before)

-- and up to the end all of them
pub lent-all : {b rest : List ℕ} {at : ℕ} {escapes : Escapes} {i end : ℕ} {after all : List ℕ} → IsLent b rest at escapes i
    → end ≡ length b → after ≡ drop (i - at) rest → all ≡ take (end - i) after → all ≡ drop i b
lent-all {b} {i = i} {end} {after} lent whole is cut =
    let from : after ≡ drop i b = is ∙ lent-drop lent i lent.before in
    cut ∙ take_all (end - i) after (omega (arith, whole, ap length from, length-drop i b)) ∙ from

-- ---- a string that is closed before an index

module _ (b : List ℕ) (i next : ℕ) (string : IsStringBefore b i next) where
  -- its closing quote, seen from its opening quote
  pub closing-further : closing_quote b i ≡ i + closing_quote (drop i b) 0
  closing-further = closing_quote-further b i string.opening

  pub opening-here : byte_at (drop i b) 0 ≡ quote
  opening-here = get_or-drop i b 0 32 ∙ ap (byte_at b) (let none : i + 0 ≡ i = omega arith in none) ∙ string.opening

  pub closes-here : closing_quote (drop i b) 0 < length (drop i b)
  closes-here = omega (arith, closing-further, length-drop i b, string.closed, string.within)

  -- without an escape
  module _ (plain : PlainFrom b i next) where
    pub plain-here : (j : ℕ) → 0 < j → j < closing_quote (drop i b) 0 → byte_at (drop i b) j ≢ backslash
    plain-here j f t e = plain (i + j) (omega arith) (omega (arith, closing-further, string.closed)) (sym (get_or-drop i b j 32) ∙ e)

    -- it is the bytes between its quotes
    pub plain-utf8 : IsUtf8 (slice_range (drop i b) 1 (closing_quote (drop i b) 0))
    plain-utf8 = decoded-string _ _ _ _ (plain-decoded (drop i b) (closing_quote (drop i b) 0)
        opening-here refl closes-here plain-here string.utf8).1

    pub plain-string : (t : List ℕ) → t ≡ slice_range (drop i b) 1 (closing_quote (drop i b) 0)
        → string_at b i ≡ Ok (t, suc (closing_quote b i))
    plain-string t is =
        let d = plain-decoded (drop i b) (closing_quote (drop i b) 0) opening-here refl closes-here plain-here string.utf8 in
        let end : i + (closing_quote (drop i b) 0 + 1) ≡ suc (closing_quote b i) = omega (arith, closing-further) in
        (string_at-shared b (drop i b) (drop i b) t (drop (closing_quote (drop i b) 0 + 1) (drop i b)) i _ _
        (closing_quote (drop i b) 0 + 1) refl opening-here d.1 d.2 is refl refl).0
        ∙ ap (λ n. Ok (t, n)) end

-- the bytes between the quotes, in what is shared
pub shared-slice : (b shared : List ℕ) (i next k : ℕ) → IsStringBefore b i next → shared ≡ b → k ≡ closing_quote b i
    → take (k - (i + 1)) (drop (i + 1) shared) ≡ slice_range (drop i b) 1 (closing_quote (drop i b) 0)
shared-slice b shared i next k string e is =
    let size : k - (i + 1) ≡ closing_quote (drop i b) 0 - 1 = omega (arith, closing-further b i next string) in
    ap (λ us. take (k - (i + 1)) (drop (i + 1) us)) e ∙ ap (λ us. take (k - (i + 1)) us) (sym (drop-drop 1 i b))
    ∙ ap (λ n. take n (drop 1 (drop i b))) size

-- what is left after a string can be read
pub reads-after : (b : List ℕ) (t t' : Unread) (i next end : ℕ) → Reads b t i → IsStringBefore b i next → IsFalse t.is_plain
    → t'.is_plain ≡ t.is_plain → t'.escapes ≡ t.escapes → t'.end ≡ t.end
    → t'.at ≡ end → end ≡ suc (closing_quote b i) → t'.rest.now ≡ drop end b → Reads b t' (suc (closing_quote b i))
reads-after b t t' i next end reads string lent kind escapes whole at is rest =
    let part : IsLent b t.rest.now t.at t.escapes i = reads.part lent in
    record {
      fits = reads.fits;
      end = whole ∙ reads.end;
      whole = λ shared. cc (shared, kind, lent);
      part = λ _. record {
        rest = rest ∙ ap (λ n. drop n b) (sym at);
        before = omega arith;
        ahead = subst (λ e. AreAhead b e (suc (closing_quote b i))) (sym escapes)
            (ahead-later b t.escapes i part.ahead (suc (closing_quote b i)) (omega (arith, string.later)));
      };
    }

-- where no block holds a backslash none is there
pub no-blocks : (b blocks : List ℕ) → blocks ≡ backslash_blocks b → length blocks ≡ 0 → PlainFrom b 0 (length b)
no-blocks b blocks is none j f t =
    let past : get_or (backslash_blocks b) 0 (blocks_in (length b)) ≡ blocks_in (length b) = get_or_past (backslash_blocks b) 0
    (blocks_in (length b)) (omega (arith, ap length is)) in
    plain-to_first b j f (omega (arith, past))
