-- The words of one block.
use Rattle.std.proofs.Common.{◌≡◌, refl, sym, ◌∙◌, ap, ap₂, subst, ℕ, zero, suc, ◌+◌, ◌-◌, ◌/◌, ◌%◌, ◌^◌, ◌<◌, List, [], ◌∷◌, length}
use Rattle.std.proofs.Common.{get_or, Bool, true, false, ◌&&◌, ◌||◌, ◌==◌, add-zero, add-suc, arith}
use Rattle.std.specs.List.{list_any, range_with_len}
use Rattle.std.proofs.Math.Bool.{and_comm}
use Rattle.std.proofs.lemmas.List.{get_or_default}
use Rattle.std.proofs.lemmas.List.Folds.{list_any_none, list_any_at}
use lib.Bits.{bit_and, bit_or, bit_xor}
use mir.Val.{bool_byte}
use Rattle.simd_json_parts.specs.Bytes.{backslash, is_whitespace, is_structural, is_control, byte_at}
use Rattle.simd_json_parts.specs.Positions.{is_real_quote, is_inside, is_position}
use Rattle.simd_json_stages.specs.Carries.{is_escaped_at, is_open_at}
use Rattle.simd_json_stages.specs.Classes.{is_space_or_quote, is_op_or_quote}
use Rattle.simd_json_stages.specs.Words.{is_set, HasBits, escaped_in}
use Rattle.simd_json_stages.specs.Blocks.{is_plain, is_plain_before, all_bits, IsBlock, HasClasses, IsControl, IsCarried, AreClassified}
use Rattle.simd_json_stages.specs.Blocks.{AreParts, AreStarts}
use Rattle.simd_json_stages.specs.declared.stage1.words.Carry.{Carry}
use Rattle.simd_json_stages.specs.declared.stage1.words.Parts.{Parts}
use Rattle.simd_json_stages.specs.declared.stage1.words.Classified.{Classified}
use Rattle.simd_json_stages.proofs.Scan.Bits.Operations.{flip, shl, is_set-zero}
use Rattle.simd_json_stages.proofs.Scan.Bits.Combined.{bits-and, bits-or, bits-xor, bits-not, bits-same, after, bits-after, bits-all}
use Rattle.simd_json_stages.proofs.Scan.Bits.Combined.{bits-last, bits-last_spread}
use Rattle.simd_json_stages.proofs.Scan.BlockLaws.{quote-classes, structural-classes, space-classes, quote-real}
use Rattle.simd_json_stages.proofs.Scan.BlockLaws.{inside-along, inside-open, escaped-along, position-found}
use Rattle.simd_json_stages.proofs.Scan.Bits.Escapes.{no_escapes}
use Rattle.simd_json_stages.proofs.Scan.Bits.Prefix.{prefixes, prefix-bits}

-- ---- the parts of a block

abbrev quotes : ℕ → ℕ → ℕ
quotes s o = bit_and s o

abbrev real : ℕ → ℕ → ℕ → ℕ
real s o escaped = bit_and (quotes s o) (flip escaped)

pub parts-found : (b : List ℕ) (at s o control escaped : ℕ) → HasClasses b at s o control escaped
    → AreParts b at (record {
      parity = prefixes (real s o escaped);
      plain = flip (bit_or
          (bit_or (bit_and o (flip (bit_or control s))) (bit_xor s (quotes s o))) (real s o escaped));
      space = bit_xor s (quotes s o);
      quote = real s o escaped;
    })
parts-found b at s o control escaped c =
    let op : HasBits (bit_and o (flip (bit_or control s))) (λ i. is_structural (byte_at b (at + i))) =
    bits-same (bits-and c.op_or_quote (bits-not (bits-or c.control c.space_or_quote))) (λ i l. structural-classes _ (c.bytes i l)) in
    let space : HasBits (bit_xor s (quotes s o)) (λ i. is_whitespace (byte_at b (at + i))) = bits-same
    (bits-xor c.space_or_quote (bits-and c.space_or_quote c.op_or_quote)) (λ i l. space-classes _ (c.bytes i l)) in
    let quote : HasBits (real s o escaped) (λ i. is_real_quote b (at + i)) =
    bits-same (bits-and (bits-same (bits-and c.space_or_quote c.op_or_quote) (λ i l. quote-classes _ (c.bytes i l)))
    (bits-not c.escaped))
    (λ i l. quote-real b (at + i)) in
    record {
      bytes = c.bytes;
      plain = bits-not (bits-or (bits-or op space) quote);
      space = space;
      quote = quote;
      parity = prefix-bits (real s o escaped) quote.small;
    }

-- ---- its positions, from what is before it

-- the last byte is what the next block has to know of plain ones
pub plain-out : (b : List ℕ) (at : ℕ) (p : Parts) → AreParts b at p → p.plain / 2 ^ 63 ≡ bool_byte (is_plain_before b (at + 64))
unfolding is_plain_before
plain-out b at p parts =
    let e : suc (at + 63) ≡ at + 64 = omega arith in
    let now : is_plain b (at + 63) ≡ is_plain_before b (suc (at + 63)) = refl in
    bits-last parts.plain ∙ ap bool_byte (now ∙ ap (is_plain_before b) e)

module _ (b : List ℕ) (at : ℕ) (p : Parts) (control : ℕ) (c : Carry) (parts : AreParts b at p) (hcontrol : IsControl b at control)
    (carried : IsCarried b at c) where
  abbrev within : ℕ
  within = bit_xor p.parity c.inside

  abbrev follows : ℕ
  follows = bit_or (shl 1 p.plain) c.plain

  hwithin : HasBits within (λ i. is_inside b (at + i))
  hwithin =
      let whole : HasBits c.inside (λ i. is_open_at b at) = subst (λ w. HasBits w (λ i. is_open_at b at)) (sym carried.inside)
      (bits-all (is_open_at b at)) in
      bits-same (bits-xor parts.parity whole) (inside-along b at p.quote parts.quote.bits)

  follow : (i : ℕ) → i < 64 → after (is_plain_before b at) (λ i. is_plain b (at + i)) i ≡ is_plain_before b (at + i)
  unfolding is_plain_before
  follow zero l = ap (is_plain_before b) (sym (add-zero at))
  follow (suc i) l = ap (is_plain_before b) (sym (add-suc at i))

  hfollows : HasBits follows (λ i. is_plain_before b (at + i))
  hfollows = bits-same (subst (λ w. HasBits (bit_or (shl 1 p.plain) w) (after (is_plain_before b at) (λ i. is_plain b (at + i))))
      (sym carried.plain) (bits-after (is_plain_before b at) parts.plain)) follow

  starts-bits : HasBits (flip (bit_or (bit_or (bit_and p.plain follows) p.space) (bit_xor within p.quote))) (λ i. is_position b (at + i))
  starts-bits = bits-same (bits-not (bits-or (bits-or (bits-and parts.plain hfollows) parts.space)
      (bits-xor hwithin parts.quote))) (λ i l. position-found b (at + i) (parts.bytes i l))

  bad-bits : HasBits (bit_and control within) (λ i. is_inside b (at + i) && is_control (byte_at b (at + i)))
  bad-bits = bits-same (bits-and hcontrol hwithin) (λ i l. and_comm (is_control (byte_at b (at + i))) (is_inside b (at + i)))

  inside-out : (0 + (2 ^ 64 - within / 2 ^ 63)) % 2 ^ 64 ≡ all_bits (is_open_at b (at + 64))
  inside-out = let e : suc (at + 63) ≡ at + 64 = omega arith in bits-last_spread hwithin
      ∙ ap all_bits (inside-open b (at + 63) ∙ ap (is_open_at b) e)

  pub starts-found : AreStarts b at (record {
    starts = flip (bit_or (bit_or (bit_and p.plain follows) p.space)
        (bit_xor within p.quote));
    bad = bit_and control within;
    carry = record { inside = (0 + (2 ^ 64 - within / 2 ^ 63)) % 2 ^ 64; plain = p.plain / 2 ^ 63 };
  })
  starts-found = record { starts = starts-bits; bad = bad-bits; carry = record { inside = inside-out; plain = plain-out b at p parts } }

-- ---- the bytes of a block, as those of the input

pub any-bytes : (p : ℕ → Bool) (f : ℕ → ℕ) (at : ℕ) (xs : List ℕ) → ((i : ℕ) → i < length xs → get_or xs i 0 ≡ f (at + i))
    → list_any p xs ≡ list_any (λ i. p (f i)) (range_with_len at (length xs))
any-bytes p f at [] h = refl
any-bytes p f at (x ∷ xs) h =
    ap₂ (λ s t. s || t) (ap p (h 0 (omega arith) ∙ ap f (add-zero at)))
    (any-bytes p f (at + 1) xs (λ i l. h (suc i) (omega arith) ∙ ap f (omega arith)))

pub none-any : (p : ℕ → Bool) (xs : List ℕ) → list_any p xs ≡ false → (i : ℕ) → i < length xs → p (get_or xs i 0) ≡ false
none-any p xs e i l = no (p (get_or xs i 0)) (λ yes. sym (list_any_at p xs i 0 l yes) ∙ e)
  where
    no : (t : Bool) → (t ≡ true → true ≡ false) → t ≡ false
    no true h = h refl
    no false h = refl

-- a word with a bit for each of them that passes
pub any-zero : (p : ℕ → Bool) (xs : List ℕ) (w : ℕ) → length xs ≡ 64 → HasBits w (λ i. p (get_or xs i 0)) → w ≡ 0
    → list_any p xs ≡ false
any-zero p xs w long h e = list_any_none p xs (λ k d l. ap p (get_or_default xs k d 0 l)
    ∙ sym (h.bits k (omega arith)) ∙ ap (λ v. is_set v k) e ∙ is_set-zero k)

-- ---- which bytes of a block are escaped, with a backslash in it or without

abbrev pub AreEscaped : List ℕ → ℕ → ℕ → ℕ → Type 0
AreEscaped b at escaped next = HasBits escaped (λ i. is_escaped_at b (at + i)) × (next ≡ bool_byte (is_escaped_at b (at + 64)))

pub escaped-some : (b : List ℕ) (at : ℕ) (x escaped next : ℕ) → HasBits x (λ i. byte_at b (at + i) == backslash)
    → HasBits escaped (escaped_in (is_escaped_at b at) x) × (next ≡ bool_byte (escaped_in (is_escaped_at b at) x 64))
    → AreEscaped b at escaped next
escaped-some b at x escaped next h r =
    let along = escaped-along b at (is_escaped_at b at) x (λ _. is_escaped_at b at) h.bits in
    (bits-same r.0 (λ j l. along j (omega arith)), r.1 ∙ ap bool_byte (along 64 (omega arith)))

pub escaped-none : (b : List ℕ) (at : ℕ) (before : ℕ) → before ≡ bool_byte (is_escaped_at b at)
    → ((i : ℕ) → i < 64 → (byte_at b (at + i) == backslash) ≡ false) → AreEscaped b at before 0
escaped-none b at before e none =
    let along = escaped-along b at (is_escaped_at b at) 0 (λ _. is_escaped_at b at) (λ j l. is_set-zero j ∙ sym (none j l)) in
    let r = no_escapes (is_escaped_at b at) before e in
    (bits-same r.0 (λ j l. along j (omega arith)), r.1 ∙ ap bool_byte (along 64 (omega arith)))

-- ---- what is found in a block by itself

pub classified-found : (b : List ℕ) (at : ℕ) (bytes : List ℕ) (m : Classified) → IsBlock b at bytes → ((i : ℕ) → get_or bytes i 0 < 256)
    → HasBits m.space_or_quote (λ i. is_space_or_quote (get_or bytes i 0))
    → HasBits m.op_or_quote (λ i. is_op_or_quote (get_or bytes i 0))
    → HasBits m.control (λ i. is_control (get_or bytes i 0))
    → (m.high ≡ 0 → (i : ℕ) → i < 64 → get_or bytes i 0 < 128) → m.has_backslash ≡ list_any (λ x. x == backslash) bytes
    → AreEscaped b at m.escaped m.next → AreClassified b at m
classified-found b at bytes m block small space_or_quote op_or_quote control ascii escapes escaped = record {
  classes = record {
    bytes = λ i l. subst (λ x. x < 256) (block.same i l) (small i);
    space_or_quote = bits-same space_or_quote (λ i l. ap is_space_or_quote (block.same i l));
    op_or_quote = bits-same op_or_quote (λ i l. ap is_op_or_quote (block.same i l));
    control = bits-same control (λ i l. ap is_control (block.same i l));
    escaped = escaped.0;
  };
  next = escaped.1;
  ascii = λ none n from end. let e : at + (n - at) ≡ n = omega arith in
      subst (λ k. byte_at b k < 128) e (subst (λ x. x < 128) (block.same (n - at) (omega arith)) (ascii none (n - at) (omega arith)));
  escapes = escapes ∙ any-bytes (λ x. x == backslash) (byte_at b) at bytes (λ i l. block.same i (omega (arith, block.len)))
      ∙ ap (λ n. list_any (λ i. byte_at b i == backslash) (range_with_len at n)) block.len;
}
