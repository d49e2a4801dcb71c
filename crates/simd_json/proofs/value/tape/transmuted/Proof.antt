-- `transmuted` hands the bytes of an empty list on: what such a list owns names no node. Assumes `Logic`.
use Rattle.std.proofs.Common.{◌≡◌, ℕ, List, [], ◌∷◌, ◌++◌, length, refl, sym, ◌∙◌, Vec, arith}
use seplogic.Ra.Ura.{Ura}
use lib.Dec.{T}
use mir.Syntax.{given as dict_at, Fn, Args, Dict, a_type, dcons, dnil, seq, assign, place, rv_opd, copy, return}
use mir.Val.{Val, has_ty, WT}
use mir.MapTy.{inst_fn}
use base.Logic.{SProp, ent, id⊢}
use prog.Memory.{Memory}
use prog.Routine.{Routine}
use prog.Wp.{Calls, Loops, WpFn, Tables}
use contract.Monad.{Fun, fact}
use contract.Running.{tables, tables_of}
use contract.BorrowLft.{◌⊑◌}
use sound.WpLaws.{WpFn-mono}
use types.Logic.{Logic, sem}
use base.Fml.{ftrue}
use types.Kit.{Goal, Seq, Item, ‵, raw, ◌⊛◌, prop, at_ret, ◌$◌, ◌∵◌, !, qed, move, drop, use1, split, fsplit, fjoin, fpick, fpack}
use types.Kit.{regoal, rewrite, suffices, done}
use types.Run.{enter, returns, of_opd, addr, from, load, stop, first, blocks, exec}
use types.ByLocal.{alloc_all, pass_all, free_all, look_at, get, through, sets, sets_last, env}
use denote.Exit.{no}
use denote.RattleType.{RattleType, owns, Valss}
use denote.Param.{param, bounded, layout}
use denote.Param.Laws.{Laws, param_laws}
use denote.Ref.{NamedLft}
use denote.Struct.Struct.{within}
use denote.Struct.Declared.{shape}
use denote.Signature.{plain, types_at, named_lft}
use denote.Steps.{nothing, heard}
use denote.Triple.Clauses.{Clauses, Ended, closing}
use denote.Triple.Entry.{alive}
use denote.Triple.Spec.{Meets, triple_of}
use denote.Triple.Table.{entered}
use denote.Triple.Walked.{says, Stays, stay_dropped, walk_of, ends_at, walk_Meets}
use Rattle.std.specs.declared.alloc.Allocator.{Ghosts}
use Rattle.std.proofs.alloc.Calls.{Goes-blank, handle_tells}
use Rattle.std.specs.declared.mem.ManuallyDrop.{ManuallyDrop}
use Rattle.std.specs.contracts.vec.Vec as V
use Rattle.std.specs.contracts.mem.ManuallyDrop as MD
use Rattle.std.proofs.vec.Vec.TheLaws as vec_laws
use Rattle.std.proofs.mem.ManuallyDrop.TheLaws as md_laws
use Rattle.std.specs.Vec.Ownership.{vec_owns}
use Rattle.simd_json_parts.specs.declared.node.Node.{Node}
use Rattle.simd_json_parts.specs.contracts.node.Node as N
use Rattle.simd_json_parts.proofs.node.Node.TheLaws as node_laws
use Rattle.simd_json.specs.contracts.value.tape.transmuted as F
use Rattle.simd_json.specs.contracts.value.tape.transmuted.Key.{name as #self}
use Rattle.simd_json.proofs.value.tape.transmuted.Statement as stated
use Rattle.simd_json.proofs.value.tape.transmuted.Code as code

abbrev Good : RattleType → Val → Type 0
Good R v = T (has_ty (layout R) v) × WT v

module _ {M : Type 1} {𝓤 : Ura M} {𝓛 : Logic 𝓤} {K : Type 0} {Γ : List (Item 𝓤)} {G : Goal 𝓤 𝓛.H} where
  -- what is owned is one machine value, of its type
  tells : K → (R : RattleType) → Laws R → (x : R.Denot) (vs : List Val)
      → ((v : Val) → vs ≡ v ∷ [] → Good R v → Seq K 𝓛 (‵ (R.own_val x (v ∷ [])) ∷ Γ) G) → Seq K 𝓛 (‵ (R.own_val x vs) ∷ Γ) G
  tells t R L = handle_tells
      (record { row = R; laws = L; g = record { dealloc_token = λ a τ p. ftrue }; d = dict_at 0; drops = dict_at 0 }) t

none_of : {X : Type 0} (xs : List X) → length xs ≡ 0 → xs ≡ []
none_of [] e = refl
none_of (x ∷ xs) e = absurd (omega (arith, e))

module _ (P : RattleType) (g : Ghosts P.Denot) {M : Type 1} {𝓤 : Ura M} (𝓛 : Logic 𝓤) (a b : NamedLft) where
  abbrev row : NamedLft → RattleType
  row c = V.the_row (N.the_row c) P g

  -- an empty list of one lifetime is one of the other
  other : (v : Vec Node P.Denot) (vs : List Val) → v.len ≡ 0 → ent 𝓤 (sem 𝓛 ((row a).own_val v vs)) (sem 𝓛 ((row b).own_val v vs))
  unfolding denote.Memory.part_of
  other v vs none =
      let t = g.dealloc_token v.alloc in
      let Owns = λ (c : NamedLft) (n : ℕ) (xs : List Node). vec_owns t (N.the_row c) v.ptr n v.cap xs in
      let empty = none_of v.items (sym v.ok.0 ∙ none) in
      qed 𝓛 (‵ ((row a).own_val v vs) ∷ []) ∵ fsplit ! $ move ! (1 ∷ []) $
      rewrite ! 0 (λ n. ‵ (Owns a n v.items)) none refl $
      rewrite ! 0 (λ xs. ‵ (Owns a 0 xs)) empty refl $
      use1 𝓛 (‵ (Owns b 0 [])) (id⊢ 𝓤 _) $
      rewrite ! 0 (λ xs. ‵ (Owns b 0 xs)) (sym empty) refl $
      rewrite ! 0 (λ n. ‵ (Owns b n v.items)) (sym none) refl $
      move ! (1 ∷ 0 ∷ []) $ fjoin ! $ done !

  abbrev kept : NamedLft → RattleType
  kept c = MD.the_row (row c)

  other_kept : (m : ManuallyDrop (Vec Node P.Denot)) (vs : List Val) → m.value.len ≡ 0
      → ent 𝓤 (sem 𝓛 ((kept a).own_val m vs)) (sem 𝓛 ((kept b).own_val m vs))
  other_kept m vs none =
      qed 𝓛 (‵ ((kept a).own_val m vs) ∷ []) ∵ fpick ! (λ vss. fsplit ! $ move ! (1 ∷ []) $ fsplit ! $
      use1 𝓛 (‵ ((row b).own_val m.value vss.0)) (other m.value vss.0 none) $ fjoin ! $ move ! (1 ∷ 0 ∷ []) $ fjoin ! $
      fpack ! (Valss (row b ∷ [])) (within (shape (MD.the_type (row b))) (m.value, tt) vs) vss $ done !)

module _ (A : RattleType) (L : Laws A) (g : Ghosts A.Denot) (d dd : Dict) where
  abbrev args : Args
  args = bounded (a_type ∷ []) (A, tt) (dcons d (dcons dd dnil))

  abbrev P : RattleType
  P = param 0 A

  abbrev LP : Laws P
  LP = param_laws 0 A L

  abbrev Held : NamedLft → RattleType
  Held c = MD.the_row (V.the_row (N.the_row c) P g)

  abbrev held-laws : (c : NamedLft) → Laws (Held c)
  held-laws c = md_laws.the_row_laws (V.the_row (N.the_row c) P g) (vec_laws.the_row_laws (N.the_row c) P g (node_laws.the_row_laws c) LP)

  abbrev function : Fn
  function = inst_fn args code.function

  abbrev ended : Ended
  ended = F.ended A g d dd

  abbrev stayed : Stays ended.signature.params ended.kept
  stayed = (stay_dropped (plain (λ κs. Held (named_lft 3 0 tt κs))) no, tt)

  module _ {M : Type 1} {𝓤 : Ura M} (𝓛 : Logic 𝓤) (at_mem : Memory → SProp 𝓤) (run : Routine → Fun 𝓤) where
    open 𝓛 use {H}

    abbrev held : Clauses 𝓤 ended
    held = F.clauses A g d dd 𝓛 at_mem run

    module _ (C : Calls 𝓤 H) (Λ : Loops 𝓤 H) (z : (walk_of 𝓛 ended stayed held).Ghost) where
      abbrev Post : Val → SProp 𝓤
      Post = (walk_of 𝓛 ended stayed held).post z

      abbrev toks : SProp 𝓤
      toks = alive 𝓛 ended.signature z.0.0 z.0.1

      walks : ent 𝓤 ((walk_of 𝓛 ended stayed held).pre z) (WpFn 𝓤 H C Λ function ((walk_of 𝓛 ended stayed held).args z) Post)
      walks =
          let a = z.0.3 in
          let vss = z.0.4 in
          let m = a.0 in
          let old = named_lft 3 0 tt z.0.0 in
          let new = named_lft 3 1 tt z.0.0 in
          let Asked = m.value.len ≡ 0 in
          let Longer = z.0.0.1.1.0 ⊑ A.lives in
          qed 𝓛 ((raw toks ⊛ ‵ (owns (types_at ended.signature.params z.0.0) a vss)) ∷ (raw (fact 𝓤 Longer) ⊛ raw (fact 𝓤 Asked)) ∷ []) ∵
          move ! (1 ∷ []) $ split ! $ drop ! $ heard ! Asked (λ asked. split ! $ move ! (1 ∷ []) $
          fsplit ! $ tells ! (Held old) (held-laws old) m vss.0 (λ u is good. move ! (1 ∷ []) $ drop ! $
          use1 𝓛 (‵ ((Held new).own_val m (u ∷ []))) (other_kept P g 𝓛 old new m (u ∷ []) asked) $
          regoal ! (λ (us : List Val). prop (WpFn 𝓤 H C Λ function (us ++ []) Post)) is refl $
          enter ! C Λ function (u ∷ []) Post $ alloc_all ! (λ l. pass_all ! refl (good, tt) $
          sets ! (of_opd ! (get ! refl)) refl good $
          first ! $ blocks ! $
          sets ! (addr ! (from ! (stop !))) refl (tt, tt) $
          sets_last ! (of_opd ! (load ! (through ! refl (stop !)) (look_at ! 2 refl))) refl good $
          exec ! C Λ (env function.locals l) (seq (assign (place 0 []) (rv_opd (copy (place 3 [])))) return)
          (at_ret (env function.locals l) Post) $
          sets ! (of_opd ! (get ! refl)) refl good $
          returns ! (look_at ! 0 refl) $ free_all ! refl $
          suffices ! _ (ends_at 𝓛 ended stayed held z u m (((tt, (tt, (tt, (tt, tt)))), tt), tt) (tt, tt)) $ says ! (asked, refl) $
          nothing ! $ nothing ! $ fjoin ! $ move ! (2 ∷ 0 ∷ 1 ∷ []) $ done !)))

    meets : (𝓣 : Tables 𝓤 H) → Meets 𝓛 ended.signature (WpFn 𝓤 H 𝓣.C 𝓣.Λ function) (closing 𝓛 ended held)
    meets 𝓣 =
        walk_Meets 𝓛 ended stayed (Goes-blank 𝓛 3 (plain (λ κs. Held (named_lft 3 0 tt κs))) no (λ κs x f. tt), tt) held
        (WpFn 𝓤 H 𝓣.C 𝓣.Λ function) (WpFn-mono 𝓤 H 𝓛.laws 𝓣 function) (walks 𝓣.C 𝓣.Λ)

pub transmuted_spec : {M : Type 1} → stated.statement M
unfolding tables_of
transmuted_spec 𝓤 𝓛 𝓜 𝓡 wired A L g d dd met md =
    let 𝓣 : Tables 𝓤 𝓛.H = tables_of 𝓤 𝓛.H 𝓜 (tables 𝓤 𝓛.H 𝓜 𝓡 𝓡.env) in
    let E = ended A L g d dd in
    entered 𝓤 𝓛.H (triple_of 𝓛 E.signature (closing 𝓛 E (held A L g d dd 𝓛 𝓜.mem 𝓡.returns))) 𝓣.C 𝓣.Λ
    (#self (args A L g d dd)) (function A L g d dd)
    (code.unfolded 𝓤 𝓛.H 𝓜 𝓡 wired (A, tt) d dd) (meets A L g d dd 𝓛 𝓜.mem 𝓡.returns 𝓣)
