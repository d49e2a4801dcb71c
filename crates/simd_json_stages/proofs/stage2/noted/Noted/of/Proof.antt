-- `of` makes a value of no bytes, at any note.
use Rattle.std.proofs.Common.{ℕ, List, [], ◌∷◌, ◌++◌, refl, sym, subst}
use mir.Syntax.{a_type}
use mir.Val.{Val, vptr, vstruct, vnil}
use mir.MapTy.{inst_fn}
use base.Logic.{ent}
use base.Fml.{Fml}
use prog.Wp.{WpFn}
use types.Kit.{‵, raw, ◌⊛◌, ◌$◌, ◌∵◌, !, qed, move, keep, split, join, fjoin, use0, suffices, done}
use types.Run.{no_more, returns, enter}
use types.Part.{agg}
use types.ByLocal.{alloc_all, pass_all, free_all, look_at, sets}
use contract.Running.{tables}
use denote.RattleType.{owns}
use denote.Exit.{yes}
use denote.Param.{param, layouts}
use denote.Shadow.{makes_shadow}
use denote.Builtin.{RefOf}
use denote.Signature.{types_at, type_at, plain}
use denote.Steps.{nothing}
use denote.Triple.Entry.{alive}
use denote.Triple.Walked.{says, Stays, stay_dropped, walk_of, ends_at, Goes-dropped}
use Rattle.std.proofs.raw_atomic.Walks.{proved_at}
use Rattle.simd_json_stages.specs.contracts.stage2.noted.Noted.of.{ended, clauses}
use Rattle.simd_json_stages.specs.contracts.stage2.noted.Noted.of.Key.{name as #self}
use Rattle.simd_json_stages.proofs.stage2.noted.Noted.of.Statement.{statement}
use Rattle.simd_json_stages.proofs.stage2.noted.Noted.of.Code as code

pub of_spec : {M : Type 1} → statement M
of_spec 𝓤 𝓛 𝓜 𝓡 wired Y laws =
    let H = 𝓛.H in let 𝓣 = tables 𝓤 H 𝓜 𝓡 𝓡.env in let En = ended Y in let c = clauses Y 𝓛 𝓜.mem 𝓡.returns in
    let fn = inst_fn (layouts (a_type ∷ []) (Y, tt)) code.function in
    let seen = RefOf (0 ∷ []) tt (plain (λ _. param 0 Y)) (λ _. tt) in
    let hs : Stays En.signature.params En.kept = (stay_dropped seen yes, tt) in let W = walk_of 𝓛 En hs c in
    proved_at 𝓛 En hs c 𝓜 𝓡 (Goes-dropped 𝓛 2 seen yes (λ κs x f. refl), tt)
    (#self (layouts (a_type ∷ []) (Y, tt))) fn (code.unfolded 𝓤 H 𝓜 𝓡 wired (Y, tt)) (λ z are.
    let b : ℕ = z.0.3.0.ref_ptr.0 in let o : ℕ = z.0.3.0.ref_ptr.1 in
    let At : List Val → W.Ghost = λ us. ((z.0.0, z.0.1, z.0.2, z.0.3, (us, tt)), z.1) in
    let Goes : List Val → Type 1 = λ us. ent 𝓤 (W.pre (At us)) (WpFn 𝓤 H 𝓣.C 𝓣.Λ fn (us ++ []) (W.post (At us))) in
    let us : List Val = vptr b o ∷ [] in let v : Val = vstruct vnil in
    let O : Fml = (type_at En.signature.result z.0.0).own_val (record { note = z.1 }) (v ∷ []) in
    subst Goes (sym are.0.0)
    (qed 𝓛 ((raw (alive 𝓛 En.signature z.0.0 z.0.1) ⊛ ‵ (owns (types_at En.signature.params z.0.0) z.0.3 (us, tt)))
    ∷ raw ((c z.0.0 z.0.3).requires z.1) ∷ [])
    ∵ split ! $ keep ! (0 ∷ []) $
    enter ! 𝓣.C 𝓣.Λ fn us _ $ alloc_all ! (λ l. pass_all ! refl ((tt, tt), tt) $
    sets ! (agg ! (no_more !)) refl (tt, tt) $
    returns ! (look_at ! 0 refl) $ free_all ! refl $
    use0 𝓛 (‵ O) (makes_shadow 𝓛 O ((λ vss. (tt, tt)), tt) ((tt, (refl, tt)), tt)) $
    suffices ! _ (ends_at 𝓛 En hs c (At us) v (record { note = z.1 }) (tt, tt) (tt, tt)) $ says ! refl $
    nothing ! $ nothing ! $ fjoin ! $ join ! $ move ! (1 ∷ 0 ∷ []) $ join ! $ done !)))
