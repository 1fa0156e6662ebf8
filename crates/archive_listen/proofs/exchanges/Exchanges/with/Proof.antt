-- The value has no bytes at run time: the walk makes its struct of nothing, at the longer list.
use Rattle.std.proofs.Common.{[], ◌∷◌, ◌++◌, refl}
use Rattle.std.proofs.raw_atomic.Walks.{proved}
use mir.Syntax.{named}
use mir.Val.{Val, vstruct, vcons, vnil}
use types.Kit.{‵, raw, ◌⊛◌, ◌$◌, ◌∵◌, !, qed, move, keep, split, suffices, done}
use types.Run.{enter, no_more, and_then, returns}
use types.Part.{agg}
use types.ByLocal.{alloc_all, pass_all, free_all, look_at, get, sets}
use denote.Exit.{yes}
use denote.RattleType.{owns}
use denote.Ref.{shr_vals, shr_Tells}
use denote.Shadow.{pure_i}
use denote.Signature.{plain, types_at}
use denote.Triple.Entry.{Vals, alive}
use denote.Triple.Walked.{Stays, says, stay_none_ref, Goes-none_ref, ends_at}
use Rattle.archive_listen.specs.Connections.{exchange}
use Rattle.archive_listen.specs.declared.exchanges.Exchanges.{Exchanges}
use Rattle.archive_listen.specs.contracts.exchanges.Exchanges.{the_row as R}
use Rattle.byte_device.specs.contracts.told.Transcript.{the_row as T}
use Rattle.archive_listen.specs.contracts.exchanges.Exchanges.with as f
use Rattle.archive_listen.proofs.exchanges.Exchanges.with.Statement.{statement}
use Rattle.archive_listen.proofs.exchanges.Exchanges.with.Code as code

-- what the machine stores: a struct whose one field is a struct of no fields
abbrev stored : Val
stored = vstruct (vcons (vstruct vnil) vnil)

-- at the return each reference is as it was passed
abbrev stayed : Stays f.ended.signature.params f.ended.kept
stayed = (
  stay_none_ref (0 ∷ []) tt (plain (λ _. R)) yes,
  (stay_none_ref (1 ∷ []) tt (plain (λ _. T)) yes, (stay_none_ref (2 ∷ []) tt (plain (λ _. T)) yes, tt)),
)

pub with_spec : {M : Type 1} → statement M
with_spec 𝓤 𝓛 𝓜 𝓡 wired =
    let c = f.clauses 𝓛 𝓜.mem 𝓡.returns in
    proved 𝓛 f.ended stayed c 𝓜 𝓡
    (Goes-none_ref 𝓛 3 (0 ∷ []) tt (plain (λ _. R)) yes, (Goes-none_ref 𝓛 3 (1 ∷ []) tt (plain (λ _. T)) yes, (Goes-none_ref 𝓛 3 (2 ∷ []) tt (plain (λ _. T)) yes, tt)))
    f.Key.name code.function (code.unfolded 𝓤 𝓛.H 𝓜 𝓡 wired)
    (λ κs. (shr_vals, (shr_vals, (shr_vals, tt))))
    (λ κs. (shr_Tells (named 0) κs.0 R, (shr_Tells (named 1) κs.1.0 T, (shr_Tells (named 2) κs.1.1.0 T, tt)))) (λ κs qs bounds a g _.
    let at : Vals f.signature κs = (shr_vals a.0, (shr_vals a.1.0, (shr_vals a.1.1.0, tt))) in
    let made : Exchanges = record { marker = record {}; all = a.0.now.all ++ exchange a.1.0.now.bytes a.1.1.0.now.bytes ∷ [] } in
    qed 𝓛 ((raw (alive 𝓛 f.signature κs qs) ⊛ ‵ (owns (types_at f.signature.params κs) a at)) ∷ raw ((c κs a).requires g) ∷ []) ∵ keep ! (0 ∷ []) $ split ! $
    enter ! _ _ _ _ _ $ alloc_all ! (λ l. pass_all ! refl ((tt, tt), ((tt, tt), ((tt, tt), tt))) $
    sets ! (agg ! (no_more !)) refl (tt, tt) $
    sets ! (agg ! (and_then ! (get ! refl) (no_more !))) refl (tt, (tt, tt)) $
    returns ! (look_at ! 0 refl) $ free_all ! refl $
    suffices ! _ (ends_at 𝓛 f.ended stayed c ((κs, qs, bounds, a, at), g) stored made (tt, (tt, (tt, tt))) (tt, (tt, (tt, tt)))) $ says ! refl $
    pure_i ! (R.own_val made (stored ∷ [])) ((λ vss. (tt, ((λ uss. (tt, tt)), tt))), tt)
    (((vstruct vnil ∷ [], tt), (refl, ((tt, (refl, tt)), tt))), tt) $
    move ! (1 ∷ 2 ∷ 0 ∷ []) $ done !))
