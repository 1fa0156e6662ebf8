-- The body is empty. The walk opens the borrow of `self` and closes it at the longer list, which no byte of memory records.
use Rattle.std.proofs.Common.{[], ◌∷◌, ◌++◌, refl}
use Rattle.std.proofs.raw_atomic.Walks.{proved}
use base.Fml.{ftrue, flft}
use base.Logic.{id⊢}
use mir.Syntax.{named}
use mir.Val.{vunit}
use types.Kit.{‵, ◌⊛◌, ◌$◌, ◌∵◌, !, qed, move, keep, use1, split, join, fsplit3, feq_i, suffices, frame, group, done}
use types.Run.{enter, of_opd, unit_lit, returns}
use types.ByLocal.{alloc_all, pass_all, free_all, look_at, sets}
use denote.Builtin.{u8}
use denote.Exit.{yes}
use denote.RattleType.{owns}
use denote.Ref.{MutRef, mut_vals, mut_Tells}
use denote.Signature.{plain}
use denote.Slice.{ShrSlice, shr_slice_vals, shr_slice_Tells}
use denote.Steps.{opens, closes}
use denote.Triple.Walked.{Stays, says, stay_ref, stay_none_slice, Goes-ref, Goes-none_slice, ends_at}
use Rattle.byte_device.specs.declared.told.Transcript.{Transcript}
use Rattle.byte_device.specs.contracts.told.Transcript.{the_row as R}
use Rattle.byte_device.specs.contracts.told.Transcript.note as f
use Rattle.byte_device.proofs.told.Transcript.note.Statement.{statement}
use Rattle.byte_device.proofs.told.Transcript.note.Code as code

-- at the return `self` is still borrowed, and the slice is as it was passed
abbrev stayed : Stays f.ended.signature.params f.ended.kept
stayed = (stay_ref (0 ∷ []) tt (plain (λ _. R)), (stay_none_slice (1 ∷ []) tt (plain (λ _. u8)) yes, tt))

pub note_spec : {M : Type 1} → statement M
note_spec 𝓤 𝓛 𝓜 𝓡 wired =
    let c = f.clauses 𝓛 𝓜.mem 𝓡.returns in
    proved 𝓛 f.ended stayed c 𝓜 𝓡 (Goes-ref 𝓛 2 0 tt (plain (λ _. R)), (Goes-none_slice 𝓛 2 (1 ∷ []) tt (plain (λ _. u8)) yes, tt))
    f.Key.name code.function (code.unfolded 𝓤 𝓛.H 𝓜 𝓡 wired)
    (λ κs. (mut_vals, (shr_slice_vals, tt)))
    (λ κs. (mut_Tells (named 0) κs.0 R, (shr_slice_Tells (named 1) κs.1.0 u8, tt))) (λ κs qs bounds a _ are.
    let b = a.0.ref_ptr.0 in let o = a.0.ref_ptr.1 in let vs = mut_vals a.0 in let ws = shr_slice_vals a.1.0 in
    let longer : Transcript = record { marker = a.0.now.marker; bytes = a.0.now.bytes ++ a.1.0.now } in
    let lent = owns (ShrSlice (named 1) κs.1.0 u8 ∷ []) a.1 (ws, tt) in
    qed 𝓛 (((‵ (flft κs.0 qs.0) ⊛ ‵ (flft κs.1.0 qs.1.0) ⊛ ‵ ftrue) ⊛ ‵ ((MutRef (named 0) κs.0 R).own_val a.0 vs) ⊛ ‵ lent) ∷ ‵ ftrue ∷ []) ∵
    split ! $ split ! $ move ! (2 ∷ []) $ split ! $ keep ! (0 ∷ 2 ∷ 3 ∷ 1 ∷ []) $
    -- [self; its token; the slice's token; the slice]
    enter ! _ _ _ _ _ $ alloc_all ! (λ l. pass_all ! refl ((tt, tt), ((tt, (tt, (record { fits = are.1.0.0.1.0 }, tt))), tt)) $
    fsplit3 ! $ move ! (1 ∷ 2 ∷ 3 ∷ []) $ opens ! tt R b o (λ us.
    sets ! (of_opd ! (unit_lit !)) refl (tt, tt) $
    move ! (1 ∷ []) $ use1 𝓛 (‵ (R.own_val longer us)) (id⊢ 𝓤 _) $
    move ! (1 ∷ 0 ∷ []) $ closes ! tt R longer us b o $
    -- [two parts of self; its token; self's first part; the slice's token; the slice]
    returns ! (look_at ! 0 refl) $ free_all ! refl $ move ! (3 ∷ []) $
    suffices ! _ (ends_at 𝓛 f.ended stayed c ((κs, qs, bounds, a, (vs, (ws, tt))), tt) vunit tt (longer, (tt, tt)) (tt, (tt, tt))) $ says ! refl $
    group ! 3 $ move ! (0 ∷ 3 ∷ []) $ join ! $ move ! (1 ∷ 2 ∷ 0 ∷ []) $ join ! $ frame ! $ frame ! $
    feq_i ! _ (vunit ∷ []) _ refl $ done !)))
