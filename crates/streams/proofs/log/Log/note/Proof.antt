-- The body does nothing: the list is opened, and closed as one that has the bytes too.
use Rattle.streams.proofs.Steps.{[], ◌∷◌, ◌++◌, refl, proved, id⊢, ftrue, flft, named, vunit, ‵, ◌⊛◌, ◌$◌, ◌∵◌, !, qed, done, move, keep}
use Rattle.streams.proofs.Steps.{use1, split, join, fsplit3, feq_i, suffices, frame, group, enter, of_opd, unit_lit, returns, alloc_all}
use Rattle.streams.proofs.Steps.{pass_all, free_all, look_at, sets, u8, yes, MutRef, mut_vals, mut_Tells, ShrSlice, shr_slice_vals}
use Rattle.streams.proofs.Steps.{shr_slice_Tells, plain, opens, closes, Stays, says, stay_ref, Goes-ref, stay_none_slice, Goes-none_slice}
use Rattle.streams.proofs.Steps.{ends_at}
use Rattle.streams.specs.declared.log.Log.{Log}
use Rattle.streams.specs.contracts.log.Log.{the_row as R}
use Rattle.streams.specs.contracts.log.Log.note as f
use Rattle.streams.proofs.log.Log.note.Statement.{statement}
use Rattle.streams.proofs.log.Log.note.Code as code

abbrev stayed : Stays f.ended.signature.params f.ended.kept
stayed = (stay_ref (0 ∷ []) tt (plain (λ _. R)), (stay_none_slice (1 ∷ []) tt (plain (λ _. u8)) yes, tt))

pub note_spec : {M : Type 1} → statement M
note_spec 𝓤 𝓛 𝓜 𝓡 wired =
    let c = f.clauses 𝓛 𝓜.mem 𝓡.returns in
    proved 𝓛 f.ended stayed c 𝓜 𝓡
    (Goes-ref 𝓛 2 0 tt (plain (λ _. R)), (Goes-none_slice 𝓛 2 (1 ∷ []) tt (plain (λ _. u8)) yes, tt))
    f.Key.name code.function (code.unfolded 𝓤 𝓛.H 𝓜 𝓡 wired)
    (λ κs. (mut_vals, (shr_slice_vals, tt))) (λ κs. (mut_Tells (named 0) κs.0 R, (shr_slice_Tells (named 1) κs.1.0 u8, tt)))
    (λ κs qs bounds a g are.
    let b = a.0.ref_ptr.0 in let o = a.0.ref_ptr.1 in let list = a.0.now in let more = a.1.0 in
    let longer : Log = record list { bytes = list.bytes ++ more.now } in
    let slice = (ShrSlice (named 1) κs.1.0 u8).own_val more (shr_slice_vals more) in
    qed 𝓛 (((‵ (flft κs.0 qs.0) ⊛ (‵ (flft κs.1.0 qs.1.0) ⊛ ‵ ftrue))
    ⊛ (‵ ((MutRef (named 0) κs.0 R).own_val a.0 (mut_vals a.0)) ⊛ (‵ slice ⊛ ‵ ftrue))) ∷ ‵ ftrue ∷ []) ∵
    split ! $ split ! $ move ! (2 ∷ []) $ split ! $ keep ! (0 ∷ 2 ∷ 1 ∷ 3 ∷ []) $
    -- [the list; its token; the slice and nothing; its token and nothing]
    enter ! _ _ _ _ _ $ alloc_all ! (λ l. pass_all ! refl ((tt, tt), ((tt, (tt, (record { fits = are.1.0.0.1.0 }, tt))), tt)) $
    fsplit3 ! $ move ! (1 ∷ 2 ∷ 3 ∷ []) $ opens ! tt R {h = list} b o (λ us.
    sets ! (of_opd ! (unit_lit !)) refl (tt, tt) $
    move ! (1 ∷ []) $ use1 𝓛 (‵ (R.own_val longer us)) (id⊢ 𝓤 _) $ move ! (1 ∷ 0 ∷ []) $ closes ! tt R longer us b o $
    returns ! (look_at ! 0 refl) $ free_all ! refl $ move ! (3 ∷ []) $
    suffices ! _ (ends_at 𝓛 f.ended stayed c
    ((κs, qs, bounds, a, (mut_vals a.0, (shr_slice_vals more, tt))), g) vunit tt (longer, (tt, tt)) (tt, (tt, tt))) $ says ! refl $
    group ! 3 $ move ! (0 ∷ 2 ∷ []) $ join ! $ move ! (1 ∷ 2 ∷ []) $ join ! $ frame ! $ frame ! $
    feq_i ! _ (vunit ∷ []) _ refl $ done !)))
