-- The body does nothing: the list of files is closed as one that has the file too.
use Rattle.streams.proofs.Steps.{[], ◌∷◌, ◌++◌, refl, proved, id⊢, ftrue, flft, named, vunit, ‵, ◌⊛◌, ◌$◌, ◌∵◌, !, qed, done, move, keep}
use Rattle.streams.proofs.Steps.{use1, split, join, fsplit3, feq_i, suffices, frame, group, enter, of_opd, unit_lit, returns, alloc_all}
use Rattle.streams.proofs.Steps.{pass_all, free_all, look_at, sets, u8, bool, yes, bool_vals, bool_Tells, MutRef, mut_vals, mut_Tells}
use Rattle.streams.proofs.Steps.{ShrSlice, shr_slice_vals, shr_slice_Tells, plain, nothing, opens, closes, Stays, says, stay_ref, Goes-ref}
use Rattle.streams.proofs.Steps.{stay_none_slice, Goes-none_slice, stay_dropped, Goes-dropped, ends_at}
use Rattle.streams.specs.declared.file_log.FileLog.{FileLog}
use Rattle.streams.specs.contracts.file_log.FileLog.{the_row as R}
use Rattle.streams.specs.contracts.file_log.FileLog.note as f
use Rattle.streams.proofs.file_log.FileLog.note.Statement.{statement}
use Rattle.streams.proofs.file_log.FileLog.note.Code as code

abbrev stayed : Stays f.ended.signature.params f.ended.kept
stayed = (
  stay_ref (0 ∷ []) tt (plain (λ _. R)),
  (
    stay_none_slice (1 ∷ []) tt (plain (λ _. u8)) yes,
    (stay_none_slice (2 ∷ []) tt (plain (λ _. u8)) yes, (stay_dropped _ yes, tt)),
  ),
)

pub note_spec : {M : Type 1} → statement M
note_spec 𝓤 𝓛 𝓜 𝓡 wired =
    let c = f.clauses 𝓛 𝓜.mem 𝓡.returns in
    proved 𝓛 f.ended stayed c 𝓜 𝓡 (
      Goes-ref 𝓛 3 0 tt (plain (λ _. R)),
      (
        Goes-none_slice 𝓛 3 (1 ∷ []) tt (plain (λ _. u8)) yes,
        (Goes-none_slice 𝓛 3 (2 ∷ []) tt (plain (λ _. u8)) yes, (Goes-dropped 𝓛 3 (plain (λ _. bool)) yes (λ κs x w. refl), tt)),
      ),
    )
    f.Key.name code.function (code.unfolded 𝓤 𝓛.H 𝓜 𝓡 wired)
    (λ κs. (mut_vals, (shr_slice_vals, (shr_slice_vals, (bool_vals, tt)))))
    (λ κs. (mut_Tells (named 0) κs.0 R, (shr_slice_Tells (named 1) κs.1.0 u8, (shr_slice_Tells (named 2) κs.1.1.0 u8, (bool_Tells, tt)))))
    (λ κs qs bounds a g are.
    let b = a.0.ref_ptr.0 in let o = a.0.ref_ptr.1 in let list = a.0.now in
    let name = a.1.0 in let bytes = a.1.1.0 in let ended = a.1.1.1.0 in
    let longer : FileLog = record list { files = list.files ++ (name.now, (ended, bytes.now)) ∷ [] } in
    let name_slice = (ShrSlice (named 1) κs.1.0 u8).own_val name (shr_slice_vals name) in
    let bytes_slice = (ShrSlice (named 2) κs.1.1.0 u8).own_val bytes (shr_slice_vals bytes) in
    qed 𝓛 (((‵ (flft κs.0 qs.0) ⊛ (‵ (flft κs.1.0 qs.1.0) ⊛ (‵ (flft κs.1.1.0 qs.1.1.0) ⊛ ‵ ftrue)))
    ⊛ (‵ ((MutRef (named 0) κs.0 R).own_val a.0 (mut_vals a.0))
    ⊛ (‵ name_slice ⊛ (‵ bytes_slice ⊛ (‵ (bool.own_val ended (bool_vals ended)) ⊛ ‵ ftrue))))) ∷ ‵ ftrue ∷ []) ∵
    split ! $ split ! $ move ! (2 ∷ []) $ split ! $ move ! (1 ∷ []) $ split ! $ move ! (1 ∷ []) $ split ! $ keep ! (3 ∷ 4 ∷ 2 ∷ 0 ∷ 5 ∷ []) $
    -- [the list; its token; the name; the bytes; their tokens and nothing]
    enter ! _ _ _ _ _ $
    alloc_all ! (λ l. pass_all ! refl (
      (tt, tt),
      (
        (tt, (tt, (record { fits = are.1.0.0.1.0 }, tt))),
        ((tt, (tt, (record { fits = are.1.1.0.0.1.0 }, tt))), ((tt, tt), tt)),
      ),
    ) $
    fsplit3 ! $ move ! (1 ∷ 2 ∷ 3 ∷ []) $ opens ! tt R {h = list} b o (λ us.
    sets ! (of_opd ! (unit_lit !)) refl (tt, tt) $
    move ! (1 ∷ []) $ use1 𝓛 (‵ (R.own_val longer us)) (id⊢ 𝓤 _) $ move ! (1 ∷ 0 ∷ []) $ closes ! tt R longer us b o $
    returns ! (look_at ! 0 refl) $ free_all ! refl $ move ! (3 ∷ []) $
    suffices ! _ (ends_at 𝓛 f.ended stayed c
    ((κs, qs, bounds, a, (mut_vals a.0, (shr_slice_vals name, (shr_slice_vals bytes, (bool_vals ended, tt))))), g)
    vunit tt (longer, (tt, (tt, (tt, tt)))) (tt, (tt, (tt, (tt, tt))))) $ says ! refl $
    group ! 3 $
    -- [the list; its token; the name; the bytes; their tokens and nothing]
    nothing ! $ nothing ! $ join ! $ move ! (4 ∷ 0 ∷ []) $ join ! $ move ! (3 ∷ 0 ∷ []) $ join ! $ move ! (1 ∷ 0 ∷ []) $ join ! $
    move ! (1 ∷ 2 ∷ []) $ join ! $ frame ! $ frame ! $ feq_i ! _ (vunit ∷ []) _ refl $ done !)))
