-- The list of files begins empty.
use Rattle.streams.proofs.Steps.{[], ◌∷◌, refl, proved, vstruct, vcons, vnil, raw, ◌$◌, ◌∵◌, !, qed, done, keep, join, suffices, enter}
use Rattle.streams.proofs.Steps.{no_more, and_then, returns, agg, alloc_all, pass_all, free_all, look_at, get, sets, pure_i, nothing}
use Rattle.streams.proofs.Steps.{on_entry, says, ends_at}
use Rattle.streams.specs.declared.file_log.FileLog.{FileLog}
use Rattle.streams.specs.contracts.file_log.FileLog.{the_row as R}
use Rattle.streams.specs.contracts.file_log.FileLog.new as f
use Rattle.streams.proofs.file_log.FileLog.new.Statement.{statement}
use Rattle.streams.proofs.file_log.FileLog.new.Code as code

pub new_spec : {M : Type 1} → statement M
new_spec 𝓤 𝓛 𝓜 𝓡 wired =
    let c = f.clauses 𝓛 𝓜.mem 𝓡.returns in
    let value = vstruct (vcons (vstruct vnil) vnil) in
    let none : FileLog = record { marker = record {}; files = [] } in
    proved 𝓛 f.ended tt c 𝓜 𝓡 tt f.Key.name code.function (code.unfolded 𝓤 𝓛.H 𝓜 𝓡 wired)
    (λ κs. tt) (λ κs. tt) (λ κs qs bounds a g are.
    qed 𝓛 (raw (on_entry 𝓛 f.signature κs qs a tt) ∷ raw ((c κs a).requires g) ∷ []) ∵ keep ! [] $
    enter ! _ _ _ _ _ $ alloc_all ! (λ l. pass_all ! refl tt $
    -- the marker, and the struct of it
    sets ! (agg ! (no_more !)) refl (tt, tt) $
    sets ! (agg ! (and_then ! (get ! refl) (no_more !))) refl (tt, (tt, tt)) $
    returns ! (look_at ! 0 refl) $ free_all ! refl $
    -- the list is nowhere but in what is said of the struct
    pure_i ! (R.own_val none (value ∷ [])) ((λ vss. (tt, ((λ uss. (tt, tt)), tt))), tt) (((vstruct vnil ∷ [], tt), (refl, ((tt, (refl, tt)), tt))), tt) $
    suffices ! _ (ends_at 𝓛 f.ended tt c ((κs, qs, bounds, a, tt), g) value none tt tt) $ says ! refl $
    nothing ! $ join ! $ nothing ! $ done !))
