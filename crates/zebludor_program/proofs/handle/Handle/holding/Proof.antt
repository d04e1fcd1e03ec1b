-- `holding` hands what the parts own to the handle.
use Rattle.std.proofs.Common.{◌≡◌, true, Some, List, [], ◌∷◌, ◌++◌, refl, ◌∙◌}
use mir.Syntax.{Fn}
use mir.Val.{Val, vstruct, of_list}
use base.Logic.{SProp, emp, id⊢}
use base.Fml.{ftrue}
use prog.Wp.{WpFn}
use contract.Monad.{fact, fact_i}
use contract.Running.{tables}
use types.Kit.{‵, raw, ◌⊛◌, prop, ◌$◌, ◌∵◌, !, qed, by, move, drop, use0, use1, split, regoal, fsplit, fjoin}
use types.Part.{whole, sub, agg}
use types.Run.{stop, fld, of_opd, true_lit, no_more, and_then, returns, enter}
use types.ByLocal.{alloc_all, pass_all, free_all, look_at, get, get_in, sets}
use denote.RattleType.{owns}
use denote.RawPtr.{Ptr, ptr_val}
use denote.Signature.{types_at, plain}
use denote.Steps.{nothing}
use denote.Triple.Entry.{alive}
use denote.Triple.Walked.{Stays, stay_dropped, walk_of, Goes-dropped}
use Rattle.std.proofs.ResultValues.{and_tt}
use Rattle.std.proofs.cell.Inside.{Good, one}
use Rattle.std.proofs.raw_atomic.Walks.{proved_at, leaves}
use Rattle.zebludor_program.proofs.Values.{ptr_typed, both_true, handle_val, handle_own, handle_made, handle_typed, pair_val}
use Rattle.zebludor_program.specs.contracts.handle.Handle as handle
use denote.RattleType.{RattleType}
use denote.Param.{layout}
use mir.Val.{has_ty}
use mir.Syntax.{ty_ptr, ty_struct, tcons, tnil}
use Rattle.std.specs.contracts.alloc.Global as heap
use Rattle.std.proofs.alloc.Global.TheLaws as heap_laws
use Rattle.std.specs.contracts.impls.GlobalAllocator.TheImpl.{ghosts}
use Rattle.zebludor_program.specs.contracts.session.OpenSession as session
use Rattle.zebludor_program.specs.contracts.parts.Parts as parts
use Rattle.zebludor_program.specs.Owned.{owns_session}
use Rattle.zebludor_program.specs.contracts.handle.Handle.holding.{ended, clauses}
use Rattle.zebludor_program.specs.contracts.handle.Handle.holding.Key.{name as #self}
use Rattle.zebludor_program.proofs.handle.Handle.holding.Statement.{statement}
use Rattle.zebludor_program.proofs.handle.Handle.holding.Code as compiled

pub holding_spec : {M : Type 1} → statement M
holding_spec 𝓤 𝓛 𝓜 𝓡 wired =
    let H = 𝓛.H in
    let c = clauses 𝓛 𝓜.mem 𝓡.returns in
    let fn : Fn = compiled.function in
    let Z : RattleType = heap.the_row in
    let LZ = heap_laws.the_row_laws in
    let slot = plain (λ _. parts.the_row session.the_row Z ghosts) in
    let stays : Stays ended.signature.params ended.kept = (stay_dropped slot ended.kept.0, tt) in
    let C = (tables 𝓤 H 𝓜 𝓡 𝓡.env).C in
    let Λ = (tables 𝓤 H 𝓜 𝓡 𝓡.env).Λ in
    proved_at 𝓛 ended stays c 𝓜 𝓡 (Goes-dropped 𝓛 0 slot ended.kept.0 (λ κs x f. refl), tt) #self fn (compiled.unfolded 𝓤 H 𝓜 𝓡 wired) (λ z are.
    let Post : Val → SProp 𝓤 = (walk_of 𝓛 ended stays c).post z in
    let x = z.0.3.0 in
    let p : Ptr = x.ptr in
    let s = are.0.0 in
    let h = one (layout Z) s.0.1.0 ((LZ.lawful 𝓛).typed x.alloc s.0.1.0 s.1.1.1.0) in
    let w : Val = pair_val (ptr_val p) h.0 in
    let typed : Good (ty_struct [] (tcons ty_ptr (tcons (layout Z) tnil))) w =
    (both_true (has_ty ty_ptr (ptr_val p)) _ (ptr_typed p).0 (and_tt (has_ty (layout Z) h.0) h.2.0), ((ptr_typed p).1, (h.2.1, tt))) in
    let new : (handle.the_row).Denot = record { at = p; is_there = true; session = Some x.value; told = refl } in
    let told : z.0.4.0 ≡ w ∷ [] = s.1.0 ∙ (λ i. vstruct (of_list (s.1.1.0 i ++ (h.1 i ++ []))) ∷ []) in
    qed 𝓛 ((raw (alive 𝓛 ended.signature z.0.0 z.0.1) ⊛ ‵ (owns (types_at ended.signature.params z.0.0) z.0.3 z.0.4)) ∷ ‵ ftrue ∷ [])
    ∵ move ! (1 ∷ []) $ drop ! $ split ! $ move ! (1 ∷ []) $
    fsplit ! $ fsplit ! $ drop ! $ move ! (1 ∷ []) $ drop ! $
    regoal ! (λ (us : List Val). prop (WpFn 𝓤 H C Λ fn us Post)) (λ i. told i ++ []) refl $
    enter ! C Λ fn (w ∷ []) Post $
    alloc_all ! (λ l. pass_all ! refl (typed, tt) $
    sets ! (of_opd ! (get_in ! (fld ! refl (stop !)) (sub ! 0 refl (whole !)))) refl (ptr_typed p) $
    sets ! (of_opd ! (get ! refl)) refl (ptr_typed p) $
    sets ! (agg ! (and_then ! (get ! refl) (and_then ! (true_lit !) (no_more !)))) refl (handle_typed p true) $
    returns ! (look_at ! 0 refl) $ free_all ! refl $
    use1 𝓛 (‵ (owns_session (Some x.value) p)) (id⊢ 𝓤 _) $
    use0 𝓛 (‵ (handle_own p true (handle_val p true ∷ []))) (handle_made 𝓛 p true) $ fjoin ! $
    use0 𝓛 (raw (fact 𝓤 (new.session ≡ Some x.value))) (fact_i 𝓤 (new.session ≡ Some x.value) (emp 𝓤) refl) $
    nothing ! $ nothing ! $ fjoin ! $ move ! (3 ∷ 0 ∷ 2 ∷ 1 ∷ []) $
    by ! (leaves 𝓛 ended stays c z (handle_val p true) new (tt, tt) (tt, tt))))
