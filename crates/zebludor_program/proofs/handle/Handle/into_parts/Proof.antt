-- `into_parts` hands what the handle owns to the parts. That there is a session is what the flag says.
use Rattle.std.proofs.Common.{◌≡◌, Option, Some, T, List, [], ◌∷◌, ◌++◌, refl, sym, subst}
use mir.Syntax.{Fn}
use mir.Val.{Val}
use base.Logic.{SProp, emp, id⊢}
use prog.Wp.{WpFn}
use contract.Monad.{fact, fact_i}
use contract.Running.{tables}
use types.Kit.{‵, raw, ◌⊛◌, prop, ◌$◌, ◌∵◌, !, qed, by, move, drop, use0, use1, split, regoal, rewrite, fsplit, fjoin, feq_i}
use types.Part.{whole, sub, agg}
use types.Run.{stop, fld, of_opd, no_more, and_then, returns, enter}
use types.ByLocal.{alloc_all, pass_all, free_all, look_at, get, get_in, sets}
use denote.RattleType.{owns}
use denote.RawPtr.{Ptr, ptr_val}
use denote.Signature.{types_at, plain}
use denote.Steps.{nothing, heard}
use denote.Triple.Entry.{alive}
use denote.Triple.Walked.{Stays, stay_dropped, walk_of, Goes-dropped}
use Rattle.std.proofs.ResultValues.{and_tt}
use Rattle.std.proofs.cell.Inside.{one}
use Rattle.std.proofs.raw_atomic.Walks.{proved_at, leaves}
use Rattle.zebludor_program.proofs.Values.{ptr_typed, both_true, handle_val, handle_told, handle_typed, pair_val, there}
use Rattle.zebludor_program.specs.contracts.handle.Handle as handle
use Rattle.std.specs.Prelude.{IsTrue}
use types.Kit.{fsplit3, fpack}
use denote.RattleType.{RattleType, Valss}
use denote.RawPtr.{RawPtr}
use denote.Param.{layout}
use mir.Val.{has_ty}
use mir.Syntax.{ty_ptr}
use denote.Struct.Struct.{within}
use denote.Struct.Owning.{shape}
use Rattle.std.specs.contracts.alloc.Global as heap
use Rattle.std.proofs.alloc.Global.TheLaws as heap_laws
use Rattle.std.specs.contracts.impls.GlobalAllocator.TheImpl.{ghosts}
use Rattle.zebludor_program.specs.contracts.session.OpenSession as session
use Rattle.zebludor_program.specs.contracts.parts.Parts as parts
use Rattle.zebludor_program.specs.Owned.{owns_session}
use Rattle.zebludor_program.specs.declared.session.OpenSession.{OpenSession}
use Rattle.zebludor_program.specs.contracts.handle.Handle.into_parts.{ended, clauses}
use Rattle.zebludor_program.specs.contracts.handle.Handle.into_parts.Key.{name as #self}
use Rattle.zebludor_program.proofs.handle.Handle.into_parts.Statement.{statement}
use Rattle.zebludor_program.proofs.handle.Handle.into_parts.Code as compiled

pub into_parts_spec : {M : Type 1} → statement M
into_parts_spec 𝓤 𝓛 𝓜 𝓡 wired =
    let H = 𝓛.H in
    let c = clauses 𝓛 𝓜.mem 𝓡.returns in
    let fn : Fn = compiled.function in
    let Z : RattleType = heap.the_row in
    let LZ = heap_laws.the_row_laws in
    let slot = plain (λ _. handle.the_row) in
    let slot' = plain (λ _. Z) in
    let stays : Stays ended.signature.params ended.kept = (stay_dropped slot ended.kept.0, (stay_dropped slot' ended.kept.1.0, tt)) in
    let C = (tables 𝓤 H 𝓜 𝓡 𝓡.env).C in
    let Λ = (tables 𝓤 H 𝓜 𝓡 𝓡.env).Λ in
    proved_at 𝓛 ended stays c 𝓜 𝓡 (Goes-dropped 𝓛 0 slot ended.kept.0 (λ κs x f. refl), (Goes-dropped 𝓛 0 slot' ended.kept.1.0 (λ κs x f. refl), tt)) #self fn
    (compiled.unfolded 𝓤 H 𝓜 𝓡 wired) (λ z are.
    let Post : Val → SProp 𝓤 = (walk_of 𝓛 ended stays c).post z in
    let x = z.0.3.0 in
    let a = z.0.3.1.0 in
    let p : Ptr = x.at in
    let b = x.is_there in
    let told = handle_told p b z.0.4.0 are.0.0 in
    let h = one (layout Z) z.0.4.1.0 ((LZ.lawful 𝓛).typed a z.0.4.1.0 are.1.0) in
    let w : Val = pair_val (ptr_val p) h.0 in
    let owning = parts.the_type session.the_row Z ghosts in
    qed 𝓛 ((raw (alive 𝓛 ended.signature z.0.0 z.0.1) ⊛ ‵ (owns (types_at ended.signature.params z.0.0) z.0.3 z.0.4)) ∷ raw (fact 𝓤 (IsTrue b)) ∷ [])
    ∵ move ! (1 ∷ []) $ heard ! (IsTrue b) (λ t.
    let held = there x.session (subst T x.told (subst T (sym t) tt)) in
    let v = held.0 in
    let new : (parts.the_row session.the_row Z ghosts).Denot = record { ptr = p; alloc = a; value = v } in
    split ! $ move ! (1 ∷ []) $ fsplit3 ! $ fsplit ! $ drop ! $ move ! (2 ∷ []) $ drop ! $
    -- [what the handle owns; the allocator; the tokens]
    rewrite ! 0 (λ (o : Option OpenSession). ‵ (owns_session o p)) held.1 refl $ rewrite ! 1 (λ (us : List Val). ‵ (Z.own_val a us)) h.1 refl $
    regoal ! (λ (us : List Val). prop (WpFn 𝓤 H C Λ fn us Post)) (λ i. told i ++ (h.1 i ++ [])) refl $
    enter ! C Λ fn (handle_val p b ∷ h.0 ∷ []) Post $
    alloc_all ! (λ l. pass_all ! refl (handle_typed p b, (h.2, tt)) $
    sets ! (of_opd ! (get_in ! (fld ! refl (stop !)) (sub ! 0 refl (whole !)))) refl (ptr_typed p) $
    sets ! (of_opd ! (get ! refl)) refl (ptr_typed p) $
    sets ! (agg ! (and_then ! (get ! refl) (and_then ! (get ! refl) (no_more !)))) refl
    (both_true (has_ty ty_ptr (ptr_val p)) _ (ptr_typed p).0 (and_tt (has_ty (layout Z) h.0) h.2.0), ((ptr_typed p).1, (h.2.1, tt))) $
    returns ! (look_at ! 0 refl) $ free_all ! refl $
    move ! (1 ∷ []) $ nothing ! $ move ! (1 ∷ 0 ∷ []) $ fjoin ! $ feq_i ! (List Val) (ptr_val p ∷ []) (ptr_val p ∷ []) refl $
    fjoin ! $ feq_i ! (List Val) (w ∷ []) (w ∷ []) refl $ fjoin ! $
    fpack ! (Valss (RawPtr ∷ Z ∷ [])) (within (shape owning) (p, (a, tt)) (w ∷ [])) (ptr_val p ∷ [], (h.0 ∷ [], tt)) $ fjoin ! $
    use1 𝓛 (‵ ((parts.the_row session.the_row Z ghosts).own_val new (w ∷ []))) (id⊢ 𝓤 _) $
    use0 𝓛 (raw (fact 𝓤 (Some v ≡ x.session))) (fact_i 𝓤 (Some v ≡ x.session) (emp 𝓤) (sym held.1)) $
    nothing ! $ nothing ! $ fjoin ! $ nothing ! $ fjoin ! $ move ! (3 ∷ 0 ∷ 2 ∷ 1 ∷ []) $
    by ! (leaves 𝓛 ended stays c z w new (tt, (tt, tt)) (tt, (tt, tt))))))
