-- `with_flag` takes the handle apart and puts it together again.
use Rattle.std.proofs.Common.{◌≡◌, List, [], ◌∷◌, ◌++◌, refl}
use mir.Syntax.{Fn}
use mir.Val.{Val, vbool}
use base.Logic.{SProp, emp}
use base.Fml.{ftrue}
use prog.Wp.{WpFn}
use contract.Monad.{fact, fact_i}
use contract.Running.{tables}
use types.Kit.{‵, raw, ◌⊛◌, prop, ◌$◌, ◌∵◌, !, qed, by, move, drop, use0, use2, split, regoal, fsplit, fjoin, feq_i}
use types.Part.{whole, sub, agg}
use types.Run.{stop, fld, of_opd, no_more, and_then, returns, enter}
use types.ByLocal.{alloc_all, pass_all, free_all, look_at, get, get_in, sets}
use denote.RattleType.{owns}
use denote.Builtin.{bool}
use denote.Signature.{types_at, plain}
use denote.Steps.{nothing}
use denote.Struct.Tuple.{Tuple}
use denote.Triple.Entry.{alive}
use denote.Triple.Walked.{Stays, stay_dropped, walk_of, Goes-dropped}
use Rattle.std.proofs.ResultValues.{and_tt}
use Rattle.std.proofs.raw_atomic.Walks.{proved_at, leaves}
use Rattle.zebludor_program.proofs.Values.{ptr_typed, handle_val, handle_own, handle_told, handle_made, handle_typed, pair_val, pair_of}
use Rattle.zebludor_program.specs.contracts.handle.Handle as handle
use Rattle.zebludor_program.specs.contracts.handle.Handle.with_flag.{ended, clauses}
use Rattle.zebludor_program.specs.contracts.handle.Handle.with_flag.Key.{name as #self}
use Rattle.zebludor_program.proofs.handle.Handle.with_flag.Statement.{statement}
use Rattle.zebludor_program.proofs.handle.Handle.with_flag.Code as compiled

pub with_flag_spec : {M : Type 1} → statement M
with_flag_spec 𝓤 𝓛 𝓜 𝓡 wired =
    let H = 𝓛.H in
    let c = clauses 𝓛 𝓜.mem 𝓡.returns in
    let fn : Fn = compiled.function in
    let slot = plain (λ _. handle.the_row) in
    let stays : Stays ended.signature.params ended.kept = (stay_dropped slot ended.kept.0, tt) in
    let C = (tables 𝓤 H 𝓜 𝓡 𝓡.env).C in
    let Λ = (tables 𝓤 H 𝓜 𝓡 𝓡.env).Λ in
    proved_at 𝓛 ended stays c 𝓜 𝓡 (Goes-dropped 𝓛 0 slot ended.kept.0 (λ κs x f. refl), tt) #self fn (compiled.unfolded 𝓤 H 𝓜 𝓡 wired) (λ z are.
    let Post : Val → SProp 𝓤 = (walk_of 𝓛 ended stays c).post z in
    let x = z.0.3.0 in
    let p = x.at in
    let b = x.is_there in
    let told = handle_told p b z.0.4.0 are.0.0 in
    qed 𝓛 ((raw (alive 𝓛 ended.signature z.0.0 z.0.1) ⊛ ‵ (owns (types_at ended.signature.params z.0.0) z.0.3 z.0.4)) ∷ ‵ ftrue ∷ [])
    ∵ move ! (1 ∷ []) $ drop ! $ split ! $ move ! (1 ∷ []) $
    fsplit ! $ fsplit ! $ drop ! $ move ! (1 ∷ []) $ drop ! $
    regoal ! (λ (us : List Val). prop (WpFn 𝓤 H C Λ fn us Post)) (λ i. told i ++ []) refl $
    enter ! C Λ fn (handle_val p b ∷ []) Post $
    alloc_all ! (λ l. pass_all ! refl (handle_typed p b, tt) $
    sets ! (of_opd ! (get_in ! (fld ! refl (stop !)) (sub ! 0 refl (whole !)))) refl (ptr_typed p) $
    sets ! (of_opd ! (get_in ! (fld ! refl (stop !)) (sub ! 1 refl (whole !)))) refl (tt, tt) $
    sets ! (agg ! (and_then ! (get ! refl) (and_then ! (get ! refl) (no_more !)))) refl (handle_typed p b) $
    sets ! (agg ! (and_then ! (get ! refl) (and_then ! (get ! refl) (no_more !)))) refl
    (and_tt _ (and_tt _ ((ptr_typed p).0)), (tt, (((ptr_typed p).1, (tt, tt)), tt))) $
    returns ! (look_at ! 0 refl) $ free_all ! refl $
    use0 𝓛 (‵ (handle_own p b (handle_val p b ∷ []))) (handle_made 𝓛 p b) $ fjoin ! $ feq_i ! (List Val) (vbool b ∷ []) (vbool b ∷ []) refl $
    use2 𝓛 (‵ ((Tuple (bool ∷ handle.the_row ∷ [])).own_val (b, x) (pair_val (vbool b) (handle_val p b) ∷ [])))
    (pair_of 𝓛 bool handle.the_row b x (vbool b) (handle_val p b)) $
    use0 𝓛 (raw (fact 𝓤 ((b ≡ b) × (x ≡ x)))) (fact_i 𝓤 ((b ≡ b) × (x ≡ x)) (emp 𝓤) (refl, refl)) $
    nothing ! $ nothing ! $ fjoin ! $ move ! (3 ∷ 0 ∷ 2 ∷ 1 ∷ []) $
    by ! (leaves 𝓛 ended stays c z (pair_val (vbool b) (handle_val p b)) (b, x) (tt, tt) (tt, tt))))
