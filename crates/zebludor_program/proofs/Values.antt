-- The machine values of a handle: what its fields own tells them, and is made of nothing.
use Rattle.std.proofs.Common.{◌≡◌, Bool, true, false, ◌&&◌, Option, None, Some, is_some, T, List, [], ◌∷◌, ◌++◌, refl, ◌∙◌, lit<}
use seplogic.Ra.Ura.{Ura}
use mir.Syntax.{ty_bool, ty_ptr, ty_struct, tcons, tnil}
use mir.Val.{Val, vbool, vstruct, vcons, vnil, of_list}
use base.Logic.{ent, emp, sep}
use base.Fml.{Fml}
use types.Logic.{Logic, sem}
use types.Kit.{‵, ◌$◌, ◌∵◌, !, qed, move, fjoin, fpack, feq_i, done}
use denote.RattleType.{RattleType, Valss}
use denote.Builtin.{bool}
use denote.RawPtr.{Ptr, RawPtr, block_ptr, null_ptr, ptr_val}
use denote.Shadow.{shadow, makes_shadow}
use denote.Steps.{nothing}
use denote.Struct.Struct.{Struct, within}
use denote.Struct.Declared.{shape}
use denote.Struct.Tuple.{Tuple, tuple_type}
use Rattle.std.proofs.cell.Inside.{Good}

-- a struct by its fields alone: what it owns does not read its name
abbrev pub plainly : List RattleType → RattleType
plainly Rs = Struct (record { name = []; args = []; types = []; fields = Rs })

pub ptr_typed : (p : Ptr) → Good ty_ptr (ptr_val p)
ptr_typed (block_ptr b o) = (tt, tt)
ptr_typed null_ptr = (tt, record { fits = lit< tt })

pub both_true : (a b : Bool) → T a → T b → T (a && b)
both_true true b t u = u
both_true false b t u = absurd t

-- a handle's fields
abbrev pub handle_val : Ptr → Bool → Val
handle_val p b = vstruct (vcons (ptr_val p) (vcons (vbool b) vnil))

abbrev pub handle_own : Ptr → Bool → List Val → Fml
handle_own p b = (plainly (RawPtr ∷ bool ∷ [])).own_val (p, (b, tt))

pub handle_told : (p : Ptr) (b : Bool) (vs : List Val) → shadow (handle_own p b vs) → vs ≡ handle_val p b ∷ []
handle_told p b vs s = s.1.0 ∙ (λ i. vstruct (of_list (s.1.1.0 i ++ (s.1.1.1.0 i ++ []))) ∷ [])

pub handle_made : {M : Type 1} {𝓤 : Ura M} (𝓛 : Logic 𝓤) (p : Ptr) (b : Bool) → ent 𝓤 (emp 𝓤) (sem 𝓛 (handle_own p b (handle_val p b ∷ [])))
handle_made 𝓛 p b =
    makes_shadow 𝓛 (handle_own p b (handle_val p b ∷ [])) (λ _. (tt, (tt, (tt, tt)))) ((ptr_val p ∷ [], (vbool b ∷ [], tt)), (refl, (refl, (refl, tt))))

pub handle_typed : (p : Ptr) (b : Bool) → Good (ty_struct [] (tcons ty_ptr (tcons ty_bool tnil))) (handle_val p b)
handle_typed (block_ptr b o) flag = (tt, (tt, (tt, tt)))
handle_typed null_ptr flag = (tt, (record { fits = lit< tt }, (tt, tt)))

-- a pair
abbrev pub pair_val : Val → Val → Val
pair_val u v = vstruct (vcons u (vcons v vnil))

pub pair_of : {M : Type 1} {𝓤 : Ura M} (𝓛 : Logic 𝓤) (R S : RattleType) (x : R.Denot) (y : S.Denot) (u v : Val)
    → ent 𝓤 (sep 𝓤 (sem 𝓛 (R.own_val x (u ∷ []))) (sem 𝓛 (S.own_val y (v ∷ [])))) (sem 𝓛 ((Tuple (R ∷ S ∷ [])).own_val (x, y) (pair_val u v ∷ [])))
pair_of 𝓛 R S x y u v =
    qed 𝓛 (‵ (R.own_val x (u ∷ [])) ∷ ‵ (S.own_val y (v ∷ [])) ∷ []) ∵ nothing ! $ move ! (2 ∷ 0 ∷ []) $ fjoin ! $
    move ! (1 ∷ 0 ∷ []) $ fjoin ! $ feq_i ! (List Val) (pair_val u v ∷ []) (pair_val u v ∷ []) refl $ fjoin ! $
    fpack ! (Valss (R ∷ S ∷ [])) (within (shape (tuple_type (R ∷ S ∷ []))) (x, (y, tt)) (pair_val u v ∷ [])) (u ∷ [], (v ∷ [], tt)) $ done !

-- what is there
pub there : {A : Type 0} (o : Option A) → T (is_some o) → (x : A) × (o ≡ Some x)
there (Some x) t = (x, refl)
there None t = absurd t
