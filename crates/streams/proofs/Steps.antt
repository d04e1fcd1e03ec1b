-- What the proofs by hand of the ghost lists cite.
pub use Rattle.std.proofs.Common.{List, [], ◌∷◌, ◌++◌, ◌<◌, ◌^◌, length, refl, MutBor}
pub use Rattle.std.proofs.raw_atomic.Walks.{proved}
pub use base.Logic.{id⊢}
pub use base.Fml.{Fml, ftrue, flft}
pub use mir.Syntax.{named}
pub use mir.Val.{Val, vunit, vstruct, vcons, vnil}
pub use contract.Running.{tables}
pub use types.Kit.{‵, raw, ◌⊛◌, ◌$◌, ◌∵◌, !, qed, done, move, keep, drop, use1, split, join, fsplit, fsplit3, fjoin, feq_i, suffices, frame, group}
pub use types.Run.{enter, of_opd, unit_lit, no_more, and_then, returns}
pub use types.Part.{agg}
pub use types.ByLocal.{alloc_all, pass_all, free_all, look_at, get, sets}
pub use denote.Shadow.{pure_i}
pub use denote.Builtin.{u8, bool}
pub use denote.Exit.{yes}
pub use denote.Plain.{bool_vals, bool_Tells}
pub use denote.Ref.{Bor, MutRef, mut_vals, mut_Tells}
pub use denote.Slice.{ShrSlice, slice_val, shr_slice_vals, shr_slice_Tells}
pub use denote.Signature.{plain}
pub use denote.Steps.{nothing, opens, closes}
pub use denote.Triple.Entry.{on_entry}
pub use denote.Triple.Walked.{Stays, walk_of, says, stay_ref, Goes-ref, stay_none_slice, Goes-none_slice, stay_dropped, Goes-dropped, ends_at}
