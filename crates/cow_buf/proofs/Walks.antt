-- The names that the proofs by hand share.
pub use Rattle.core.proofs.atomic.Steps.{fm, tail}
pub use Rattle.core.proofs.mem.Param.{El, R, args, elτ, el_x, lawful}
pub use Rattle.core.proofs.ptr.Rows.{times_below}
pub use Rattle.core.proofs.slots.Leases.{uncapped, block_ty, block_size, block_align}
pub use Rattle.std.proofs.Common.{replicate, ◌≡◌, ℕ, ◌*◌, ◌<◌, ◌^◌, List, [], ◌∷◌, ◌++◌, length, None, refl, sym, ap, ◌∙◌, subst, arith, w64, ◌+◌, get_or, Some, ◌≤◌, min, max}
pub use Rattle.std.proofs.lemmas.List.{length-replicate, length-map}
pub use Rattle.std.proofs.raw_atomic.Walks.{proved, leaves, proved_at}
pub use Rattle.std_alloc.proofs.RawLayout.{as_written, as_raw}
pub use Rattle.std_alloc.proofs.RcSteps.{word-Good, word}
pub use base.Fml.{Fml, ftrue, fsep, froom, flft, Lft}
pub use base.Fraction.{full_share}
pub use base.Logic.{never, SProp, emp, id⊢, ent}
pub use contract.BorrowLft.{◌⊑◌}
pub use contract.Monad.{fact, fact_i}
pub use contract.Running.{tables}
pub use denote.Array.{Array}
pub use denote.Builtin.{RefOf, usize}
pub use denote.Exit.{yes, no}
pub use denote.Laws.{Is, shows}
pub use denote.Memory.{cell_at, part_at}
pub use denote.Plain.{uint_vals, uint_Tells}
pub use denote.RattleType.{owns}
pub use denote.RawPtr.{in_a_block, Ptr, block_ptr, rawptr_vals}
pub use denote.Ref.{shr_Tells, shr_vals, mut_vals, mut_Tells}
pub use denote.Shadow.{pure_i}
pub use denote.Signature.{types_at, plain}
pub use denote.Steps.{only, nothing, heard, peeks}
pub use denote.Triple.Call.{calls_at_last}
pub use denote.Triple.Spec.{triple_of}
pub use denote.Triple.Walked.{Stays, stay_dropped, walk_of, Goes-dropped, stay_ref, Goes-ref}
pub use lib.Dec.{T}
pub use lib.ListN.{set, length-set}
pub use mir.MapTy.{inst_fn}
pub use mir.Syntax.{ty_array, named, ty_unit}
pub use mir.Val.{Val, vptr, vint, has_ty, WT, vunit}
pub use prog.Capped.{capped_fits}
pub use prog.Memory.{align, capped, size}
pub use prog.Wp.{WpFn}
pub use seplogic.Ra.Ura.{Ura}
pub use types.ByLocal.{is, get_in, sets_last, alloc_all, pass_all, free_all, look_at, get, sets, env, through, lands_last}
pub use types.Kit.{some, later, pick, await, fpack, ‵, raw, ◌⊛◌, at_ret, ◌$◌, ◌∵◌, !, qed, by, move, keep, use0, use1, use2, split, join, rewrite, fsplit, fjoin, feq_i, split3, fsplit3, fjoin3, suffices}
pub use types.Logic.{Logic, sem}
pub use types.Part.{whole as all_of, sub, look_in}
pub use types.Run.{size_word, align_word, no_more, and_then, stop, fld, of_opd, bin, first, exec, returns, enter, addr, load, size_lit, blocks, unit_lit}
