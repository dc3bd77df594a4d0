-- The names that the walks of the slots cite.
pub use Rattle.std.proofs.Common.{◌≡◌, ℕ, ◌+◌, List, [], ◌∷◌, ◌++◌, refl, sym, ap, subst, lit<}
pub use mathlib.Core.Bool.{◌&&◌, true}
pub use lib.Dec.{T}
pub use seplogic.Ra.Ura.{Ura}
pub use mir.Syntax.{named}
pub use mir.Raw.{raw as bare}
pub use mir.Val.{Val, vptr, has_ty, WT}
pub use base.Fml.{GName, Fml, Lft, Share, fsep, ftrue, flft}
pub use base.Fraction.{full_share}
pub use base.Logic.{SProp, ent, emp, id⊢, sep}
pub use prog.Wp.{Env, WpFn}
pub use types.Logic.{Logic, sem}
pub use types.Kit.{‵, raw, ◌⊛◌, at_ret, ◌$◌, ◌∵◌, !, qed, by, move, keep, split, join, rewrite, fsplit, fsplit3, fjoin, fpack, feq_l, suffices, use0, use1, group, some, later, await, pick, done}
pub use types.Run.{stop, fld, lit, load, addr, of_opd, no_more, and_then, first, blocks, exec, returns, enter}
pub use types.ByLocal.{alloc_all, pass_all, free_all, look_at, get, get_in, through, sets, sets_last, env}
pub use types.Part.{agg, look_in, sub, whole}
pub use contract.Monad.{fact, fact_i}
pub use contract.Running.{tables}
pub use denote.Builtin.{RefMutOf}
pub use denote.Follow.{Part, follows, lends_Part}
pub use denote.Memory.{cell_at, lone, mem, part_at}
unfoldable pub use denote.Memory.{part_of}
pub use denote.Param.{layout}
pub use denote.RattleType.{owns}
pub use denote.RawPtr.{Ptr, block_ptr, null_ptr, ptr_val}
pub use denote.Ref.{MutBor, MutRef}
pub use denote.Signature.{types_at, plain}
pub use denote.Steps.{nothing, heard, opens}
pub use denote.Triple.Entry.{alive}
pub use denote.Triple.Walked.{Stays, stay_dropped, walk_of, Goes-spent_ref}
pub use Rattle.core.proofs.alloc.Calls.{Goes-blank, handle_tells}
pub use Rattle.core.proofs.alloc.Shapes.{after}
pub use Rattle.std.proofs.ResultValues.{and_tt}
pub use Rattle.std.proofs.raw_atomic.Walks.{proved_at, leaves}
pub use Rattle.std.specs.Prelude.{Option, None, Some, IsSome}
pub use Rattle.std.proofs.alloc.Global.TheLaws as heap_laws
pub use Rattle.std.specs.contracts.impls.GlobalAllocator.TheImpl.{ghosts}
