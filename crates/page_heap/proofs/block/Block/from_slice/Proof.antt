-- `from_slice` keeps the bytes of a slice that nobody else reaches again: its borrow is opened, and
-- never closed. Assumes `Logic`.
use Rattle.std.proofs.Common.{◌≡◌, ◌*◌, [], ◌∷◌, refl, length, arith}
use base.Fraction.{full_share}
use mir.Syntax.{static}
use base.Fml.{flft}
use base.Logic.{emp}
use contract.Monad.{fact, fact_i}
use contract.Running.{tables}
use types.Kit.{‵, raw, ◌⊛◌, at_ret, ◌$◌, ◌∵◌, !, qed, by, move, drop, use0, use1, split, fsplit}
use types.Part.{whole, sub, agg}
use types.Run.{stop, fld, hop, addr, from, of_opd, no_more, and_then, first, blocks, exec, returns, enter}
use types.ByLocal.{alloc_all, pass_all, free_all, look_at, look_in_at, get, sets, sets_last, env}
use denote.Builtin.{u128}
use denote.Exit.{no}
use denote.Index.{opens_slice}
use denote.RattleType.{Valss, owns}
use denote.RawPtr.{Ptr, block_ptr}
use denote.Signature.{types_at}
use denote.Slice.{mut_slice_vals, mut_slice_Tells}
use denote.Triple.Entry.{alive}
use denote.Triple.Walked.{Stays, stay_dropped, walk_of, Goes-dropped}
use Rattle.std.proofs.alloc.Shapes.{after}
use Rattle.std.proofs.raw_atomic.Walks.{proved, leaves}
use Rattle.page_heap.proofs.Piles.{with_data}
use Rattle.page_heap.proofs.Rooms.{row_room}
use Rattle.page_heap.proofs.Values.{held_typed, held_val}
use Rattle.page_heap.proofs.Walks.{slot_at, gone, all_gone}
use Rattle.page_heap.specs.Memory.{block_room}
use Rattle.page_heap.specs.contracts.block.Block as block
use Rattle.page_heap.specs.contracts.block.Block.from_slice as f
use Rattle.page_heap.proofs.block.Block.from_slice.Statement.{statement}
use Rattle.page_heap.proofs.block.Block.from_slice.Code as code

abbrev stayed : Stays f.signature.params f.ended.kept
stayed = (stay_dropped _ _, tt)

pub from_slice_spec : {M : Type 1} → statement M
from_slice_spec 𝓤 𝓛 𝓜 𝓡 wired =
    let c = f.clauses 𝓛 𝓜.mem 𝓡.returns in let W = walk_of 𝓛 f.ended stayed c in
    let 𝓣 = tables 𝓤 𝓛.H 𝓜 𝓡 𝓡.env in let fn = code.function in
    let slots = f.signature.params in
    proved 𝓛 f.ended stayed c 𝓜 𝓡 (Goes-dropped 𝓛 0 (slot_at 0 slots) no (λ κs x w. refl), tt)
    f.Key.name fn (code.unfolded 𝓤 𝓛.H 𝓜 𝓡 wired)
    (λ κs. (mut_slice_vals, tt)) (λ κs. (mut_slice_Tells static [] u128, tt))
    (λ κs qs bounds a _ are.
    let region = a.0 in let b = region.ref_ptr.0 in let o = region.ref_ptr.1 in
    let n = length region.now * 16 in let p : Ptr = block_ptr b o in
    let vss : Valss (types_at slots κs) = (mut_slice_vals region, tt) in
    let y : W.Ghost = ((κs, qs, bounds, a, vss), tt) in
    let x : (block.the_row).Denot = record { ptr = p; size = n; whole = omega arith } in
    let Kept = x.size ≡ n in
    qed 𝓛 ((raw (alive 𝓛 f.signature κs qs) ⊛ ‵ (owns (types_at slots κs) a vss)) ∷ raw (emp 𝓤) ∷ []) ∵
    split ! $ move ! (2 ∷ []) $ drop ! $ move ! (1 ∷ []) $ fsplit ! $ fsplit ! $ drop ! $ fsplit ! $
    -- [what the slice is; its borrow; the end of the list; the tokens]
    use0 𝓛 (‵ (flft [] full_share)) (𝓛.lfts.lft-nil full_share) $ move ! (1 ∷ 2 ∷ 0 ∷ []) $
    enter ! 𝓣.C 𝓣.Λ fn _ _ $ alloc_all ! (λ l. pass_all ! refl ((tt, (tt, (record { fits = are.0.0.1.0 }, tt))), tt) $
    opens_slice ! tt u128 region.now b o $
    move ! (1 ∷ []) $ drop ! $ move ! (1 ∷ []) $ drop ! $ move ! (1 ∷ []) $ drop ! $
    use1 𝓛 (‵ (block_room p n)) (row_room 𝓛 b region.now o) $
    first ! $ blocks ! $
    sets ! (addr ! (from ! (fld ! refl (hop ! (look_in_at ! 1 (sub ! 0 refl (whole !))) (stop !))))) refl (tt, tt) $
    sets_last ! (agg ! (and_then ! (get ! refl) (no_more !))) refl (held_typed p) $
    exec ! 𝓣.C 𝓣.Λ (env fn.locals l) (after 1 fn.body) (at_ret _ (W.post y)) $
    sets ! (of_opd ! (get ! refl)) refl (held_typed p) $
    returns ! (look_at ! 0 refl) $ free_all ! refl $
    use1 𝓛 (‵ ((block.the_row).own_val x (held_val p ∷ []))) (with_data 𝓛 p (block_room p n)) $
    use0 𝓛 (raw (fact 𝓤 Kept)) (fact_i 𝓤 Kept (emp 𝓤) refl) $
    move ! (2 ∷ []) $ drop ! $
    use0 𝓛 (‵ (gone 1)) (all_gone 𝓛 1) $ move ! (3 ∷ 0 ∷ 2 ∷ 1 ∷ []) $
    by ! (leaves 𝓛 f.ended stayed c y (held_val p) x (tt, tt) (tt, tt))))
