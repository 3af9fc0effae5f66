-- `cut` hands out the first bytes as a block, and those behind them as another. Assumes `Logic`.
use Rattle.std.proofs.Common.{◌≡◌, ◌+◌, ◌-◌, ◌%◌, ◌≤◌, [], ◌∷◌, refl, ap, arith, w64}
use base.Logic.{emp, id⊢}
use contract.Monad.{fact, fact_i}
use contract.Running.{tables}
use types.Kit.{‵, raw, ◌⊛◌, at_ret, ◌$◌, ◌∵◌, !, qed, by, move, drop, use0, use1, use2, split, fsplit}
use types.Part.{whole, sub, agg}
use types.Run.{stop, fld, bin, of_opd, no_more, and_then, first, blocks, exec, returns, enter}
use types.ByLocal.{alloc_all, pass_all, free_all, look_at, get, get_in, is, sets, sets_last, env}
use denote.Exit.{yes}
use denote.Plain.{uint_vals, uint_Tells}
use denote.RattleType.{Valss, owns}
use denote.RawPtr.{Ptr, block_ptr, ptr_val, in_a_block}
use denote.Signature.{types_at, type_at}
use denote.Steps.{heard}
use denote.Triple.Entry.{alive}
use denote.Triple.Walked.{Stays, stay_dropped, walk_of, Goes-dropped}
use Rattle.std.proofs.alloc.Shapes.{after}
use Rattle.std.proofs.raw_atomic.Walks.{proved, leaves}
use Rattle.page_heap.proofs.Piles.{with_data, pair_typed}
use Rattle.page_heap.proofs.Rooms.{parted}
use Rattle.page_heap.proofs.Values.{held_typed, held_val, pair_val, pair_of}
use Rattle.page_heap.proofs.Walks.{slot_at, gone, all_gone}
use Rattle.page_heap.specs.Memory.{block_room}
use Rattle.page_heap.specs.contracts.block.Block as block
use Rattle.page_heap.specs.contracts.block.Block.cut as f
use Rattle.page_heap.proofs.block.Block.TheLaws.{lowers}
use Rattle.page_heap.proofs.block.Block.cut.Statement.{statement}
use Rattle.page_heap.proofs.block.Block.cut.Code as code

abbrev stayed : Stays f.signature.params f.ended.kept
stayed = (stay_dropped _ _, (stay_dropped _ _, tt))

pub cut_spec : {M : Type 1} → statement M
cut_spec 𝓤 𝓛 𝓜 𝓡 wired =
    let c = f.clauses 𝓛 𝓜.mem 𝓡.returns in let W = walk_of 𝓛 f.ended stayed c in
    let 𝓣 = tables 𝓤 𝓛.H 𝓜 𝓡 𝓡.env in let fn = code.function in
    let goes = Goes-dropped 𝓛 0 in let slots = f.signature.params in
    proved 𝓛 f.ended stayed c 𝓜 𝓡
    (goes (slot_at 0 slots) yes (λ κs x w. refl), (goes (slot_at 1 slots) yes (λ κs x w. refl), tt))
    f.Key.name fn (code.unfolded 𝓤 𝓛.H 𝓜 𝓡 wired)
    (λ κs. ((λ x. held_val x.ptr ∷ []), (uint_vals w64, tt)))
    (λ κs. (lowers.val_is, (uint_Tells w64, tt)))
    (λ κs qs bounds a _ are.
    let all = a.0 in let n = all.size in let m = a.1.0 in
    let vss : Valss (types_at slots κs) = (held_val all.ptr ∷ [], (uint_vals w64 m, tt)) in
    let y : W.Ghost = ((κs, qs, bounds, a, vss), tt) in
    qed 𝓛 ((raw (alive 𝓛 f.signature κs qs) ⊛ ‵ (owns (types_at slots κs) a vss)) ∷ raw (fact 𝓤 ((m % 16 ≡ 0) × (m ≤ n))) ∷ []) ∵
    split ! $ move ! (2 ∷ []) $ heard ! _ (λ fits. move ! (1 ∷ []) $
    fsplit ! $ fsplit ! $ drop ! $ move ! (1 ∷ []) $ drop ! $
    -- [the memory; the tokens]
    in_a_block ! all.ptr (λ p. block_room p n) (id⊢ 𝓤 _) (λ b o at.
    let p : Ptr = block_ptr b o in let q : Ptr = block_ptr b (m + o) in
    let x : (block.the_row).Denot = record { ptr = p; size = m; whole = fits.0 } in
    let behind : (block.the_row).Denot = record { ptr = q; size = n - m; whole = omega (arith, all.whole, fits.0, fits.1) } in
    let v = held_val p in let w = held_val q in
    let Kept = (x.size ≡ m) × (behind.size ≡ n - m) in
    use1 𝓛 (‵ (block_room p m) ⊛ ‵ (block_room q (n - m))) (parted 𝓛 b o m n fits.0 all.whole fits.1) $ split ! $
    enter ! 𝓣.C 𝓣.Λ fn _ _ $ alloc_all ! (λ l. pass_all ! refl (held_typed all.ptr, ((tt, record { fits = are.1.0.1 }), tt)) $
    sets ! (is ! (of_opd ! (get_in ! (fld ! refl (stop !)) (sub ! 0 refl (whole !)))) (ap ptr_val at)) refl (tt, tt) $
    first ! $ blocks ! $ sets_last ! (bin ! (get ! refl) (get ! refl) tt) refl (tt, tt) $
    exec ! 𝓣.C 𝓣.Λ (env fn.locals l) (after 2 fn.body) (at_ret _ (W.post y)) $
    sets ! (of_opd ! (get ! refl)) refl (tt, tt) $
    sets ! (agg ! (and_then ! (get ! refl) (no_more !))) refl (held_typed p) $
    sets ! (agg ! (and_then ! (get ! refl) (no_more !))) refl (held_typed q) $
    sets ! (agg ! (and_then ! (get ! refl) (and_then ! (get ! refl) (no_more !)))) refl (pair_typed p q) $
    returns ! (look_at ! 0 refl) $ free_all ! refl $
    use1 𝓛 (‵ ((block.the_row).own_val x (v ∷ []))) (with_data 𝓛 p (block_room p m)) $
    move ! (1 ∷ []) $ use1 𝓛 (‵ ((block.the_row).own_val behind (w ∷ []))) (with_data 𝓛 q (block_room q (n - m))) $
    move ! (1 ∷ 0 ∷ []) $ use2 𝓛 (‵ ((type_at f.signature.result κs).own_val (x, behind) (pair_val v w ∷ [])))
    (pair_of 𝓛 block.the_row block.the_row x behind v w) $
    use0 𝓛 (raw (fact 𝓤 Kept)) (fact_i 𝓤 Kept (emp 𝓤) (refl, refl)) $
    use0 𝓛 (‵ (gone 2)) (all_gone 𝓛 2) $ move ! (3 ∷ 0 ∷ 2 ∷ 1 ∷ []) $
    by ! (leaves 𝓛 f.ended stayed c y (pair_val v w) (x, behind) (tt, (tt, tt)) (tt, (tt, tt)))))))
