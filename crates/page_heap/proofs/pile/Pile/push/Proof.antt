-- `push` writes the top into the block, which lies on the pile then. Assumes `Logic`.
use Rattle.std.proofs.Common.{◌≡◌, ◌+◌, suc, [], ◌∷◌, refl, ap, arith}
use mir.Syntax.{ty_ptr}
use base.Fml.{froom, fwand}
use base.Logic.{emp, id⊢}
use contract.Monad.{fact, fact_i}
use contract.Running.{tables}
use types.Kit.{‵, raw, ◌⊛◌, at_ret, ◌$◌, ◌∵◌, !, qed, by, move, drop, use0, use1, use2, split, fsplit, fjoin, rewrite}
use types.Part.{whole, sub, agg}
use types.Run.{stop, fld, init, of_opd, no_more, and_then, assigns, first, blocks, exec, returns, enter}
use types.ByLocal.{alloc_all, pass_all, free_all, look_at, get, get_in, through, is, sets, sets_last, env}
use denote.Exit.{yes}
use denote.RattleType.{Valss, owns}
use denote.RawPtr.{block_ptr, ptr_val, in_a_block}
use denote.Signature.{types_at}
use denote.Steps.{heard}
use denote.Triple.Entry.{alive}
use denote.Triple.Walked.{Stays, stay_dropped, walk_of, Goes-dropped}
use Rattle.std.proofs.alloc.Shapes.{after}
use Rattle.std.proofs.raw_atomic.Walks.{proved, leaves}
use Rattle.page_heap.proofs.Piles.{with_data, begun, laid_on}
use Rattle.page_heap.proofs.Values.{ptr_typed, held_typed, held_val}
use Rattle.page_heap.proofs.Walks.{slot_at, gone, all_gone}
use Rattle.page_heap.specs.Memory.{Link, block_room, units_of, piled}
use Rattle.page_heap.specs.contracts.pile.Pile as pile
use Rattle.page_heap.specs.contracts.pile.Pile.push as f
use Rattle.page_heap.proofs.block.Block.TheLaws as block_laws
use Rattle.page_heap.proofs.pile.Pile.TheLaws as pile_laws
use Rattle.page_heap.proofs.pile.Pile.push.Statement.{statement}
use Rattle.page_heap.proofs.pile.Pile.push.Code as code

abbrev stayed : Stays f.signature.params f.ended.kept
stayed = (stay_dropped _ _, (stay_dropped _ _, tt))

pub push_spec : {M : Type 1} → statement M
push_spec 𝓤 𝓛 𝓜 𝓡 wired =
    let c = f.clauses 𝓛 𝓜.mem 𝓡.returns in let W = walk_of 𝓛 f.ended stayed c in
    let 𝓣 = tables 𝓤 𝓛.H 𝓜 𝓡 𝓡.env in let fn = code.function in
    let goes = Goes-dropped 𝓛 0 in let slots = f.signature.params in
    proved 𝓛 f.ended stayed c 𝓜 𝓡
    (goes (slot_at 0 slots) yes (λ κs x w. refl), (goes (slot_at 1 slots) yes (λ κs x w. refl), tt))
    f.Key.name fn (code.unfolded 𝓤 𝓛.H 𝓜 𝓡 wired)
    (λ κs. ((λ x. held_val x.top ∷ []), ((λ x. held_val x.ptr ∷ []), tt)))
    (λ κs. (pile_laws.lowers.val_is, (block_laws.lowers.val_is, tt)))
    (λ κs qs bounds a _ are.
    let on = a.0 in let given = a.1.0 in
    let vss : Valss (types_at slots κs) = (held_val on.top ∷ [], (held_val given.ptr ∷ [], tt)) in
    let y : W.Ghost = ((κs, qs, bounds, a, vss), tt) in
    qed 𝓛 ((raw (alive 𝓛 f.signature κs qs) ⊛ ‵ (owns (types_at slots κs) a vss)) ∷ raw (fact 𝓤 (given.size ≡ on.size)) ∷ []) ∵
    split ! $ move ! (2 ∷ []) $ heard ! _ (λ same. move ! (1 ∷ []) $
    fsplit ! $ fsplit ! $ drop ! $ move ! (1 ∷ []) $ fsplit ! $ fsplit ! $ drop ! $
    -- [the block; the end of the list; the pile; the tokens]
    rewrite ! 0 (λ k. ‵ (block_room given.ptr k)) same refl $
    in_a_block ! given.ptr (λ p. block_room p on.size) (id⊢ 𝓤 _) (λ b o at.
    let l : Link = record { block = b; start = o; below = on.top } in
    let x : (pile.the_row).Denot = record { top = block_ptr b o; size = on.size; count = suc on.count; holds = on.holds } in
    let Kept = (x.size ≡ on.size) × (x.count ≡ on.count + 1) in
    use1 𝓛 (‵ (froom ty_ptr b o) ⊛ ‵ (fwand (froom ty_ptr b o) (froom (units_of on.size) b o))) (begun 𝓛 on.size b o on.holds) $
    split ! $
    enter ! 𝓣.C 𝓣.Λ fn _ _ $ alloc_all ! (λ l'. pass_all ! refl (held_typed on.top, (held_typed given.ptr, tt)) $
    sets ! (of_opd ! (get_in ! (fld ! refl (stop !)) (sub ! 0 refl (whole !)))) refl (ptr_typed on.top) $
    sets ! (is ! (of_opd ! (get_in ! (fld ! refl (stop !)) (sub ! 0 refl (whole !)))) (ap ptr_val at)) refl (tt, tt) $
    first ! $ blocks ! $
    sets ! (of_opd ! (get ! refl)) refl (tt, tt) $
    assigns ! (of_opd ! (get ! refl)) (through ! refl (stop !)) (init ! 0 refl (ptr_typed on.top)) $
    sets_last ! (agg ! (and_then ! (get ! refl) (no_more !))) refl (held_typed (block_ptr b o)) $
    exec ! 𝓣.C 𝓣.Λ (env fn.locals l') (after 3 fn.body) (at_ret _ (W.post y)) $
    sets ! (of_opd ! (get ! refl)) refl (held_typed (block_ptr b o)) $
    returns ! (look_at ! 0 refl) $ free_all ! refl $
    -- [the pointer; the way back; the end of the list; the pile; the tokens]
    fjoin ! $ move ! (0 ∷ 2 ∷ []) $ use2 𝓛 (‵ (piled on.size (suc on.count) (block_ptr b o))) (laid_on 𝓛 on.size on.count l) $
    use1 𝓛 (‵ ((pile.the_row).own_val x (held_val (block_ptr b o) ∷ [])))
    (with_data 𝓛 (block_ptr b o) (piled on.size (suc on.count) (block_ptr b o))) $
    use0 𝓛 (raw (fact 𝓤 Kept)) (fact_i 𝓤 Kept (emp 𝓤) (refl, omega arith)) $ move ! (1 ∷ 0 ∷ []) $
    use0 𝓛 (‵ (gone 2)) (all_gone 𝓛 2) $ move ! (3 ∷ []) $ drop ! $ move ! (3 ∷ 0 ∷ 1 ∷ 2 ∷ []) $
    by ! (leaves 𝓛 f.ended stayed c y (held_val (block_ptr b o)) x (tt, (tt, tt)) (tt, (tt, tt)))))))
