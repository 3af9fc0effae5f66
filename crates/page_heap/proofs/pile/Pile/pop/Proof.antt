-- `pop` reads the pointer in the top block, and hands the block out. Assumes `Logic`.
use Rattle.std.proofs.Common.{◌≡◌, ℕ, ◌+◌, ◌-◌, ◌<◌, suc, [], ◌∷◌, refl, ap, arith}
use base.Logic.{emp}
use base.Fml.{froom}
use contract.Monad.{fact, fact_i}
use contract.Running.{tables}
use types.Kit.{‵, raw, ◌⊛◌, at_ret, ◌$◌, ◌∵◌, !, qed, by, move, drop, use0, use1, use2, split, join, fsplit, fjoin, rewrite}
use types.Part.{whole, sub, agg}
use types.Run.{stop, fld, load, look, of_opd, no_more, and_then, first, blocks, exec, returns, enter}
use types.ByLocal.{alloc_all, pass_all, free_all, look_at, get, get_in, through, is, sets, sets_last, env}
use denote.Exit.{yes}
use denote.RattleType.{Valss, owns}
use denote.RawPtr.{block_ptr, ptr_val}
use denote.Signature.{types_at, type_at}
use denote.Steps.{heard}
use denote.Triple.Entry.{alive}
use denote.Triple.Walked.{Stays, stay_dropped, walk_of, Goes-dropped}
use Rattle.std.proofs.alloc.Shapes.{after}
use Rattle.std.proofs.raw_atomic.Walks.{proved, leaves}
use Rattle.page_heap.proofs.Piles.{with_data, topped, bare, pair_typed}
use Rattle.page_heap.proofs.Values.{ptr_typed, held_typed, held_val, pair_val, pair_of}
use Rattle.page_heap.proofs.Walks.{slot_at, gone, all_gone}
use Rattle.page_heap.specs.Memory.{block_room, units_of, piled}
use Rattle.page_heap.specs.contracts.block.Block as block
use Rattle.page_heap.specs.contracts.pile.Pile as pile
use Rattle.page_heap.specs.contracts.pile.Pile.pop as f
use Rattle.page_heap.proofs.pile.Pile.TheLaws.{lowers}
use Rattle.page_heap.proofs.pile.Pile.pop.Statement.{statement}
use Rattle.page_heap.proofs.pile.Pile.pop.Code as code

abbrev stayed : Stays f.signature.params f.ended.kept
stayed = (stay_dropped _ _, tt)

-- the pile below has one less
less : (k : ℕ) → 0 < k → k ≡ suc (k - 1)
less k some = omega arith

pub pop_spec : {M : Type 1} → statement M
pop_spec 𝓤 𝓛 𝓜 𝓡 wired =
    let c = f.clauses 𝓛 𝓜.mem 𝓡.returns in let W = walk_of 𝓛 f.ended stayed c in
    let 𝓣 = tables 𝓤 𝓛.H 𝓜 𝓡 𝓡.env in let fn = code.function in
    let slots = f.signature.params in
    proved 𝓛 f.ended stayed c 𝓜 𝓡 (Goes-dropped 𝓛 0 (slot_at 0 slots) yes (λ κs x w. refl), tt)
    f.Key.name fn (code.unfolded 𝓤 𝓛.H 𝓜 𝓡 wired)
    (λ κs. ((λ x. held_val x.top ∷ []), tt)) (λ κs. (lowers.val_is, tt))
    (λ κs qs bounds a _ are.
    let on = a.0 in let n = on.size in let k = on.count - 1 in
    let vss : Valss (types_at slots κs) = (held_val on.top ∷ [], tt) in
    let y : W.Ghost = ((κs, qs, bounds, a, vss), tt) in
    qed 𝓛 ((raw (alive 𝓛 f.signature κs qs) ⊛ ‵ (owns (types_at slots κs) a vss)) ∷ raw (fact 𝓤 (0 < on.count)) ∷ []) ∵
    split ! $ move ! (2 ∷ []) $ heard ! _ (λ some. move ! (1 ∷ []) $
    fsplit ! $ fsplit ! $ drop ! $
    -- [the pile; the end of the list; the tokens]
    rewrite ! 0 (λ j. ‵ (piled n j on.top)) (less on.count some) refl $
    topped ! n k on.top (λ l at. fsplit ! $
    let b = l.block in let o = l.start in
    let x : (block.the_row).Denot = record { ptr = block_ptr b o; size = n; whole = on.holds.1 } in
    let rest : (pile.the_row).Denot = record { top = l.below; size = n; count = k; holds = on.holds } in
    let v = held_val (block_ptr b o) in let w = held_val l.below in
    let Sizes = (x.size ≡ n) × (rest.size ≡ n) in let Count = rest.count + 1 ≡ on.count in
    enter ! 𝓣.C 𝓣.Λ fn _ _ $ alloc_all ! (λ l'. pass_all ! refl (held_typed on.top, tt) $
    -- [the pointer; the way back; the pile below; the end of the list; the tokens]
    sets ! (is ! (of_opd ! (get_in ! (fld ! refl (stop !)) (sub ! 0 refl (whole !)))) (ap ptr_val at)) refl (tt, tt) $
    first ! $ blocks ! $
    sets ! (of_opd ! (get ! refl)) refl (tt, tt) $
    sets ! (of_opd ! (load ! (through ! refl (stop !)) (look ! 0 refl))) refl (ptr_typed l.below) $
    sets ! (agg ! (and_then ! (get ! refl) (no_more !))) refl (held_typed (block_ptr b o)) $
    sets ! (agg ! (and_then ! (get ! refl) (no_more !))) refl (held_typed l.below) $
    sets_last ! (agg ! (and_then ! (get ! refl) (and_then ! (get ! refl) (no_more !)))) refl
    (pair_typed (block_ptr b o) l.below) $
    exec ! 𝓣.C 𝓣.Λ (env fn.locals l') (after 2 fn.body) (at_ret _ (W.post y)) $
    sets ! (of_opd ! (get ! refl)) refl (pair_typed (block_ptr b o) l.below) $
    returns ! (look_at ! 0 refl) $ free_all ! refl $
    fjoin ! $ use1 𝓛 (‵ (froom (units_of n) b o)) (bare 𝓛 n l) $
    use1 𝓛 (‵ ((block.the_row).own_val x (v ∷ []))) (with_data 𝓛 (block_ptr b o) (block_room (block_ptr b o) n)) $
    move ! (1 ∷ []) $ use1 𝓛 (‵ ((pile.the_row).own_val rest (w ∷ []))) (with_data 𝓛 l.below (piled n k l.below)) $
    move ! (1 ∷ 0 ∷ []) $ use2 𝓛 (‵ ((type_at f.signature.result κs).own_val (x, rest) (pair_val v w ∷ [])))
    (pair_of 𝓛 block.the_row pile.the_row x rest v w) $
    use0 𝓛 (raw (fact 𝓤 Count)) (fact_i 𝓤 Count (emp 𝓤) (omega (arith, some))) $
    use0 𝓛 (raw (fact 𝓤 Sizes)) (fact_i 𝓤 Sizes (emp 𝓤) (refl, refl)) $ join ! $ move ! (1 ∷ 0 ∷ []) $
    move ! (2 ∷ []) $ drop ! $ use0 𝓛 (‵ (gone 1)) (all_gone 𝓛 1) $ move ! (3 ∷ 0 ∷ 1 ∷ 2 ∷ []) $
    by ! (leaves 𝓛 f.ended stayed c y (pair_val v w) (x, rest) (tt, tt) (tt, tt))))))
