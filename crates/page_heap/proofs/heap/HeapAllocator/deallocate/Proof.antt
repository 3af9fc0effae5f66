-- `deallocate` makes a block of the memory that comes back, and gives it to the heap. Assumes
-- `Logic`.
use Rattle.std.proofs.Common.{[], ◌∷◌, refl, ap, subst, w64}
use mir.Syntax.{named}
use mir.Val.{vunit}
use prog.Memory.{size}
use base.Logic.{emp, id⊢}
use contract.Monad.{fact, fact_i}
use contract.Running.{tables}
use types.Kit.{‵, raw, ◌⊛◌, some, later, ◌$◌, ◌∵◌, !, qed, by, move, drop, use0, use1, use2, split, join, fsplit, fjoin, feq_i, feq_l, pick, await}
use types.Part.{agg}
use types.Run.{of_opd, unit_lit, no_more, and_then, returns, enter}
use types.ByLocal.{alloc_all, pass_all, free_all, look_at, get, sets, lands_as}
use denote.Builtin.{unit}
use denote.Exit.{yes}
use denote.Plain.{uint_vals, uint_Tells}
use denote.RattleType.{Valss, owns}
use denote.RawPtr.{rawptr_vals, rawptr_Tells}
use denote.Ref.{shr_vals, shr_Tells}
use denote.Signature.{types_at}
use denote.Steps.{nothing, heard, only}
use denote.Triple.Call.{calls_at}
use denote.Triple.Entry.{alive}
use denote.Triple.Spec.{triple_of}
use denote.Triple.Table.{framed}
use denote.Triple.Walked.{Stays, stay_dropped, walk_of, Goes-dropped}
use Rattle.std.proofs.raw_atomic.Walks.{proved, leaves}
use Rattle.std.specs.Allocator.{HasLayout, owned_block}
use Rattle.page_heap.proofs.Blocks.{Block, regained}
use Rattle.page_heap.proofs.Sizes.{room_is_whole, laid_out}
use Rattle.page_heap.proofs.Values.{ptr_typed, held_typed, held_val, held_own, held_made}
use Rattle.page_heap.proofs.Walks.{slot_at, gone, all_gone}
use Rattle.page_heap.specs.Memory.{IsRoomFor, block_token}
use Rattle.page_heap.specs.contracts.heap.Heap as heap
use Rattle.page_heap.specs.contracts.heap.Heap.give as g
use Rattle.page_heap.specs.contracts.heap.HeapAllocator.deallocate as f
use Rattle.page_heap.proofs.heap.Heap.give.Met.{met}
use Rattle.page_heap.proofs.heap.HeapAllocator.deallocate.Statement.{statement}
use Rattle.page_heap.proofs.heap.HeapAllocator.deallocate.Code as code

abbrev stayed : Stays f.signature.params f.ended.kept
stayed = (stay_dropped _ _, (stay_dropped _ _, (stay_dropped _ _, (stay_dropped _ _, tt))))

pub deallocate_spec : {M : Type 1} → statement M
deallocate_spec 𝓤 𝓛 𝓜 𝓡 wired =
    let c = f.clauses 𝓛 𝓜.mem 𝓡.returns in let W = walk_of 𝓛 f.ended stayed c in
    let 𝓣 = tables 𝓤 𝓛.H 𝓜 𝓡 𝓡.env in let fn = code.function in
    let goes = Goes-dropped 𝓛 1 in let slots = f.signature.params in
    proved 𝓛 f.ended stayed c 𝓜 𝓡 (
      goes (slot_at 0 slots) yes (λ κs x w. refl),
      (
        goes (slot_at 1 slots) yes (λ κs x w. refl),
        (
          goes (slot_at 2 slots) yes (λ κs x w. refl),
          (goes (slot_at 3 slots) yes (λ κs x w. refl), tt),
        ),
      ),
    )
    f.Key.name fn (code.unfolded 𝓤 𝓛.H 𝓜 𝓡 wired)
    (λ κs. (shr_vals, (rawptr_vals, (uint_vals w64, (uint_vals w64, tt)))))
    (λ κs. (
      shr_Tells (named 0) κs.0 heap.the_row,
      (rawptr_Tells, (uint_Tells w64, (uint_Tells w64, tt))),
    ))
    (λ κs qs bounds a τ are.
    let p = a.1.0 in let n = a.1.1.0 in let align = a.1.1.1.0 in
    let vss : Valss (types_at slots κs) =
    (shr_vals a.0, (rawptr_vals p, (uint_vals w64 n, (uint_vals w64 align, tt)))) in
    let y : W.Ghost = ((κs, qs, bounds, a, vss), τ) in
    let Alive = raw (alive 𝓛 f.signature κs qs) in
    let G = triple_of 𝓛 g.signature (g.spec 𝓛 𝓜.mem 𝓡.returns) in
    qed 𝓛 ((Alive ⊛ ‵ (owns (types_at slots κs) a vss)) ∷
    (raw (fact 𝓤 (HasLayout τ n align)) ⊛ ‵ (owned_block block_token τ p)) ∷ []) ∵
    move ! (1 ∷ []) $ split ! $ heard ! _ (λ laid. regained ! τ p (λ m is.
    let same = laid_out (size τ) n laid.0 is.0 in
    let room : IsRoomFor n m = subst (λ k. IsRoomFor k m) same is in
    let x : Block = record { ptr = p; size = m; whole = (room_is_whole n m room).1 } in
    let us : Valss (types_at g.signature.params κs) =
    (shr_vals a.0, (held_val p ∷ [], (uint_vals w64 n, tt))) in
    let z : G.Ghost = ((κs, qs, bounds, (a.0, (x, (n, tt))), us), tt) in
    -- [the block's memory; the tokens and the parameters]
    use0 𝓛 (‵ (held_own p (held_val p ∷ []))) (held_made 𝓛 p) $ fjoin ! $
    move ! (1 ∷ []) $ split ! $
    move ! (1 ∷ []) $ fsplit ! $ move ! (1 ∷ []) $ fsplit ! $ drop ! $ fsplit ! $
    move ! (1 ∷ []) $ drop ! $ nothing ! $ move ! (1 ∷ 0 ∷ []) $ fjoin ! $
    -- [the size, the last of what is passed; the heap; the tokens; the block]
    move ! (3 ∷ 0 ∷ []) $ fjoin ! $ move ! (1 ∷ 0 ∷ []) $ fjoin ! $ move ! (1 ∷ 0 ∷ []) $ join ! $
    use0 𝓛 (raw (fact 𝓤 (IsRoomFor n m))) (fact_i 𝓤 (IsRoomFor n m) (emp 𝓤) room) $
    move ! (1 ∷ 0 ∷ []) $ use2 𝓛 (raw (G.pre z)) (id⊢ 𝓤 _) $
    enter ! 𝓣.C 𝓣.Λ fn _ _ $ alloc_all ! (λ l. pass_all ! refl (
      (tt, tt),
      (
        ptr_typed p,
        ((tt, record { fits = are.1.1.0.1 }), ((tt, record { fits = are.1.1.1.0.1 }), tt)),
      ),
    ) $
    sets ! (agg ! (and_then ! (get ! refl) (no_more !))) refl (held_typed p) $
    calls_at ! (framed 𝓤 𝓛.H 𝓜 𝓣) G
    (met 𝓤 𝓛 𝓜 𝓡 (code.calls-page_heap::heap::Heap::give 𝓡.env wired)) z
    (and_then ! (get ! refl) (and_then ! (get ! refl) (and_then ! (get ! refl) (no_more !)))) (λ v.
    use1 𝓛 (later (some (λ (r : Unit {0}). (Alive ⊛ ‵ (unit.own_val r (v ∷ []))) ⊛
    raw ((g.spec 𝓛 𝓜.mem 𝓡.returns κs z.0.3).ensures tt r)))) (id⊢ 𝓤 _) $
    await ! tt $ pick ! (λ r. split ! $ move ! (1 ∷ []) $ drop ! $ split ! $ move ! (1 ∷ []) $
    feq_l ! (λ is_unit. lands_as ! (ap only is_unit) refl (tt, tt) $
    sets ! (of_opd ! (unit_lit !)) refl (tt, tt) $
    returns ! (look_at ! 0 refl) $ free_all ! refl $
    nothing ! $ feq_i ! _ (vunit ∷ []) _ refl $ use0 𝓛 (‵ (gone 4)) (all_gone 𝓛 4) $
    move ! (3 ∷ 0 ∷ 1 ∷ 2 ∷ []) $
    by ! (leaves 𝓛 f.ended stayed c y vunit tt
    (tt, (tt, (tt, (tt, tt)))) (tt, (tt, (tt, (tt, tt))))))))))))
