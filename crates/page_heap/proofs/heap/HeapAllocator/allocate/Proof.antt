-- `allocate` hands out what `take` gives, with the right to give it back. Assumes `Logic`.
use Rattle.std.proofs.Common.{◌≤◌, true, false, [], ◌∷◌, IfSome, Ok, Err, Option, alloc_error, refl, lit<, w64}
use mir.Syntax.{named}
use mir.Val.{Val}
use base.Logic.{ent, emp, id⊢}
use contract.Monad.{fact}
use contract.Running.{tables}
use types.Kit.{‵, raw, ◌⊛◌, some, later, prop, at_ret, Sq, ◌$◌, ◌∵◌, !, qed, by, move, drop, use0, use1, use2, split, pick, await}
use types.Logic.{sem}
use types.Match.{vrt, in_variant}
use types.Part.{whole, sub, agg}
use types.Run.{stop, fld, of_opd, lit, no_more, and_then, first, switches_on, exec, returns, enter}
use types.ByLocal.{alloc_all, pass_all, free_all, look_at, get, get_in, get_tag, sets, sets_last, lands_as, env}
use denote.Exit.{yes}
use denote.Plain.{uint_vals, uint_Tells}
use denote.RattleType.{Valss}
use denote.RawPtr.{block_ptr}
use denote.Signature.{types_at}
use denote.Ref.{shr_vals, shr_Tells}
use denote.Steps.{nothing, heard}
use denote.Triple.Call.{calls_at}
use denote.Triple.Clauses.{lasts}
use denote.Triple.Entry.{alive, on_entry}
use denote.Triple.Spec.{triple_of}
use denote.Triple.Table.{framed}
use denote.Triple.Walked.{Stays, stay_dropped, walk_of, Goes-dropped}
use Rattle.std.proofs.alloc.Calls.{Answer, answer_val, Answer-typed, Answer-Ok, Answer-err}
use Rattle.std.proofs.alloc.Shapes.{after, head, arm_body}
use Rattle.std.proofs.raw_atomic.Walks.{proved, leaves}
use Rattle.std.specs.Allocator.{HasLayout, owned_block, block_if_ok}
use Rattle.page_heap.proofs.Blocks.{Block, Offer, offered, handed}
use Rattle.page_heap.proofs.Walks.{slot_at, then_runs, gone, all_gone}
use Rattle.page_heap.specs.Memory.{IsRoomFor, block_token}
use Rattle.page_heap.specs.contracts.heap.Heap as heap
use Rattle.page_heap.specs.contracts.heap.Heap.take as g
use Rattle.page_heap.specs.contracts.heap.HeapAllocator.allocate as f
use Rattle.page_heap.proofs.heap.Heap.take.Met.{met}
use Rattle.page_heap.proofs.heap.HeapAllocator.allocate.Statement.{statement}
use Rattle.page_heap.proofs.heap.HeapAllocator.allocate.Code as code

abbrev stayed : Stays f.signature.params f.ended.kept
stayed = (stay_dropped _ _, (stay_dropped _ _, (stay_dropped _ _, tt)))

pub allocate_spec : {M : Type 1} → statement M
allocate_spec 𝓤 𝓛 𝓜 𝓡 wired =
    let c = f.clauses 𝓛 𝓜.mem 𝓡.returns in let W = walk_of 𝓛 f.ended stayed c in
    let 𝓣 = tables 𝓤 𝓛.H 𝓜 𝓡 𝓡.env in let fn = code.function in
    let goes = Goes-dropped 𝓛 1 in let slots = f.signature.params in
    proved 𝓛 f.ended stayed c 𝓜 𝓡 (
      goes (slot_at 0 slots) yes (λ κs x w. refl),
      (
        goes (slot_at 1 slots) yes (λ κs x w. refl),
        (goes (slot_at 2 slots) yes (λ κs x w. refl), tt),
      ),
    )
    f.Key.name fn (code.unfolded 𝓤 𝓛.H 𝓜 𝓡 wired)
    (λ κs. (shr_vals, (uint_vals w64, (uint_vals w64, tt))))
    (λ κs. (shr_Tells (named 0) κs.0 heap.the_row, (uint_Tells w64, (uint_Tells w64, tt))))
    (λ κs qs bounds a τ are.
    let n = a.1.0 in let align = a.1.1.0 in
    let vss : Valss (types_at slots κs) =
    (shr_vals a.0, (uint_vals w64 n, (uint_vals w64 align, tt))) in
    let y : W.Ghost = ((κs, qs, bounds, a, vss), τ) in
    let Alive = raw (alive 𝓛 f.signature κs qs) in
    -- what is answered owns nothing but what is handed over
    let answers : (v : Val) (r : Answer.Denot) → ent 𝓤 (emp 𝓤) (sem 𝓛 (Answer.own_val r (v ∷ []))) →
    Sq 𝓛 (‵ (block_if_ok block_token τ r) ∷ Alive ∷ []) (prop (W.post y v)) = λ v r made.
    use0 𝓛 (‵ (Answer.own_val r (v ∷ []))) made $ use0 𝓛 (‵ (gone 3)) (all_gone 𝓛 3) $
    move ! (3 ∷ 0 ∷ 1 ∷ 2 ∷ []) $
    by ! (leaves 𝓛 f.ended stayed c y v r (tt, (tt, (tt, tt))) (tt, (tt, (tt, tt)))) in
    let G = triple_of 𝓛 g.signature (g.spec 𝓛 𝓜.mem 𝓡.returns) in
    let z : G.Ghost = ((κs, qs, bounds, a, vss), tt) in
    let Promised : Option Block → Type 0 = λ r. IfSome r (λ b. IsRoomFor n b.size × (align ≤ 16)) in
    qed 𝓛 (raw (on_entry 𝓛 f.signature κs qs a vss) ∷ raw (fact 𝓤 (HasLayout τ n align)) ∷ []) ∵
    move ! (1 ∷ []) $ heard ! _ (λ laid.
    nothing ! $ move ! (1 ∷ 0 ∷ []) $ use2 𝓛 (raw (G.pre z)) (id⊢ 𝓤 _) $
    enter ! 𝓣.C 𝓣.Λ fn _ _ $ alloc_all ! (λ l. pass_all ! refl
    ((tt, tt), ((tt, record { fits = are.1.0.1 }), ((tt, record { fits = are.1.1.0.1 }), tt))) $
    calls_at ! (framed 𝓤 𝓛.H 𝓜 𝓣) G
    (met 𝓤 𝓛 𝓜 𝓡 (code.calls-page_heap::heap::Heap::take 𝓡.env wired)) z
    (and_then ! (get ! refl) (and_then ! (get ! refl) (and_then ! (get ! refl) (no_more !)))) (λ v.
    use1 𝓛 (later (some (λ (r : Option Block). (Alive ⊛ ‵ (Offer.own_val r (v ∷ []))) ⊛
    some (λ (ws : Unit {0} × (Unit {0} × (Unit {0} × Unit {0}))).
    ‵ (lasts g.ended κs a ws) ⊛ raw (fact 𝓤 (Promised r)))))) (id⊢ 𝓤 _) $
    await ! tt $ pick ! (λ r. split ! $ split ! $
    move ! (2 ∷ []) $ pick ! (λ ws. split ! $ drop ! $ heard ! _ (λ promised. move ! (1 ∷ []) $
    let E = env fn.locals l in let last = at_ret E (W.post y) in let behind = after 2 fn.body in
    let arms = head (after 1 fn.body) in
    let next = then_runs 𝓛 𝓣.C 𝓣.Λ E behind last in
    -- [what was offered; the tokens; the locals]
    offered ! v (λ m. IsRoomFor n m × (align ≤ 16))
    (λ b o m is at.
    use1 𝓛 (‵ (owned_block block_token τ (block_ptr b o))) (handed 𝓛 τ b o n m laid.0 is.0) $
    lands_as ! at refl (tt, (record { fits = lit< tt }, ((tt, tt), tt))) $
    first ! $ switches_on ! (get_tag ! (vrt ! refl (fld ! refl (stop !))) (whole !)) $
    exec ! 𝓣.C 𝓣.Λ E (arm_body 0 arms) next $
    sets ! (of_opd ! (get_in ! (vrt ! refl (fld ! refl (fld ! refl (stop !))))
    (sub ! 0 refl (in_variant ! 1 0 refl refl (whole !))))) refl (tt, tt) $
    sets_last ! (agg ! (and_then ! (lit ! tt) (and_then ! (get ! refl) (no_more !)))) refl
    (Answer-typed true b o) $
    exec ! 𝓣.C 𝓣.Λ E behind last $
    sets ! (of_opd ! (get ! refl)) refl (Answer-typed true b o) $
    returns ! (look_at ! 0 refl) $ free_all ! refl $
    answers (answer_val true b o) (Ok (block_ptr b o)) (Answer-Ok 𝓛 b o))
    (λ at.
    nothing ! $ lands_as ! at refl (tt, (record { fits = lit< tt }, tt)) $
    first ! $ switches_on ! (get_tag ! (vrt ! refl (fld ! refl (stop !))) (whole !)) $
    exec ! 𝓣.C 𝓣.Λ E (arm_body 1 arms) next $
    sets ! (agg ! (no_more !)) refl (tt, tt) $
    sets_last ! (agg ! (and_then ! (lit ! tt) (and_then ! (get ! refl) (no_more !)))) refl
    (Answer-typed false 0 0) $
    exec ! 𝓣.C 𝓣.Λ E behind last $
    sets ! (of_opd ! (get ! refl)) refl (Answer-typed false 0 0) $
    returns ! (look_at ! 0 refl) $ free_all ! refl $
    answers (answer_val false 0 0) (Err alloc_error) (Answer-err 𝓛)) r promised)))))))
