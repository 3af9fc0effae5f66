-- `new` makes a pile of nothing: a pile of no block owns nothing. Assumes `Logic`.
use Rattle.std.proofs.Common.{◌≡◌, [], ◌∷◌, refl, w64}
use base.Fml.{ftrue}
use base.Logic.{emp}
use contract.Monad.{fact, fact_i}
use types.Kit.{‵, raw, ◌⊛◌, ◌$◌, ◌∵◌, !, qed, by, move, drop, use0, use1, split}
use types.Part.{agg}
use types.Run.{lit, no_more, and_then, returns, enter}
use types.ByLocal.{alloc_all, pass_all, free_all, look_at, sets}
use denote.Exit.{yes}
use denote.Plain.{uint_vals, uint_Tells}
use denote.RattleType.{Valss, owns}
use denote.RawPtr.{null_ptr}
use denote.Signature.{types_at}
use denote.Steps.{nothing, heard}
use denote.Triple.Entry.{alive}
use denote.Triple.Walked.{Stays, stay_dropped, walk_of, Goes-dropped}
use Rattle.std.proofs.raw_atomic.Walks.{proved, leaves}
use Rattle.page_heap.proofs.Piles.{with_data}
use Rattle.page_heap.proofs.Values.{held_typed, held_val}
use Rattle.page_heap.proofs.Walks.{slot_at, gone, all_gone}
use Rattle.page_heap.specs.Memory.{IsBlockSize}
use Rattle.page_heap.specs.contracts.pile.Pile as pile
use Rattle.page_heap.specs.contracts.pile.Pile.new as f
use Rattle.page_heap.proofs.pile.Pile.new.Statement.{statement}
use Rattle.page_heap.proofs.pile.Pile.new.Code as code

abbrev stayed : Stays f.signature.params f.ended.kept
stayed = (stay_dropped _ _, tt)

pub new_spec : {M : Type 1} → statement M
new_spec 𝓤 𝓛 𝓜 𝓡 wired =
    let c = f.clauses 𝓛 𝓜.mem 𝓡.returns in let W = walk_of 𝓛 f.ended stayed c in
    let slots = f.signature.params in
    proved 𝓛 f.ended stayed c 𝓜 𝓡 (Goes-dropped 𝓛 0 (slot_at 0 slots) yes (λ κs x w. refl), tt)
    f.Key.name code.function (code.unfolded 𝓤 𝓛.H 𝓜 𝓡 wired)
    (λ κs. (uint_vals w64, tt)) (λ κs. (uint_Tells w64, tt))
    (λ κs qs bounds a _ are.
    let n = a.0 in let vss : Valss (types_at slots κs) = (uint_vals w64 n, tt) in
    let y : W.Ghost = ((κs, qs, bounds, a, vss), tt) in
    qed 𝓛 ((raw (alive 𝓛 f.signature κs qs) ⊛ ‵ (owns (types_at slots κs) a vss)) ∷ raw (fact 𝓤 (IsBlockSize n)) ∷ []) ∵
    split ! $ move ! (2 ∷ []) $ heard ! _ (λ is. move ! (1 ∷ []) $ drop ! $
    let x : (pile.the_row).Denot = record { top = null_ptr; size = n; count = 0; holds = is } in
    let Kept = (x.size ≡ n) × (x.count ≡ 0) in
    enter ! _ _ _ _ _ $ alloc_all ! (λ l. pass_all ! refl ((tt, record { fits = are.0.1 }), tt) $
    sets ! (agg ! (and_then ! (lit ! tt) (no_more !))) refl (held_typed null_ptr) $
    returns ! (look_at ! 0 refl) $ free_all ! refl $
    use0 𝓛 (raw (fact 𝓤 Kept)) (fact_i 𝓤 Kept (emp 𝓤) (refl, refl)) $
    nothing ! $ use1 𝓛 (‵ ((pile.the_row).own_val x (held_val null_ptr ∷ []))) (with_data 𝓛 null_ptr ftrue) $
    use0 𝓛 (‵ (gone 1)) (all_gone 𝓛 1) $ move ! (3 ∷ 0 ∷ 1 ∷ 2 ∷ []) $
    by ! (leaves 𝓛 f.ended stayed c y (held_val null_ptr) x (tt, tt) (tt, tt)))))
