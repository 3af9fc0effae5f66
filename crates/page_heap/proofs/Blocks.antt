-- Blocks between the heap and whoever allocates: what `Heap::take` gives, and how the memory of a
-- block is handed out for a type and comes back. Assumes `Logic`.
use Rattle.std.proofs.Common.{◌≡◌, ℕ, ◌≤◌, List, [], ◌∷◌, Option, Some, None, IfSome, ap, ◌∙◌, subst, sym, arith}
use seplogic.Ra.Ura.{Ura}
use mir.Syntax.{Ty}
use mir.Val.{Val, vcons, vnil}
use prog.Memory.{size, capped}
use base.Logic.{ent, id⊢, never, apply∗}
use base.Fml.{Fml, fex, fwand, froom}
use types.Logic.{Logic, sem}
use types.Kit.{Item, Goal, Seq, ‵, ◌⊛◌, ◌$◌, ◌∵◌, !, qed, done, move, drop, use1, use2, split, fsplit, fjoin, fpick, fpack}
use types.Match.{live}
use denote.Enum.Declared.{shape}
use denote.Enum.Enum.{Shape, Spellss, machine, Enum-Tells}
use denote.Laws.{Is, shows}
use denote.RattleType.{RattleType}
use denote.RawPtr.{Ptr, block_ptr, room_for, in_a_block}
use denote.Steps.{only, peeks}
use Rattle.std.specs.Allocator.{owned_block}
use Rattle.std.specs.contracts.option.Option as option
use Rattle.page_heap.specs.Memory.{IsRoomFor, block_room, block_token, units_of}
use Rattle.page_heap.specs.contracts.block.Block as block
use Rattle.page_heap.proofs.block.Block.TheLaws.{lowers}
use Rattle.page_heap.proofs.Rooms.{lent_to}
use Rattle.page_heap.proofs.Sizes.{room_is_whole, uncapped}
use Rattle.page_heap.proofs.Values.{held_val}

-- the type of what `take` returns, and its machine values
abbrev pub Block : Type 0
Block = (block.the_row).Denot

abbrev pub Offer : RattleType
Offer = option.the_row block.the_row

abbrev pub some_at : Ptr → Val
some_at p = live 1 (vcons (held_val p) vnil)

abbrev pub none : Val
none = live 0 vnil

-- the machine value of what `take` returns, which the case below is on
abbrev S : Shape
S = shape (option.the_type block.the_row)

abbrev spelled : Spellss S.variants
spelled = (tt, (((λ y. held_val y.ptr ∷ []), tt), tt))

abbrev offer_val : Option Block → Val
offer_val r = machine S spelled ((option.the_type block.the_row).to r)

offer_told : (r : Option Block) (v : Val) → Is Offer r (v ∷ []) → v ≡ offer_val r
offer_told r v is =
    let to = (option.the_type block.the_row).to in
    ap only (Enum-Tells S spelled (tt, ((lowers.val_is, tt), tt)) (to r) (v ∷ []) is)

module _ {M : Type 1} {𝓤 : Ura M} {𝓛 : Logic 𝓤} {K : Type 0} {Γ : List (Item 𝓤)}
    {G : Goal 𝓤 𝓛.H} where
  -- what is offered is a block, with its memory, whose size is as promised; or none
  module _ (t : K) (v : Val) (P : ℕ → Type 0)
      (found : (b o m : ℕ) → P m → v ≡ some_at (block_ptr b o) →
      Seq K 𝓛 (‵ (froom (units_of m) b o) ∷ Γ) G)
      (not_found : v ≡ none → Seq K 𝓛 Γ G) where
    -- the case, where the machine value is known
    by_value : (r : Option Block) → IfSome r (λ y. P y.size) → v ≡ offer_val r →
        Seq K 𝓛 (‵ (Offer.own_val r (v ∷ [])) ∷ Γ) G
    by_value (Some y) holds told =
        fpick t (λ us. fsplit t $ drop t $ fpick t (λ vss. fsplit t $ drop t $
        fsplit t $ fsplit t $ drop t $
        -- [the block's memory; nothing]
        in_a_block t y.ptr (λ p. block_room p y.size) (id⊢ 𝓤 (never 𝓤)) (λ b o at.
        move t (1 ∷ []) $ drop t $
        found b o y.size holds (told ∙ ap some_at at))))
    by_value None holds told = drop t $ not_found told

    -- the case, from what `take` returns alone: `allocate` is this case
    pub offered : (r : Option Block) → IfSome r (λ y. P y.size) →
        Seq K 𝓛 (‵ (Offer.own_val r (v ∷ [])) ∷ Γ) G
    offered r holds = peeks t Offer (Is Offer) (shows 𝓛 Offer) r (v ∷ []) (λ is.
        by_value r holds (offer_told r v is))

  -- who gives a block back has the memory of all of it again, by the right to give it back
  pub regained : K → (τ : Ty) (p : Ptr) →
      ((m : ℕ) → IsRoomFor (size τ) m → Seq K 𝓛 (‵ (block_room p m) ∷ Γ) G) →
      Seq K 𝓛 (‵ (owned_block block_token τ p) ∷ Γ) G
  regained t τ p next =
      fsplit t $ move t (1 ∷ []) $ fpick t (λ m. fpick t (λ is. move t (1 ∷ 0 ∷ []) $
      use2 𝓛 (‵ (block_room p m)) (apply∗ 𝓤 (sem 𝓛 (room_for τ p)) (sem 𝓛 (block_room p m))) $
      next m is))

module _ {M : Type 1} {𝓤 : Ura M} (𝓛 : Logic 𝓤) where
  open 𝓛 use {H}

  -- a block for n bytes is room for a τ of that size, and the right to give it back
  pub handed : (τ : Ty) (b o n m : ℕ) → capped (size τ) ≡ n → IsRoomFor n m →
      ent 𝓤 (H.room (units_of m) b o) (sem 𝓛 (owned_block block_token τ (block_ptr b o)))
  handed τ b o n m laid is =
      let same : size τ ≡ n = uncapped (size τ) n laid is.0 in
      let fits : size τ ≤ m = omega (arith, is.1.1) in
      let whole = (room_is_whole n m is).1 in
      let Back : ℕ → Fml = λ k. fwand (froom τ b o) (froom (units_of k) b o) in
      let Right : ℕ → Fml = λ k. fex (IsRoomFor (size τ) k) (λ _. Back k) in
      qed 𝓛 (‵ (froom (units_of m) b o) ∷ []) ∵
      use1 𝓛 (‵ (froom τ b o) ⊛ ‵ (Back m)) (lent_to 𝓛 b τ o m whole fits) $ split ! $
      move ! (1 ∷ []) $
      fpack ! (IsRoomFor (size τ) m) (λ _. Back m) (subst (λ k. IsRoomFor k m) (sym same) is) $
      fpack ! ℕ Right m $ move ! (1 ∷ 0 ∷ []) $ fjoin ! $ done !
