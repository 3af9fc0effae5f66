-- What the walks of `Block` and `Pile` make and take apart: a struct with its memory, and a block on a
-- pile. Assumes `Logic`.
use Rattle.std.proofs.Common.{◌≡◌, ℕ, suc, T, [], ◌∷◌, List, refl, arith}
use seplogic.Ra.Ura.{Ura}
use mir.Syntax.{Ty, ty_ptr, ty_struct, tcons, tnil}
use mir.Val.{WT, has_ty}
use base.Fml.{Fml, fsep, fex, fwand, froom}
use base.Logic.{ent, sep, apply∗}
use types.Kit.{Item, Goal, Seq, ‵, ◌$◌, ◌∵◌, !, qed, done, use0, use1, use2, fsplit, fjoin, fpick, fpack}
use types.Logic.{Logic, sem}
use denote.RawPtr.{Ptr, block_ptr, null_ptr, ptr_val}
use Rattle.page_heap.specs.Memory.{IsBlockSize, Link, units_of, linked, piled}
use Rattle.page_heap.proofs.Rooms.{lent_to}
use Rattle.page_heap.proofs.Values.{held_ty, held_val, held_own, held_made, held_typed, pair_val}

-- two such structs side by side have their type, whatever the pointers are
abbrev pub pair_ty : Ty
pair_ty = ty_struct [] (tcons held_ty (tcons held_ty tnil))

pub pair_typed : (p q : Ptr) → T (has_ty pair_ty (pair_val (held_val p) (held_val q))) × WT (pair_val (held_val p) (held_val q))
pair_typed (block_ptr b o) (block_ptr b' o') = (tt, ((held_typed (block_ptr b o)).1, ((held_typed (block_ptr b' o')).1, tt)))
pair_typed (block_ptr b o) null_ptr = (tt, ((held_typed (block_ptr b o)).1, ((held_typed null_ptr).1, tt)))
pair_typed null_ptr (block_ptr b o) = (tt, ((held_typed null_ptr).1, ((held_typed (block_ptr b o)).1, tt)))
pair_typed null_ptr null_ptr = (tt, ((held_typed null_ptr).1, ((held_typed null_ptr).1, tt)))

module _ {M : Type 1} {𝓤 : Ura M} (𝓛 : Logic 𝓤) where
  open 𝓛 use {H}

  -- such a struct owns what is had beside its data
  pub with_data : (p : Ptr) (F : Fml) → ent 𝓤 (sem 𝓛 F) (sem 𝓛 (fsep (held_own p (held_val p ∷ [])) F))
  with_data p F = qed 𝓛 (‵ F ∷ []) ∵ use0 𝓛 (‵ (held_own p (held_val p ∷ []))) (held_made 𝓛 p) $ fjoin ! $ done !

  -- a block makes room for the pointer that it begins with
  pub begun : (n b o : ℕ) → IsBlockSize n → ent 𝓤 (H.room (units_of n) b o)
      (sep 𝓤 (H.room ty_ptr b o) (sem 𝓛 (fwand (froom ty_ptr b o) (froom (units_of n) b o))))
  begun n b o is = lent_to 𝓛 b ty_ptr o n is.1 (omega (arith, is.0))

  -- with the pointer in it, it lies on the pile that the pointer is the top of
  pub laid_on : (n k : ℕ) (l : Link) →
      ent 𝓤 (sep 𝓤 (sem 𝓛 (linked n l)) (sem 𝓛 (piled n k l.below))) (sem 𝓛 (piled n (suc k) (block_ptr l.block l.start)))
  laid_on n k l =
      let p : Ptr = block_ptr l.block l.start in
      let On : Link → Fml = λ m. fsep (linked n m) (piled n k m.below) in
      let Top : Link → Fml = λ m. fex (p ≡ block_ptr m.block m.start) (λ _. On m) in
      qed 𝓛 (‵ (linked n l) ∷ ‵ (piled n k l.below) ∷ []) ∵
      fjoin ! $ fpack ! (p ≡ p) (λ _. On l) refl $ fpack ! Link Top l $ done !

  -- without it, it is a block again
  pub bare : (n : ℕ) (l : Link) → ent 𝓤 (sem 𝓛 (linked n l)) (H.room (units_of n) l.block l.start)
  bare n l =
      qed 𝓛 (‵ (linked n l) ∷ []) ∵ fsplit ! $
      use1 𝓛 (‵ (froom ty_ptr l.block l.start)) (𝓛.laws.at_room ty_ptr l.block l.start (ptr_val l.below)) $
      use2 𝓛 (‵ (froom (units_of n) l.block l.start))
      (apply∗ 𝓤 (H.room ty_ptr l.block l.start) (H.room (units_of n) l.block l.start)) $ done !

module _ {M : Type 1} {𝓤 : Ura M} {𝓛 : Logic 𝓤} {K : Type 0} {Γ : List (Item 𝓤)} {G : Goal 𝓤 𝓛.H} where
  -- the top of a pile: the block there, and the pile below it
  pub topped : K → (n k : ℕ) (p : Ptr) →
      ((l : Link) → p ≡ block_ptr l.block l.start → Seq K 𝓛 (‵ (linked n l) ∷ ‵ (piled n k l.below) ∷ Γ) G) →
      Seq K 𝓛 (‵ (piled n (suc k) p) ∷ Γ) G
  topped t n k p next = fpick t (λ l. fpick t (λ at. fsplit t $ next l at))
