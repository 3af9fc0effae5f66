-- Machine values that the walks make and take apart: pointers, structs that wrap one, pairs.
-- Assumes `Logic`.
use Rattle.std.proofs.Common.{◌≡◌, T, [], ◌∷◌, List, refl, lit<}
use seplogic.Ra.Ura.{Ura}
use mir.Syntax.{Ty, ty_ptr}
use mir.Val.{Val, WT, has_ty, vstruct, vcons, vnil}
use base.Logic.{ent, sep, emp}
use base.Fml.{Fml}
use types.Logic.{Logic, sem}
use types.Kit.{‵, ◌$◌, ◌∵◌, !, qed, move, fjoin, fpack, feq_i, done}
use denote.Laws.{Is}
use denote.RattleType.{RattleType, Valss}
use denote.RawPtr.{Ptr, block_ptr, null_ptr, ptr_val, RawPtr, rawptr_vals, rawptr_Tells, rawptr_pure}
use denote.Steps.{nothing}
use denote.Struct.Struct.{Shape, Struct, layout, Struct-Tells, Struct-Makes, within}
use denote.Struct.Tuple.{Tuple}

-- a pointer has its type, whether it is null or not
pub ptr_typed : (p : Ptr) → T (has_ty ty_ptr (ptr_val p)) × WT (ptr_val p)
ptr_typed (block_ptr b o) = (tt, tt)
ptr_typed null_ptr = (tt, record { fits = lit< tt })

-- `Block` and `Pile` wrap a pointer: what their data owns is that of any such struct
abbrev pub holder : Shape
holder = record { name = []; args = []; types = []; fields = RawPtr ∷ [] }

abbrev pub held_ty : Ty
held_ty = layout holder

abbrev pub held_val : Ptr → Val
held_val p = vstruct (vcons (ptr_val p) vnil)

abbrev pub held_own : Ptr → List Val → Fml
held_own p vs = (Struct holder).own_val (p, tt) vs

-- it has the struct's type, whatever the pointer is
pub held_typed : (p : Ptr) → T (has_ty held_ty (held_val p)) × WT (held_val p)
held_typed (block_ptr b o) = (tt, (tt, tt))
held_typed null_ptr = (tt, (record { fits = lit< tt }, tt))

-- which machine value such a struct has
pub held_told : (p : Ptr) (vs : List Val) → Is (Struct holder) (p, tt) vs → vs ≡ held_val p ∷ []
held_told p vs is = Struct-Tells holder (rawptr_vals, tt) (rawptr_Tells, tt) (p, tt) vs is

-- two values side by side
abbrev pub pair_val : Val → Val → Val
pair_val v w = vstruct (vcons v (vcons w vnil))

module _ {M : Type 1} {𝓤 : Ura M} (𝓛 : Logic 𝓤) where
  -- what the data of such a struct owns is a fact alone, so it is made of nothing
  pub held_made : (p : Ptr) → ent 𝓤 (emp 𝓤) (sem 𝓛 (held_own p (held_val p ∷ [])))
  held_made p =
      let vss : Valss (RawPtr ∷ []) = (ptr_val p ∷ [], tt) in
      Struct-Makes 𝓛 holder (rawptr_pure, tt) (p, tt) (held_val p ∷ []) (vss, (refl, (refl, tt)))

  -- who owns two values owns the pair of them
  module _ (R S : RattleType) where
    abbrev Pair : RattleType
    Pair = Tuple (R ∷ S ∷ [])

    pub pair_of : (x : R.Denot) (y : S.Denot) (v w : Val) →
        ent 𝓤 (sep 𝓤 (sem 𝓛 (R.own_val x (v ∷ []))) (sem 𝓛 (S.own_val y (w ∷ []))))
        (sem 𝓛 (Pair.own_val (x, y) (pair_val v w ∷ [])))
    pair_of x y v w =
        let us : List Val = pair_val v w ∷ [] in
        let both : Shape = record { name = []; args = []; types = []; fields = R ∷ S ∷ [] } in
        qed 𝓛 (‵ (R.own_val x (v ∷ [])) ∷ ‵ (S.own_val y (w ∷ [])) ∷ []) ∵
        nothing ! $ move ! (2 ∷ 0 ∷ 1 ∷ []) $ fjoin ! $ move ! (1 ∷ 0 ∷ []) $ fjoin ! $
        feq_i ! (List Val) us us refl $ fjoin ! $
        fpack ! (Valss (R ∷ S ∷ [])) (within both (x, (y, tt)) us) (v ∷ [], (w ∷ [], tt)) $ done !
