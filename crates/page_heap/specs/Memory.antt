-- Blocks of memory: their sizes, the room that they are, and free blocks in a pile.
use Rattle.std.specs.Prelude.{◌≡◌, ℕ, zero, suc, ◌/◌, ◌%◌, ◌^◌, ◌<◌, ◌≤◌, max}
use Rattle.std.specs.Int.{IsNextPowerOfTwo}
use mir.Syntax.{Ty, w128, ty_int, ty_ptr, ty_array}
use prog.Memory.{size}
use base.Fraction.{full_share}
use base.Fml.{Fml, ftrue, fsep, fex, fwand, fat, froom}
use denote.RawPtr.{Ptr, block_ptr, ptr_val, room_for}

-- n bytes, as units of 16 that are aligned to 16
abbrev pub units_of : ℕ → Ty
units_of n = ty_array (ty_int w128) (n / 16)

-- room for them at p
abbrev pub block_room : Ptr → ℕ → Fml
block_room p n = room_for (units_of n) p

-- a size that a block may have which holds a pointer
abbrev pub IsBlockSize : ℕ → Type 0
IsBlockSize n = (16 ≤ n) × (n % 16 ≡ 0)

-- the block for n bytes has m: the least power of two that holds them, 16 at least
abbrev pub IsRoomFor : ℕ → ℕ → Type 0
IsRoomFor n m = (n < 2 ^ 63) × IsNextPowerOfTwo (max n 16) m

-- the right to give the block for a τ at p back: room for a τ there is room for the whole block
abbrev pub block_token : Ty → Ptr → Fml
block_token τ p = fex ℕ (λ m. fex (IsRoomFor (size τ) m) (λ _. fwand (room_for τ p) (block_room p m)))

-- a place in memory, and what a pointer there points to
pub record Link : Type 0 where
  pub block : ℕ
  pub start : ℕ
  pub below : Ptr

module _ (n : ℕ) where
  -- a block of n bytes that begins with a pointer
  abbrev pub linked : Link → Fml
  linked l = fsep (fat full_share ty_ptr l.block l.start (ptr_val l.below)) (fwand (froom ty_ptr l.block l.start) (froom (units_of n) l.block l.start))

  -- k such blocks, each of which points to the next, and p to the first
  abbrev pub piled : ℕ → Ptr → Fml
  piled zero p = ftrue
  piled (suc k) p = fex Link (λ l. fex (p ≡ block_ptr l.block l.start) (λ _. fsep (linked l) (piled k l.below)))
