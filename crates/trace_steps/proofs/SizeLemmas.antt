-- How many bytes an access has.
use Rattle.std.proofs.Common.{inl, inr, refl, IfSome}
use Rattle.isa_table.specs.declared.instr.Instr.{Instr}
use Rattle.isa_table.specs.declared.instr.Instr.TheVariants.{Load, Store, LoadReserved, StoreConditional, Amo}
use Rattle.isa_table.specs.declared.mnemonic.LoadOp.{LoadOp}
use Rattle.isa_table.specs.declared.mnemonic.LoadOp.TheVariants.{Lb, Lh, Lw, Lbu, Lhu}
use Rattle.isa_table.specs.declared.mnemonic.StoreOp.{StoreOp}
use Rattle.isa_table.specs.declared.mnemonic.StoreOp.TheVariants.{Sb, Sh, Sw}
use Rattle.hart_step.specs.Hart.{Registers}
use Rattle.hart_step.specs.Values.{load_size, store_size}
use Rattle.hart_step.specs.Locality.{access_by}
use Rattle.trace_steps.specs.Bytes.{IsSize}

size_of_load : (op : LoadOp) → IsSize (load_size op)
size_of_load Lb = inl refl
size_of_load Lh = inr (inl refl)
size_of_load Lw = inr (inr refl)
size_of_load Lbu = inl refl
size_of_load Lhu = inr (inl refl)

size_of_store : (op : StoreOp) → IsSize (store_size op)
size_of_store Sb = inl refl
size_of_store Sh = inr (inl refl)
size_of_store Sw = inr (inr refl)

pub size_of_access : (i : Instr) (x : Registers) → IfSome (access_by i x) (λ a. IsSize a.size)
size_of_access (Load op rd rs1 imm) x = size_of_load op
size_of_access (Store op rs1 rs2 imm) x = size_of_store op
size_of_access (LoadReserved aq rl rd rs1) x = inr (inr refl)
size_of_access (StoreConditional aq rl rd rs1 rs2) x = inr (inr refl)
size_of_access (Amo op aq rl rd rs1 rs2) x = inr (inr refl)
size_of_access i x = tt
