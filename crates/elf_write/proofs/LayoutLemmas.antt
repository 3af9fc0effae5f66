-- the sizes of a program's parts
use Rattle.std.proofs.Common.{◌+◌, ◌-◌, ◌*◌, ◌/◌, ◌^◌, ◌≤◌, eqb, length, arith, inl, inr}
use Rattle.std.proofs.lemmas.Bool.{cases_Bool}
use Rattle.asm_assemble.specs.Program.{ProgramValue, IsWithinLimit, round_up, segment_size}
use Rattle.elf_write.specs.Layout.{data_distance, data_size, header_count}

-- what bounds the sizes of a program's parts
pub record Bounds (p : ProgramValue) : Type 0 where
  pub given : length p.bytes ≤ data_size p
  pub small : length p.text + data_size p ≤ 2 ^ 24
  pub behind : length p.text ≤ data_distance p
  pub near : data_distance p ≤ 2 ^ 24 + 4096

pub bounds : (p : ProgramValue) → IsWithinLimit p.text p.bytes p.zeros → Bounds p
unfolding data_distance data_size segment_size round_up
bounds p within = record {
  given = elim (cases_Bool (eqb p.zeros 0)) [ inl e ↦ rw e (omega arith) | inr e ↦ rw e (omega arith) ];
  small = within;
  behind = omega arith;
  near = elim (cases_Bool (eqb p.zeros 0)) [ inl e ↦ (let h : length p.text + length p.bytes ≤ 2 ^ 24 = rw e at within in omega arith) | inr e ↦ (let h : length p.text + ((length p.bytes + (4 - 1)) / 4 * 4 + p.zeros) ≤ 2 ^ 24 = rw e at within in omega arith) ];
}

-- there are two program headers at most
pub few_headers : (p : ProgramValue) → header_count p ≤ 2
unfolding header_count
few_headers p = elim (cases_Bool (eqb (length p.text) 0)) [
  | inl no_text ↦ (elim (cases_Bool (eqb (data_size p) 0)) [ inl no_data ↦ rw (no_text, no_data) (omega arith) | inr full ↦ rw (no_text, full) (omega arith) ])
  | inr text ↦ (elim (cases_Bool (eqb (data_size p) 0)) [ inl no_data ↦ rw (text, no_data) (omega arith) | inr full ↦ rw (text, full) (omega arith) ])
]
