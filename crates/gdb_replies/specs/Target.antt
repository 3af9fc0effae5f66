-- The registers that GDB shall know: GDB's manual, "Target Descriptions", "RISC-V Features". Without
-- the operating system `none` GDB may take GNU/Linux, and step by breakpoints of its own.
use Rattle.std.specs.Prelude.{ℕ, ◌+◌, List, [], ◌∷◌, ◌++◌, codes, decimal}

-- a register's name, and what its value is to GDB
pub record Named : Type 0 where
  pub name : List ℕ
  pub kind : List ℕ

abbrev pub plain_register : List ℕ → Named
plain_register name = record { name = name; kind = [] }

abbrev pub data_pointer : List ℕ → Named
data_pointer name = record { name = name; kind = codes " type=\"data_ptr\"" }

abbrev pub code_pointer : List ℕ → Named
code_pointer name = record { name = name; kind = codes " type=\"code_ptr\"" }

-- x0 to x31 by their ABI names, with `fp` for x8, and pc
abbrev pub named_registers : List Named
named_registers =
    plain_register (codes "zero") ∷ code_pointer (codes "ra") ∷ data_pointer (codes "sp")
    ∷ data_pointer (codes "gp") ∷ data_pointer (codes "tp") ∷ plain_register (codes "t0")
    ∷ plain_register (codes "t1") ∷ plain_register (codes "t2") ∷ data_pointer (codes "fp")
    ∷ plain_register (codes "s1") ∷ plain_register (codes "a0") ∷ plain_register (codes "a1")
    ∷ plain_register (codes "a2") ∷ plain_register (codes "a3") ∷ plain_register (codes "a4")
    ∷ plain_register (codes "a5") ∷ plain_register (codes "a6") ∷ plain_register (codes "a7")
    ∷ plain_register (codes "s2") ∷ plain_register (codes "s3") ∷ plain_register (codes "s4")
    ∷ plain_register (codes "s5") ∷ plain_register (codes "s6") ∷ plain_register (codes "s7")
    ∷ plain_register (codes "s8") ∷ plain_register (codes "s9") ∷ plain_register (codes "s10")
    ∷ plain_register (codes "s11") ∷ plain_register (codes "t3") ∷ plain_register (codes "t4")
    ∷ plain_register (codes "t5") ∷ plain_register (codes "t6") ∷ code_pointer (codes "pc") ∷ []

-- a register of 32 bits by its number
abbrev pub register_element : ℕ → Named → List ℕ
register_element number r = codes "<reg name=\"" ++ (r.name
    ++ (codes "\" bitsize=\"32\" regnum=\"" ++ (decimal number
    ++ (codes "\"" ++ (r.kind ++ codes "/>")))))

-- registers that are numbered from a number on
abbrev pub register_elements : ℕ → List Named → List ℕ
register_elements number [] = []
register_elements number (r ∷ registers) =
    register_element number r ++ register_elements (number + 1) registers

-- the document `target.xml`
unfoldable pub target_text : List ℕ
target_text = codes "<?xml version=\"1.0\"?><!DOCTYPE target SYSTEM \"gdb-target.dtd\">"
    ++ (codes "<target version=\"1.0\"><architecture>riscv:rv32</architecture>"
    ++ (codes "<osabi>none</osabi><feature name=\"org.gnu.gdb.riscv.cpu\">"
    ++ (register_elements 0 named_registers ++ codes "</feature></target>")))
