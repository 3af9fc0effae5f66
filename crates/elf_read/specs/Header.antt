-- The checks of the header alone.
use Rattle.std.specs.Prelude.{ℕ, ◌%◌, Bool, not, ◌&&◌, ◌||◌, ◌==◌, nat_lt, List, length, slice_index, Option, None}
use Rattle.image.specs.Fault.{fault_if}
use Rattle.elf_read.specs.Number.{word_at, half_at}
use Rattle.elf_read.specs.Codes.{MAGIC, EI_CLASS, EI_DATA, EI_VERSION, ELFCLASS32, ELFDATA2LSB, EV_CURRENT}
use Rattle.elf_read.specs.Codes.{E_TYPE, E_MACHINE, E_VERSION, E_FLAGS, E_EHSIZE, E_PHENTSIZE, E_PHNUM}
use Rattle.elf_read.specs.Codes.{ET_EXEC, EM_RISCV, EF_RISCV_RVC, PN_XNUM, HEADER_SIZE, PROGRAM_HEADER_SIZE}
use Rattle.image.specs.declared.fault.ElfFault.{ElfFault}
use Rattle.image.specs.declared.fault.ElfFault.TheVariants as faults

-- whether one of the two versions is not 1
abbrev pub is_other_version : List ℕ → Bool
is_other_version bytes =
    not (slice_index bytes EI_VERSION == EV_CURRENT) || not (word_at bytes E_VERSION == EV_CURRENT)

-- whether the size of a header is invalid, or the count of program headers is stored elsewhere
abbrev pub is_wrong_size : List ℕ → Bool
is_wrong_size bytes =
    not (half_at bytes E_EHSIZE == HEADER_SIZE)
    || (not (half_at bytes E_PHNUM == 0) && not (half_at bytes E_PHENTSIZE == PROGRAM_HEADER_SIZE))
    || half_at bytes E_PHNUM == PN_XNUM

-- the first check of the header that a file fails
unfoldable pub header_fault : List ℕ → Option ElfFault
header_fault bytes =
    fault_if (nat_lt (length bytes) HEADER_SIZE) faults.Short (
    fault_if (not (word_at bytes 0 == MAGIC)) faults.Magic (
    fault_if (not (slice_index bytes EI_CLASS == ELFCLASS32)) faults.Class (
    fault_if (not (slice_index bytes EI_DATA == ELFDATA2LSB)) faults.Encoding (
    fault_if (is_other_version bytes) faults.Version (
    fault_if (not (half_at bytes E_TYPE == ET_EXEC)) faults.FileType (
    fault_if (not (half_at bytes E_MACHINE == EM_RISCV)) faults.Machine (
    fault_if (word_at bytes E_FLAGS % 2 == EF_RISCV_RVC) faults.Compressed (
    fault_if (is_wrong_size bytes) faults.HeaderSize
    None))))))))
