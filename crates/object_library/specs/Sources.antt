-- The source of each object.
use Rattle.std.specs.Prelude.{ℕ, List, [], ◌∷◌, ◌++◌, codes}
use Rattle.object_library.specs.declared.kind.Kind.{Kind}
use Rattle.object_library.specs.declared.kind.Kind.TheVariants.{Swap, Add, LrSc, AdoptCommit, Rounds}

-- lines, each ended by LF
abbrev pub source_text : List (List ℕ) → List ℕ
source_text [] = []
source_text (line ∷ lines) = line ++ (10 ∷ source_text lines)

-- the race by one atomic instruction
abbrev pub race_lines : List ℕ → List (List ℕ)
race_lines instruction =
    codes ".globl _start" ∷
    codes "_start:" ∷
    codes "lui s0, 0x11" ∷
    codes "slli t0, a0, 2" ∷
    codes "add t0, t0, s0" ∷
    codes "sw a1, 4(t0)" ∷
    codes "addi t1, zero, 1" ∷
    instruction ∷
    codes "beq t2, zero, win" ∷
    codes "xori t0, a0, 1" ∷
    codes "slli t0, t0, 2" ∷
    codes "add t0, t0, s0" ∷
    codes "lw a1, 4(t0)" ∷
    codes "win:" ∷
    codes "addi a0, a1, 0" ∷
    codes "addi a1, zero, 1" ∷
    codes "addi a7, zero, 93" ∷
    codes "ecall" ∷
    codes ".bss" ∷
    codes ".zero 12" ∷
    []

-- the race by load-reserved and store-conditional
abbrev pub lrsc_lines : List (List ℕ)
lrsc_lines =
    codes ".globl _start" ∷
    codes "_start:" ∷
    codes "lui s0, 0x11" ∷
    codes "slli t0, a0, 2" ∷
    codes "add t0, t0, s0" ∷
    codes "sw a1, 4(t0)" ∷
    codes "addi t1, a0, 1" ∷
    codes "retry:" ∷
    codes "lr.w t2, (s0)" ∷
    codes "bne t2, zero, done" ∷
    codes "sc.w t3, t1, (s0)" ∷
    codes "bne t3, zero, retry" ∷
    codes "addi t2, t1, 0" ∷
    codes "done:" ∷
    codes "slli t2, t2, 2" ∷
    codes "add t2, t2, s0" ∷
    codes "lw a0, 0(t2)" ∷
    codes "addi a1, zero, 1" ∷
    codes "addi a7, zero, 93" ∷
    codes "ecall" ∷
    codes ".bss" ∷
    codes ".zero 132" ∷
    []

-- adopt-commit
abbrev pub adopt_commit_lines : List (List ℕ)
adopt_commit_lines =
    codes ".globl _start" ∷
    codes "_start:" ∷
    codes "lui s0, 0x11" ∷
    codes "slli s1, a0, 4" ∷
    codes "add s1, s1, s0" ∷
    codes "slli t1, a2, 4" ∷
    codes "add t1, t1, s0" ∷
    codes "addi s2, zero, 2" ∷
    codes "sw a1, 0(s1)" ∷
    codes "addi t2, zero, 1" ∷
    codes "sw t2, 4(s1)" ∷
    codes "addi t0, s0, 0" ∷
    codes "look:" ∷
    codes "lw t2, 4(t0)" ∷
    codes "beq t2, zero, next" ∷
    codes "lw t3, 0(t0)" ∷
    codes "beq t3, a1, next" ∷
    codes "addi s2, zero, 1" ∷
    codes "next:" ∷
    codes "addi t0, t0, 16" ∷
    codes "bne t0, t1, look" ∷
    codes "sw s2, 8(s1)" ∷
    codes "addi s3, zero, 1" ∷
    codes "addi s4, a1, 0" ∷
    codes "addi t0, s0, 0" ∷
    codes "addi t4, zero, 1" ∷
    codes "mark:" ∷
    codes "lw t2, 8(t0)" ∷
    codes "beq t2, zero, after" ∷
    codes "bne t2, t4, commit" ∷
    codes "addi s3, zero, 0" ∷
    codes "jal zero, after" ∷
    codes "commit:" ∷
    codes "lw s4, 0(t0)" ∷
    codes "after:" ∷
    codes "addi t0, t0, 16" ∷
    codes "bne t0, t1, mark" ∷
    codes "addi a0, s4, 0" ∷
    codes "addi a1, s3, 0" ∷
    codes "addi a7, zero, 93" ∷
    codes "ecall" ∷
    codes ".bss" ∷
    codes ".zero 512" ∷
    []

-- four adopt-commit objects in succession
abbrev pub rounds_lines : List (List ℕ)
rounds_lines =
    codes ".globl _start" ∷
    codes "_start:" ∷
    codes "lui s0, 0x11" ∷
    codes "addi s5, zero, 4" ∷
    codes "round:" ∷
    codes "slli s1, a0, 4" ∷
    codes "add s1, s1, s0" ∷
    codes "slli t1, a2, 4" ∷
    codes "add t1, t1, s0" ∷
    codes "addi s2, zero, 2" ∷
    codes "sw a1, 0(s1)" ∷
    codes "addi t2, zero, 1" ∷
    codes "sw t2, 4(s1)" ∷
    codes "addi t0, s0, 0" ∷
    codes "look:" ∷
    codes "lw t2, 4(t0)" ∷
    codes "beq t2, zero, next" ∷
    codes "lw t3, 0(t0)" ∷
    codes "beq t3, a1, next" ∷
    codes "addi s2, zero, 1" ∷
    codes "next:" ∷
    codes "addi t0, t0, 16" ∷
    codes "bne t0, t1, look" ∷
    codes "sw s2, 8(s1)" ∷
    codes "addi s3, zero, 1" ∷
    codes "addi s4, a1, 0" ∷
    codes "addi t0, s0, 0" ∷
    codes "addi t4, zero, 1" ∷
    codes "mark:" ∷
    codes "lw t2, 8(t0)" ∷
    codes "beq t2, zero, after" ∷
    codes "bne t2, t4, commit" ∷
    codes "addi s3, zero, 0" ∷
    codes "jal zero, after" ∷
    codes "commit:" ∷
    codes "lw s4, 0(t0)" ∷
    codes "after:" ∷
    codes "addi t0, t0, 16" ∷
    codes "bne t0, t1, mark" ∷
    codes "addi a1, s4, 0" ∷
    codes "bne s3, zero, out" ∷
    codes "addi s0, s0, 512" ∷
    codes "addi s5, s5, -1" ∷
    codes "bne s5, zero, round" ∷
    codes "out:" ∷
    codes "addi a0, a1, 0" ∷
    codes "addi a1, s3, 0" ∷
    codes "addi a7, zero, 93" ∷
    codes "ecall" ∷
    codes ".bss" ∷
    codes ".zero 2048" ∷
    []

-- the source of an object
abbrev pub source_of : Kind → List ℕ
source_of Swap = source_text (race_lines (codes "amoswap.w t2, t1, (s0)"))
source_of Add = source_text (race_lines (codes "amoadd.w t2, t1, (s0)"))
source_of LrSc = source_text lrsc_lines
source_of AdoptCommit = source_text adopt_commit_lines
source_of Rounds = source_text rounds_lines
