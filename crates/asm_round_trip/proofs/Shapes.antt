-- Each shape of a canonical line reads back as its statement.
use Rattle.std.proofs.Common.{◌≡◌, ℕ, suc, ◌+◌, ◌%◌, ◌^◌, ◌<◌, Bool, false, [], ◌∷◌, ◌++◌, refl, arith, append_assoc}
use Rattle.std.specs.Prelude.{ℤ, pos, negsuc, codes}
use Rattle.std.specs.Fmt.{digits, decimal}
use Rattle.std.specs.Int.{w32, to_le_bytes}
use Rattle.isa_table.specs.Names.{name_of}
use Rattle.isa_table.specs.Ranges.{IsSignedWord}
use Rattle.isa_table.specs.Spells.{word_of}
use Rattle.isa_table.specs.declared.instr.Instr.TheVariants as i
use Rattle.isa_table.specs.declared.mnemonic.Mnemonic.TheVariants as m
use Rattle.isa_table.specs.declared.mnemonic.AmoOp.{AmoOp}
use Rattle.isa_table.specs.declared.mnemonic.BranchOp.{BranchOp}
use Rattle.isa_table.specs.declared.mnemonic.ImmediateOp.{ImmediateOp}
use Rattle.isa_table.specs.declared.mnemonic.LoadOp.{LoadOp}
use Rattle.isa_table.specs.declared.mnemonic.RegisterOp.{RegisterOp}
use Rattle.isa_table.specs.declared.mnemonic.ShiftOp.{ShiftOp}
use Rattle.isa_table.specs.declared.mnemonic.StoreOp.{StoreOp}
use Rattle.isa_names.specs.Digits.{word_text, byte_text}
use Rattle.isa_names.specs.Names.{abi, set_name}
use Rattle.isa_disasm.specs.Lines.{upper_line, jump_line, branch_line, memory_line, immediate_line, shift_line, register_line, suffix, reserved_line, atomic_line, sets_line, word_line}
use Rattle.asm_statement.specs.Statements.{statement_from, source_from, labels_from, label_of, body, headed}
use Rattle.asm_statement.specs.Operations.{instruction, fixed, two_registers, three_registers, register_and, registers_and, register_and_memory, two_with_last, three_with_last, jal, jalr, fence, without_operands}
use Rattle.asm_statement.specs.Shapes.{name_in_front, two_names_in_front, name, number_in_front, value_in_front, immediate_in_front, number, value, immediate, upper, target, base, with_base, memory, address}
use Rattle.asm_statement.specs.Directives.{directive, each, parts_from}
use Rattle.asm_statement.specs.declared.operand.Immediate.TheVariants as immediates
use Rattle.asm_statement.specs.declared.operand.Target.TheVariants as targets
use Rattle.asm_statement.specs.declared.operand.Upper.TheVariants as uppers
use Rattle.asm_statement.specs.declared.operand.Value.TheVariants as values
use Rattle.asm_statement.specs.declared.statement.Body.TheVariants as bodies
use Rattle.asm_statement.specs.declared.statement.Directive.TheVariants as directives
use Rattle.asm_statement.specs.declared.statement.Instruction.TheVariants as read
use Rattle.asm_assemble.specs.Instructions.{placed_instr}
use Rattle.asm_assemble.specs.Operands.{immediate_of, upper_of}
use Rattle.asm_round_trip.proofs.Atoms.{Name, Numeral, Sign, Gap, IsSignByte, IsNumber}
use Rattle.asm_round_trip.proofs.Digits.{hexadecimal}
use Rattle.asm_round_trip.proofs.Numerals.{is_read_back}
use Rattle.asm_round_trip.proofs.Found.{NamesRegister, NamesSet, mnemonic_head, reserved_head, conditional_head, amo_head, tso_head, word_head, byte_head}
use Rattle.asm_round_trip.proofs.Signs.{IsPrinted, upper_number, amount_number, target_back}
use Rattle.asm_round_trip.proofs.Stands.{instruction_stands, word_stands, byte_stands}
use Rattle.asm_round_trip.proofs.Back.{IsBack}

comma : IsSignByte 44
comma = record { printable = refl; no_name = refl; no_quote = refl; no_hash = refl }

opens : IsSignByte 40
opens = record { printable = refl; no_name = refl; no_quote = refl; no_hash = refl }

closes : IsSignByte 41
closes = record { printable = refl; no_name = refl; no_quote = refl; no_hash = refl }

minus : IsSignByte 45
minus = record { printable = refl; no_name = refl; no_quote = refl; no_hash = refl }

in_decimal : (n : ℕ) → n < 2 ^ 32 → IsNumber n (decimal n)
in_decimal n lt = (is_read_back n lt).in_decimal

as_digits : (n : ℕ) → n < 2 ^ 32 → IsNumber n (hexadecimal (digits 16 false n))
as_digits n lt = (is_read_back n lt).in_hexadecimal

as_word : (n : ℕ) → n < 2 ^ 32 → IsNumber n (hexadecimal (word_text n))
as_word n lt = (is_read_back n lt).as_word

as_byte : (n : ℕ) → n < 2 ^ 8 → IsNumber n (hexadecimal (byte_text n))
as_byte n lt = (is_read_back n (omega arith)).as_byte lt

pub registers_back : (at : ℕ) (op : RegisterOp) (a b c : ℕ) → at % 4 ≡ 0 → NamesRegister a → NamesRegister b → NamesRegister c
    → IsBack at (register_line (name_of (m.Register op)) a b c) (to_le_bytes w32 (word_of (i.Register op a b c)))
unfolding source_from statement_from labels_from label_of body headed instruction fixed three_with_last three_registers two_registers two_names_in_front name placed_instr
registers_back at op a b c aligned ra rb rc = record {
  atoms = Name (name_of (m.Register op)) ∷ Gap ∷ Name (abi a) ∷ Sign 44 ∷ Gap ∷ Name (abi b) ∷ Sign 44 ∷ Gap ∷ Name (abi c) ∷ [];
  shows = λ rest. simp append_assoc;
  apart = λ rest stops. ((mnemonic_head (m.Register op)).word, refl, (ra.word, refl, (comma, (rb.word, refl, (comma, (rc.word, stops, tt))))));
  one_line = λ place done more. refl;
  body = bodies.Instruction (read.Fixed (i.Register op a b c));
  says = λ source line done. rw ((mnemonic_head (m.Register op)).is, ra.is, rb.is, rc.is) refl;
  stands = instruction_stands at (read.Fixed (i.Register op a b c)) (i.Register op a b c) aligned (λ symbols local. refl);
}

pub immediate_back : (at : ℕ) (op : ImmediateOp) (a b imm : ℕ) (z : ℤ) → at % 4 ≡ 0 → NamesRegister a → NamesRegister b → IsPrinted imm z
    → IsBack at (immediate_line (name_of (m.Immediate op)) a b z) (to_le_bytes w32 (word_of (i.Immediate op a b imm)))
unfolding source_from statement_from labels_from label_of body headed instruction registers_and two_registers two_names_in_front immediate immediate_in_front number_in_front placed_instr immediate_of
immediate_back at op a b imm (pos k) aligned ra rb p = record {
  atoms = Name (name_of (m.Immediate op)) ∷ Gap ∷ Name (abi a) ∷ Sign 44 ∷ Gap ∷ Name (abi b) ∷ Sign 44 ∷ Gap ∷ Numeral k (decimal k) ∷ [];
  shows = λ rest. simp append_assoc;
  apart = λ rest stops. ((mnemonic_head (m.Immediate op)).word, refl, (ra.word, refl, (comma, (rb.word, refl, (comma, (in_decimal k (omega (arith, p.small)), stops, tt))))));
  one_line = λ place done more. refl;
  body = bodies.Instruction (read.Immediate op a b (immediates.Number (pos k)));
  says = λ source line done. rw ((mnemonic_head (m.Immediate op)).is, ra.is, rb.is) refl;
  stands = instruction_stands at (read.Immediate op a b (immediates.Number (pos k))) (i.Immediate op a b imm) aligned (λ symbols local. rw p.same refl);
}
immediate_back at op a b imm (negsuc k) aligned ra rb p = record {
  atoms = Name (name_of (m.Immediate op)) ∷ Gap ∷ Name (abi a) ∷ Sign 44 ∷ Gap ∷ Name (abi b) ∷ Sign 44 ∷ Gap ∷ Sign 45 ∷ Numeral (suc k) (decimal (suc k)) ∷ [];
  shows = λ rest. simp append_assoc;
  apart = λ rest stops. ((mnemonic_head (m.Immediate op)).word, refl, (ra.word, refl, (comma, (rb.word, refl, (comma, (minus, (in_decimal (suc k) (omega (arith, p.small)), stops, tt)))))));
  one_line = λ place done more. refl;
  body = bodies.Instruction (read.Immediate op a b (immediates.Number (negsuc k)));
  says = λ source line done. rw ((mnemonic_head (m.Immediate op)).is, ra.is, rb.is) refl;
  stands = instruction_stands at (read.Immediate op a b (immediates.Number (negsuc k))) (i.Immediate op a b imm) aligned (λ symbols local. rw p.same refl);
}

pub load_back : (at : ℕ) (op : LoadOp) (a b imm : ℕ) (z : ℤ) → at % 4 ≡ 0 → NamesRegister a → NamesRegister b → IsPrinted imm z
    → IsBack at (memory_line (name_of (m.Load op)) a z b) (to_le_bytes w32 (word_of (i.Load op a b imm)))
unfolding source_from statement_from labels_from label_of body headed instruction register_and_memory two_registers name_in_front memory with_base base immediate_in_front number_in_front placed_instr immediate_of
load_back at op a b imm (pos k) aligned ra rb p = record {
  atoms = Name (name_of (m.Load op)) ∷ Gap ∷ Name (abi a) ∷ Sign 44 ∷ Gap ∷ Numeral k (decimal k) ∷ Sign 40 ∷ Name (abi b) ∷ Sign 41 ∷ [];
  shows = λ rest. simp append_assoc;
  apart = λ rest stops. ((mnemonic_head (m.Load op)).word, refl, (ra.word, refl, (comma, (in_decimal k (omega (arith, p.small)), refl, (opens, (rb.word, refl, (closes, tt)))))));
  one_line = λ place done more. refl;
  body = bodies.Instruction (read.Load op a b (immediates.Number (pos k)));
  says = λ source line done. rw ((mnemonic_head (m.Load op)).is, ra.is, rb.is) refl;
  stands = instruction_stands at (read.Load op a b (immediates.Number (pos k))) (i.Load op a b imm) aligned (λ symbols local. rw p.same refl);
}
load_back at op a b imm (negsuc k) aligned ra rb p = record {
  atoms = Name (name_of (m.Load op)) ∷ Gap ∷ Name (abi a) ∷ Sign 44 ∷ Gap ∷ Sign 45 ∷ Numeral (suc k) (decimal (suc k)) ∷ Sign 40 ∷ Name (abi b) ∷ Sign 41 ∷ [];
  shows = λ rest. simp append_assoc;
  apart = λ rest stops. ((mnemonic_head (m.Load op)).word, refl, (ra.word, refl, (comma, (minus, (in_decimal (suc k) (omega (arith, p.small)), refl, (opens, (rb.word, refl, (closes, tt))))))));
  one_line = λ place done more. refl;
  body = bodies.Instruction (read.Load op a b (immediates.Number (negsuc k)));
  says = λ source line done. rw ((mnemonic_head (m.Load op)).is, ra.is, rb.is) refl;
  stands = instruction_stands at (read.Load op a b (immediates.Number (negsuc k))) (i.Load op a b imm) aligned (λ symbols local. rw p.same refl);
}

pub store_back : (at : ℕ) (op : StoreOp) (a b imm : ℕ) (z : ℤ) → at % 4 ≡ 0 → NamesRegister a → NamesRegister b → IsPrinted imm z
    → IsBack at (memory_line (name_of (m.Store op)) b z a) (to_le_bytes w32 (word_of (i.Store op a b imm)))
unfolding source_from statement_from labels_from label_of body headed instruction register_and_memory two_registers name_in_front memory with_base base immediate_in_front number_in_front placed_instr immediate_of
store_back at op a b imm (pos k) aligned ra rb p = record {
  atoms = Name (name_of (m.Store op)) ∷ Gap ∷ Name (abi b) ∷ Sign 44 ∷ Gap ∷ Numeral k (decimal k) ∷ Sign 40 ∷ Name (abi a) ∷ Sign 41 ∷ [];
  shows = λ rest. simp append_assoc;
  apart = λ rest stops. ((mnemonic_head (m.Store op)).word, refl, (rb.word, refl, (comma, (in_decimal k (omega (arith, p.small)), refl, (opens, (ra.word, refl, (closes, tt)))))));
  one_line = λ place done more. refl;
  body = bodies.Instruction (read.Store op a b (immediates.Number (pos k)));
  says = λ source line done. rw ((mnemonic_head (m.Store op)).is, rb.is, ra.is) refl;
  stands = instruction_stands at (read.Store op a b (immediates.Number (pos k))) (i.Store op a b imm) aligned (λ symbols local. rw p.same refl);
}
store_back at op a b imm (negsuc k) aligned ra rb p = record {
  atoms = Name (name_of (m.Store op)) ∷ Gap ∷ Name (abi b) ∷ Sign 44 ∷ Gap ∷ Sign 45 ∷ Numeral (suc k) (decimal (suc k)) ∷ Sign 40 ∷ Name (abi a) ∷ Sign 41 ∷ [];
  shows = λ rest. simp append_assoc;
  apart = λ rest stops. ((mnemonic_head (m.Store op)).word, refl, (rb.word, refl, (comma, (minus, (in_decimal (suc k) (omega (arith, p.small)), refl, (opens, (ra.word, refl, (closes, tt))))))));
  one_line = λ place done more. refl;
  body = bodies.Instruction (read.Store op a b (immediates.Number (negsuc k)));
  says = λ source line done. rw ((mnemonic_head (m.Store op)).is, rb.is, ra.is) refl;
  stands = instruction_stands at (read.Store op a b (immediates.Number (negsuc k))) (i.Store op a b imm) aligned (λ symbols local. rw p.same refl);
}

pub jalr_back : (at : ℕ) (a b imm : ℕ) (z : ℤ) → at % 4 ≡ 0 → NamesRegister a → NamesRegister b → IsPrinted imm z
    → IsBack at (memory_line (name_of m.Jalr) a z b) (to_le_bytes w32 (word_of (i.Jalr a b imm)))
unfolding source_from statement_from labels_from label_of body headed instruction jalr register_and_memory two_registers name_in_front two_names_in_front memory with_base base immediate_in_front number_in_front placed_instr immediate_of
jalr_back at a b imm (pos k) aligned ra rb p = record {
  atoms = Name (name_of m.Jalr) ∷ Gap ∷ Name (abi a) ∷ Sign 44 ∷ Gap ∷ Numeral k (decimal k) ∷ Sign 40 ∷ Name (abi b) ∷ Sign 41 ∷ [];
  shows = λ rest. simp append_assoc;
  apart = λ rest stops. ((mnemonic_head m.Jalr).word, refl, (ra.word, refl, (comma, (in_decimal k (omega (arith, p.small)), refl, (opens, (rb.word, refl, (closes, tt)))))));
  one_line = λ place done more. refl;
  body = bodies.Instruction (read.Jalr a b (immediates.Number (pos k)));
  says = λ source line done. rw ((mnemonic_head m.Jalr).is, ra.is, rb.is) refl;
  stands = instruction_stands at (read.Jalr a b (immediates.Number (pos k))) (i.Jalr a b imm) aligned (λ symbols local. rw p.same refl);
}
jalr_back at a b imm (negsuc k) aligned ra rb p = record {
  atoms = Name (name_of m.Jalr) ∷ Gap ∷ Name (abi a) ∷ Sign 44 ∷ Gap ∷ Sign 45 ∷ Numeral (suc k) (decimal (suc k)) ∷ Sign 40 ∷ Name (abi b) ∷ Sign 41 ∷ [];
  shows = λ rest. simp append_assoc;
  apart = λ rest stops. ((mnemonic_head m.Jalr).word, refl, (ra.word, refl, (comma, (minus, (in_decimal (suc k) (omega (arith, p.small)), refl, (opens, (rb.word, refl, (closes, tt))))))));
  one_line = λ place done more. refl;
  body = bodies.Instruction (read.Jalr a b (immediates.Number (negsuc k)));
  says = λ source line done. rw ((mnemonic_head m.Jalr).is, ra.is, rb.is) refl;
  stands = instruction_stands at (read.Jalr a b (immediates.Number (negsuc k))) (i.Jalr a b imm) aligned (λ symbols local. rw p.same refl);
}

pub shift_back : (at : ℕ) (op : ShiftOp) (a b k : ℕ) → at % 4 ≡ 0 → NamesRegister a → NamesRegister b → k < 2 ^ 5
    → IsBack at (shift_line (name_of (m.Shift op)) a b k) (to_le_bytes w32 (word_of (i.Shift op a b k)))
unfolding source_from statement_from labels_from label_of body headed instruction registers_and two_registers two_names_in_front number number_in_front placed_instr
shift_back at op a b k aligned ra rb lt = record {
  atoms = Name (name_of (m.Shift op)) ∷ Gap ∷ Name (abi a) ∷ Sign 44 ∷ Gap ∷ Name (abi b) ∷ Sign 44 ∷ Gap ∷ Numeral k (decimal k) ∷ [];
  shows = λ rest. simp append_assoc;
  apart = λ rest stops. ((mnemonic_head (m.Shift op)).word, refl, (ra.word, refl, (comma, (rb.word, refl, (comma, (in_decimal k (omega arith), stops, tt))))));
  one_line = λ place done more. refl;
  body = bodies.Instruction (read.Shift op a b (pos k));
  says = λ source line done. rw ((mnemonic_head (m.Shift op)).is, ra.is, rb.is) refl;
  stands = instruction_stands at (read.Shift op a b (pos k)) (i.Shift op a b k) aligned (λ symbols local. rw (amount_number k lt) refl);
}

pub lui_back : (at a k : ℕ) → at % 4 ≡ 0 → NamesRegister a → k < 2 ^ 20 → IsBack at (upper_line (name_of m.Lui) a k) (to_le_bytes w32 (word_of (i.Lui a k)))
unfolding source_from statement_from labels_from label_of body headed instruction register_and name_in_front upper number number_in_front placed_instr upper_of
lui_back at a k aligned ra lt = record {
  atoms = Name (name_of m.Lui) ∷ Gap ∷ Name (abi a) ∷ Sign 44 ∷ Gap ∷ Numeral k (hexadecimal (digits 16 false k)) ∷ [];
  shows = λ rest. simp append_assoc;
  apart = λ rest stops. ((mnemonic_head m.Lui).word, refl, (ra.word, refl, (comma, (as_digits k (omega arith), stops, tt))));
  one_line = λ place done more. refl;
  body = bodies.Instruction (read.Lui a (uppers.Number (pos k)));
  says = λ source line done. rw ((mnemonic_head m.Lui).is, ra.is) refl;
  stands = instruction_stands at (read.Lui a (uppers.Number (pos k))) (i.Lui a k) aligned (λ symbols local. rw (upper_number k lt) refl);
}

pub auipc_back : (at a k : ℕ) → at % 4 ≡ 0 → NamesRegister a → k < 2 ^ 20 → IsBack at (upper_line (name_of m.Auipc) a k) (to_le_bytes w32 (word_of (i.Auipc a k)))
unfolding source_from statement_from labels_from label_of body headed instruction register_and name_in_front upper number number_in_front placed_instr upper_of
auipc_back at a k aligned ra lt = record {
  atoms = Name (name_of m.Auipc) ∷ Gap ∷ Name (abi a) ∷ Sign 44 ∷ Gap ∷ Numeral k (hexadecimal (digits 16 false k)) ∷ [];
  shows = λ rest. simp append_assoc;
  apart = λ rest stops. ((mnemonic_head m.Auipc).word, refl, (ra.word, refl, (comma, (as_digits k (omega arith), stops, tt))));
  one_line = λ place done more. refl;
  body = bodies.Instruction (read.Auipc a (uppers.Number (pos k)));
  says = λ source line done. rw ((mnemonic_head m.Auipc).is, ra.is) refl;
  stands = instruction_stands at (read.Auipc a (uppers.Number (pos k))) (i.Auipc a k) aligned (λ symbols local. rw (upper_number k lt) refl);
}

pub branch_back : (at : ℕ) (op : BranchOp) (a b offset : ℕ) → at % 4 ≡ 0 → NamesRegister a → NamesRegister b → at < 2 ^ 32 → offset < 2 ^ 32 → IsSignedWord 13 offset → offset % 2 ≡ 0
    → IsBack at (branch_line (name_of (m.Branch op)) a b ((at + offset) % 2 ^ 32)) (to_le_bytes w32 (word_of (i.Branch op a b offset)))
unfolding source_from statement_from labels_from label_of body headed instruction registers_and two_registers two_names_in_front target number number_in_front placed_instr
branch_back at op a b offset aligned ra rb lt o signed even = record {
  atoms = Name (name_of (m.Branch op)) ∷ Gap ∷ Name (abi a) ∷ Sign 44 ∷ Gap ∷ Name (abi b) ∷ Sign 44 ∷ Gap ∷ Numeral ((at + offset) % 2 ^ 32) (hexadecimal (word_text ((at + offset) % 2 ^ 32))) ∷ [];
  shows = λ rest. simp append_assoc;
  apart = λ rest stops. ((mnemonic_head (m.Branch op)).word, refl, (ra.word, refl, (comma, (rb.word, refl, (comma, (as_word ((at + offset) % 2 ^ 32) (omega arith), stops, tt))))));
  one_line = λ place done more. refl;
  body = bodies.Instruction (read.Branch op a b (targets.Address (pos ((at + offset) % 2 ^ 32))));
  says = λ source line done. rw ((mnemonic_head (m.Branch op)).is, ra.is, rb.is) refl;
  stands = instruction_stands at (read.Branch op a b (targets.Address (pos ((at + offset) % 2 ^ 32)))) (i.Branch op a b offset) aligned (λ symbols local. rw (target_back 13 at offset lt o signed even symbols local) refl);
}

pub jal_back : (at a offset : ℕ) → at % 4 ≡ 0 → NamesRegister a → at < 2 ^ 32 → offset < 2 ^ 32 → IsSignedWord 21 offset → offset % 2 ≡ 0
    → IsBack at (jump_line a ((at + offset) % 2 ^ 32)) (to_le_bytes w32 (word_of (i.Jal a offset)))
unfolding source_from statement_from labels_from label_of body headed instruction jal register_and name_in_front target number number_in_front placed_instr
jal_back at a offset aligned ra lt o signed even = record {
  atoms = Name (name_of m.Jal) ∷ Gap ∷ Name (abi a) ∷ Sign 44 ∷ Gap ∷ Numeral ((at + offset) % 2 ^ 32) (hexadecimal (word_text ((at + offset) % 2 ^ 32))) ∷ [];
  shows = λ rest. simp append_assoc;
  apart = λ rest stops. ((mnemonic_head m.Jal).word, refl, (ra.word, refl, (comma, (as_word ((at + offset) % 2 ^ 32) (omega arith), stops, tt))));
  one_line = λ place done more. refl;
  body = bodies.Instruction (read.Jal a (targets.Address (pos ((at + offset) % 2 ^ 32))));
  says = λ source line done. rw ((mnemonic_head m.Jal).is, ra.is) refl;
  stands = instruction_stands at (read.Jal a (targets.Address (pos ((at + offset) % 2 ^ 32)))) (i.Jal a offset) aligned (λ symbols local. rw (target_back 21 at offset lt o signed even symbols local) refl);
}

pub reserved_back : (at : ℕ) (aq rl : Bool) (a b : ℕ) → at % 4 ≡ 0 → NamesRegister a → NamesRegister b
    → IsBack at (reserved_line aq rl a b) (to_le_bytes w32 (word_of (i.LoadReserved aq rl a b)))
unfolding source_from statement_from labels_from label_of body headed instruction fixed two_with_last two_registers name_in_front address memory with_base base placed_instr
reserved_back at aq rl a b aligned ra rb = record {
  atoms = Name (name_of m.LoadReserved ++ suffix aq rl) ∷ Gap ∷ Name (abi a) ∷ Sign 44 ∷ Gap ∷ Sign 40 ∷ Name (abi b) ∷ Sign 41 ∷ [];
  shows = λ rest. simp append_assoc;
  apart = λ rest stops. ((reserved_head aq rl).word, refl, (ra.word, refl, (comma, (opens, (rb.word, refl, (closes, tt))))));
  one_line = λ place done more. refl;
  body = bodies.Instruction (read.Fixed (i.LoadReserved aq rl a b));
  says = λ source line done. rw ((reserved_head aq rl).is, ra.is, rb.is) refl;
  stands = instruction_stands at (read.Fixed (i.LoadReserved aq rl a b)) (i.LoadReserved aq rl a b) aligned (λ symbols local. refl);
}

pub conditional_back : (at : ℕ) (aq rl : Bool) (a b c : ℕ) → at % 4 ≡ 0 → NamesRegister a → NamesRegister b → NamesRegister c
    → IsBack at (atomic_line (name_of m.StoreConditional) aq rl a b c) (to_le_bytes w32 (word_of (i.StoreConditional aq rl a c b)))
unfolding source_from statement_from labels_from label_of body headed instruction fixed three_with_last three_registers two_registers two_names_in_front address memory with_base base placed_instr
conditional_back at aq rl a b c aligned ra rb rc = record {
  atoms = Name (name_of m.StoreConditional ++ suffix aq rl) ∷ Gap ∷ Name (abi a) ∷ Sign 44 ∷ Gap ∷ Name (abi b) ∷ Sign 44 ∷ Gap ∷ Sign 40 ∷ Name (abi c) ∷ Sign 41 ∷ [];
  shows = λ rest. simp append_assoc;
  apart = λ rest stops. ((conditional_head aq rl).word, refl, (ra.word, refl, (comma, (rb.word, refl, (comma, (opens, (rc.word, refl, (closes, tt))))))));
  one_line = λ place done more. refl;
  body = bodies.Instruction (read.Fixed (i.StoreConditional aq rl a c b));
  says = λ source line done. rw ((conditional_head aq rl).is, ra.is, rb.is, rc.is) refl;
  stands = instruction_stands at (read.Fixed (i.StoreConditional aq rl a c b)) (i.StoreConditional aq rl a c b) aligned (λ symbols local. refl);
}

pub amo_back : (at : ℕ) (op : AmoOp) (aq rl : Bool) (a b c : ℕ) → at % 4 ≡ 0 → NamesRegister a → NamesRegister b → NamesRegister c
    → IsBack at (atomic_line (name_of (m.Amo op)) aq rl a b c) (to_le_bytes w32 (word_of (i.Amo op aq rl a c b)))
unfolding source_from statement_from labels_from label_of body headed instruction fixed three_with_last three_registers two_registers two_names_in_front address memory with_base base placed_instr
amo_back at op aq rl a b c aligned ra rb rc = record {
  atoms = Name (name_of (m.Amo op) ++ suffix aq rl) ∷ Gap ∷ Name (abi a) ∷ Sign 44 ∷ Gap ∷ Name (abi b) ∷ Sign 44 ∷ Gap ∷ Sign 40 ∷ Name (abi c) ∷ Sign 41 ∷ [];
  shows = λ rest. simp append_assoc;
  apart = λ rest stops. ((amo_head op aq rl).word, refl, (ra.word, refl, (comma, (rb.word, refl, (comma, (opens, (rc.word, refl, (closes, tt))))))));
  one_line = λ place done more. refl;
  body = bodies.Instruction (read.Fixed (i.Amo op aq rl a c b));
  says = λ source line done. rw ((amo_head op aq rl).is, ra.is, rb.is, rc.is) refl;
  stands = instruction_stands at (read.Fixed (i.Amo op aq rl a c b)) (i.Amo op aq rl a c b) aligned (λ symbols local. refl);
}

pub sets_back : (at a b : ℕ) → at % 4 ≡ 0 → NamesSet a → NamesSet b → IsBack at (sets_line a b) (to_le_bytes w32 (word_of (i.Fence 0 a b 0 0)))
unfolding source_from statement_from labels_from label_of body headed instruction fixed fence placed_instr
sets_back at a b aligned sa sb = record {
  atoms = Name (name_of m.Fence) ∷ Gap ∷ Name (set_name a) ∷ Sign 44 ∷ Gap ∷ Name (set_name b) ∷ [];
  shows = λ rest. simp append_assoc;
  apart = λ rest stops. ((mnemonic_head m.Fence).word, refl, (sa.word, refl, (comma, (sb.word, stops, tt))));
  one_line = λ place done more. refl;
  body = bodies.Instruction (read.Fixed (i.Fence 0 a b 0 0));
  says = λ source line done. rw ((mnemonic_head m.Fence).is, sa.is, sb.is) refl;
  stands = instruction_stands at (read.Fixed (i.Fence 0 a b 0 0)) (i.Fence 0 a b 0 0) aligned (λ symbols local. refl);
}

pub tso_back : (at : ℕ) → at % 4 ≡ 0 → IsBack at (codes "fence.tso") (to_le_bytes w32 (word_of (i.Fence 8 3 3 0 0)))
unfolding source_from statement_from labels_from label_of body headed instruction fixed without_operands placed_instr
tso_back at aligned = record {
  atoms = Name (codes "fence.tso") ∷ [];
  shows = λ rest. refl;
  apart = λ rest stops. (tso_head.word, stops, tt);
  one_line = λ place done more. refl;
  body = bodies.Instruction (read.Fixed (i.Fence 8 3 3 0 0));
  says = λ source line done. rw (tso_head.is) refl;
  stands = instruction_stands at (read.Fixed (i.Fence 8 3 3 0 0)) (i.Fence 8 3 3 0 0) aligned (λ symbols local. refl);
}

pub ecall_back : (at : ℕ) → at % 4 ≡ 0 → IsBack at (codes "ecall") (to_le_bytes w32 (word_of (i.Ecall)))
unfolding source_from statement_from labels_from label_of body headed instruction fixed without_operands placed_instr
ecall_back at aligned = record {
  atoms = Name (codes "ecall") ∷ [];
  shows = λ rest. refl;
  apart = λ rest stops. ((mnemonic_head m.Ecall).word, stops, tt);
  one_line = λ place done more. refl;
  body = bodies.Instruction (read.Fixed (i.Ecall));
  says = λ source line done. rw ((mnemonic_head m.Ecall).is) refl;
  stands = instruction_stands at (read.Fixed (i.Ecall)) (i.Ecall) aligned (λ symbols local. refl);
}

pub ebreak_back : (at : ℕ) → at % 4 ≡ 0 → IsBack at (codes "ebreak") (to_le_bytes w32 (word_of (i.Ebreak)))
unfolding source_from statement_from labels_from label_of body headed instruction fixed without_operands placed_instr
ebreak_back at aligned = record {
  atoms = Name (codes "ebreak") ∷ [];
  shows = λ rest. refl;
  apart = λ rest stops. ((mnemonic_head m.Ebreak).word, stops, tt);
  one_line = λ place done more. refl;
  body = bodies.Instruction (read.Fixed (i.Ebreak));
  says = λ source line done. rw ((mnemonic_head m.Ebreak).is) refl;
  stands = instruction_stands at (read.Fixed (i.Ebreak)) (i.Ebreak) aligned (λ symbols local. refl);
}

pub word_back : (at word : ℕ) → word < 2 ^ 32 → IsBack at (word_line word) (to_le_bytes w32 word)
unfolding source_from statement_from labels_from label_of body headed instruction directive each parts_from value value_in_front number_in_front
word_back at word lt = record {
  atoms = Name (codes ".word") ∷ Gap ∷ Numeral word (hexadecimal (word_text word)) ∷ [];
  shows = λ rest. simp append_assoc;
  apart = λ rest stops. (word_head.word, refl, (as_word word lt, stops, tt));
  one_line = λ place done more. refl;
  body = bodies.Directive (directives.Words (values.Number (pos word) ∷ []));
  says = λ source line done. rw (word_head.is) refl;
  stands = word_stands at word lt;
}

pub byte_back : (at byte : ℕ) → byte < 2 ^ 8 → IsBack at (codes ".byte 0x" ++ byte_text byte) (byte ∷ [])
unfolding source_from statement_from labels_from label_of body headed instruction directive each parts_from number number_in_front
byte_back at byte lt = record {
  atoms = Name (codes ".byte") ∷ Gap ∷ Numeral byte (hexadecimal (byte_text byte)) ∷ [];
  shows = λ rest. simp append_assoc;
  apart = λ rest stops. (byte_head.word, refl, (as_byte byte lt, stops, tt));
  one_line = λ place done more. refl;
  body = bodies.Directive (directives.Bytes (pos byte ∷ []));
  says = λ source line done. rw (byte_head.is) refl;
  stands = byte_stands at byte lt;
}
