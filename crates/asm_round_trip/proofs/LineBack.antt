-- Each word's canonical line reads back as the word, at its address.
use Rattle.std.proofs.Common.{◌≡◌, ℕ, ◌%◌, ◌^◌, ◌<◌, Bool, true, false, List, Option, Some, None, refl, arith, inl, inr}
use Rattle.std.specs.Prelude.{codes}
use Rattle.std.specs.Int.{w32, to_le_bytes}
use Rattle.std.proofs.lemmas.Bool.Decides.{nat_tests}
use Rattle.isa_table.specs.Ranges.{IsSignedWord}
use Rattle.isa_table.specs.Signed.{signed_of}
use Rattle.isa_table.specs.Spells.{word_of, SpellsInstr}
use Rattle.isa_table.specs.Decoded.{decoded}
use Rattle.isa_table.proofs.Found.{decoded_iff_spells}
use Rattle.isa_table.specs.declared.instr.Instr.{Instr}
use Rattle.isa_table.specs.declared.instr.Instr.TheVariants as i
use Rattle.isa_disasm.specs.Lines.{sets_line, is_plain_fence, is_tso_fence, fence_line, instr_line, line_text}
use Rattle.asm_round_trip.proofs.Found.{register_found, set_found}
use Rattle.asm_round_trip.proofs.Signs.{printed}
use Rattle.asm_round_trip.proofs.Back.{IsBack}
use Rattle.asm_round_trip.proofs.Shapes.{registers_back, immediate_back, load_back, store_back, jalr_back, shift_back, lui_back, auipc_back, branch_back, jal_back, reserved_back, conditional_back, amo_back, sets_back, tso_back, ecall_back, ebreak_back, word_back}

-- the bytes are those of the instruction's word
as_spelled : (at : ℕ) (text : List ℕ) (word : ℕ) (instr : Instr) → word ≡ word_of instr → IsBack at text (to_le_bytes w32 (word_of instr)) → IsBack at text (to_le_bytes w32 word)
as_spelled at text word instr e back = rw e back

below_13 : (w : ℕ) → IsSignedWord 13 w → w < 2 ^ 32
below_13 w (inl h) = omega (arith, h)
below_13 w (inr h) = h.1

below_21 : (w : ℕ) → IsSignedWord 21 w → w < 2 ^ 32
below_21 w (inl h) = omega (arith, h)
below_21 w (inr h) = h.1

record IsPlain (mode pred next rs1 rd : ℕ) : Type 0 where
  plain : mode ≡ 0
  before : 0 < pred
  after : 0 < next
  no_source : rs1 ≡ 0
  no_result : rd ≡ 0

plain_facts : (mode pred next rs1 rd : ℕ) → is_plain_fence mode pred next rs1 rd ≡ true → IsPlain mode pred next rs1 rd
plain_facts mode pred next rs1 rd e = record {
  plain = grind (arith, nat_tests, e);
  before = grind (arith, nat_tests, e);
  after = grind (arith, nat_tests, e);
  no_source = grind (arith, nat_tests, e);
  no_result = grind (arith, nat_tests, e);
}

record IsTso (mode pred next rs1 rd : ℕ) : Type 0 where
  total : mode ≡ 8
  before : pred ≡ 3
  after : next ≡ 3
  no_source : rs1 ≡ 0
  no_result : rd ≡ 0

tso_facts : (mode pred next rs1 rd : ℕ) → is_tso_fence mode pred next rs1 rd ≡ true → IsTso mode pred next rs1 rd
tso_facts mode pred next rs1 rd e = record {
  total = grind (arith, nat_tests, e);
  before = grind (arith, nat_tests, e);
  after = grind (arith, nat_tests, e);
  no_source = grind (arith, nat_tests, e);
  no_result = grind (arith, nat_tests, e);
}

plain_back : (at mode pred next rs1 rd : ℕ) → at % 4 ≡ 0 → pred < 2 ^ 4 → next < 2 ^ 4 → IsPlain mode pred next rs1 rd
    → IsBack at (sets_line pred next) (to_le_bytes w32 (word_of (i.Fence mode pred next rs1 rd)))
plain_back at mode pred next rs1 rd aligned p n f = rw (f.plain, f.no_source, f.no_result) (sets_back at pred next aligned (set_found pred f.before p) (set_found next f.after n))

total_back : (at mode pred next rs1 rd : ℕ) → at % 4 ≡ 0 → IsTso mode pred next rs1 rd
    → IsBack at (codes "fence.tso") (to_le_bytes w32 (word_of (i.Fence mode pred next rs1 rd)))
total_back at mode pred next rs1 rd aligned f = rw (f.total, f.before, f.after, f.no_source, f.no_result) (tso_back at aligned)

fence_back : (at word mode pred next rs1 rd : ℕ) → at % 4 ≡ 0 → word < 2 ^ 32 → SpellsInstr word (i.Fence mode pred next rs1 rd) → (p q : Bool) → is_plain_fence mode pred next rs1 rd ≡ p → is_tso_fence mode pred next rs1 rd ≡ q
    → IsBack at (fence_line word mode pred next rs1 rd) (to_le_bytes w32 word)
fence_back at word mode pred next rs1 rd aligned lt s true q e f = rw e (as_spelled at _ word (i.Fence mode pred next rs1 rd) s.word_is (plain_back at mode pred next rs1 rd aligned s.in_range.1 s.in_range.2 (plain_facts mode pred next rs1 rd e)))
fence_back at word mode pred next rs1 rd aligned lt s false true e f = rw (e, f) (as_spelled at _ word (i.Fence mode pred next rs1 rd) s.word_is (total_back at mode pred next rs1 rd aligned (tso_facts mode pred next rs1 rd f)))
fence_back at word mode pred next rs1 rd aligned lt s false false e f = rw (e, f) (word_back at word lt)

instr_back : (at word : ℕ) (instr : Instr) → at % 4 ≡ 0 → at < 2 ^ 32 → word < 2 ^ 32 → SpellsInstr word instr → IsBack at (instr_line at word (Some instr)) (to_le_bytes w32 word)
instr_back at word (i.Lui d imm) z a w s = as_spelled at _ word (i.Lui d imm) s.word_is (lui_back at d imm z (register_found d s.in_range.0) s.in_range.1)
instr_back at word (i.Auipc d imm) z a w s = as_spelled at _ word (i.Auipc d imm) s.word_is (auipc_back at d imm z (register_found d s.in_range.0) s.in_range.1)
instr_back at word (i.Jal d offset) z a w s = as_spelled at _ word (i.Jal d offset) s.word_is (jal_back at d offset z (register_found d s.in_range.0) a (below_21 offset s.in_range.1) s.in_range.1 s.in_range.2)
instr_back at word (i.Jalr d r imm) z a w s = as_spelled at _ word (i.Jalr d r imm) s.word_is (jalr_back at d r imm (signed_of imm) z (register_found d s.in_range.0) (register_found r s.in_range.1) (printed imm s.in_range.2))
instr_back at word (i.Branch op x y offset) z a w s = as_spelled at _ word (i.Branch op x y offset) s.word_is (branch_back at op x y offset z (register_found x s.in_range.0) (register_found y s.in_range.1) a (below_13 offset s.in_range.2) s.in_range.2 s.in_range.3)
instr_back at word (i.Load op d r imm) z a w s = as_spelled at _ word (i.Load op d r imm) s.word_is (load_back at op d r imm (signed_of imm) z (register_found d s.in_range.0) (register_found r s.in_range.1) (printed imm s.in_range.2))
instr_back at word (i.Store op x y imm) z a w s = as_spelled at _ word (i.Store op x y imm) s.word_is (store_back at op x y imm (signed_of imm) z (register_found x s.in_range.0) (register_found y s.in_range.1) (printed imm s.in_range.2))
instr_back at word (i.Immediate op d r imm) z a w s = as_spelled at _ word (i.Immediate op d r imm) s.word_is (immediate_back at op d r imm (signed_of imm) z (register_found d s.in_range.0) (register_found r s.in_range.1) (printed imm s.in_range.2))
instr_back at word (i.Shift op d r k) z a w s = as_spelled at _ word (i.Shift op d r k) s.word_is (shift_back at op d r k z (register_found d s.in_range.0) (register_found r s.in_range.1) s.in_range.2)
instr_back at word (i.Register op d x y) z a w s = as_spelled at _ word (i.Register op d x y) s.word_is (registers_back at op d x y z (register_found d s.in_range.0) (register_found x s.in_range.1) (register_found y s.in_range.2))
instr_back at word (i.Fence mode pred next r d) z a w s = fence_back at word mode pred next r d z w s (is_plain_fence mode pred next r d) (is_tso_fence mode pred next r d) refl refl
instr_back at word i.Ecall z a w s = as_spelled at _ word i.Ecall s.word_is (ecall_back at z)
instr_back at word i.Ebreak z a w s = as_spelled at _ word i.Ebreak s.word_is (ebreak_back at z)
instr_back at word (i.LoadReserved aq rl d r) z a w s = as_spelled at _ word (i.LoadReserved aq rl d r) s.word_is (reserved_back at aq rl d r z (register_found d s.in_range.0) (register_found r s.in_range.1))
instr_back at word (i.StoreConditional aq rl d x y) z a w s = as_spelled at _ word (i.StoreConditional aq rl d x y) s.word_is (conditional_back at aq rl d y x z (register_found d s.in_range.0) (register_found y s.in_range.2) (register_found x s.in_range.1))
instr_back at word (i.Amo op aq rl d x y) z a w s = as_spelled at _ word (i.Amo op aq rl d x y) s.word_is (amo_back at op aq rl d y x z (register_found d s.in_range.0) (register_found y s.in_range.2) (register_found x s.in_range.1))

by_decoded : (at word : ℕ) (o : Option Instr) → at % 4 ≡ 0 → at < 2 ^ 32 → word < 2 ^ 32 → ((instr : Instr) → o ≡ Some instr → SpellsInstr word instr) → IsBack at (instr_line at word o) (to_le_bytes w32 word)
by_decoded at word None z a w s = word_back at word w
by_decoded at word (Some instr) z a w s = instr_back at word instr z a w (s instr refl)

pub line_back : (at word : ℕ) → at % 4 ≡ 0 → at < 2 ^ 32 → word < 2 ^ 32 → IsBack at (line_text at word) (to_le_bytes w32 word)
unfolding line_text
line_back at word z a w = by_decoded at word (decoded word) z a w (λ instr e. (decoded_iff_spells word instr w).0 e)
