-- One item more among pushed bytes.
use Rattle.std.proofs.Common.{◌≡◌, ℕ, suc, ◌%◌, ◌^◌, List, [], ◌∷◌, ◌++◌, Result, Ok, Err, refl, ap, append_assoc, ℤ}
use Rattle.std.specs.Int.{w16, w32, to_le_bytes}
use Rattle.asm_statement.specs.Answer.{◌>>=◌}
use Rattle.asm_statement.specs.declared.fault.FaultKind.{FaultKind}
use Rattle.asm_statement.specs.declared.operand.Value.{Value}
use Rattle.asm_statement.specs.declared.statement.Section.TheVariants as sections
use Rattle.asm_assemble.specs.declared.push.PushFault.{PushFault}
use Rattle.asm_assemble.specs.declared.push.PushFault.TheVariants as faults
use Rattle.asm_assemble.specs.Program.{SymbolList}
use Rattle.asm_assemble.specs.Numbers.{as_word}
use Rattle.asm_assemble.specs.Operands.{valued_operand}
use Rattle.asm_assemble.specs.Valuing.{word_list, half_list, byte_list, nops, appended, Images, Pushes, put_bytes, put_all}

-- a NOP, and those that are left
pub one_nop : (done : List ℕ) (left : ℕ) → (done ++ 0x13 ∷ 0 ∷ 0 ∷ 0 ∷ []) ++ nops left ≡ done ++ nops (suc left)
unfolding nops
one_nop done left = append_assoc done (0x13 ∷ 0 ∷ 0 ∷ 0 ∷ []) (nops left)

-- a word, and the words of what is left
pub one_word : (symbols : SymbolList) (done : List ℕ) (v : Value) (vs : List Value) (word : ℕ) → valued_operand symbols v ≡ Ok word
    → appended (done ++ to_le_bytes w32 word) (word_list symbols vs) ≡ appended done (word_list symbols (v ∷ vs))
unfolding word_list appended
one_word symbols done v vs word e = rw e (by (word_list symbols vs))
  where
    by : (rest : Result (List ℕ) FaultKind) → appended (done ++ to_le_bytes w32 word) rest ≡ appended done (rest >>= λ bytes. Ok (to_le_bytes w32 word ++ bytes))
    by (Ok bytes) = ap Ok (append_assoc done (to_le_bytes w32 word) bytes)
    by (Err kind) = refl

-- a value that is not there
pub bad_word : (symbols : SymbolList) (done : List ℕ) (v : Value) (vs : List Value) (kind : FaultKind) → valued_operand symbols v ≡ Err kind
    → appended done (word_list symbols (v ∷ vs)) ≡ Err kind
unfolding word_list appended
bad_word symbols done v vs kind e = rw e refl

-- a halfword, and the halfwords of what is left
pub one_half : (done : List ℕ) (n : ℤ) (ns : List ℤ) → (done ++ to_le_bytes w16 (as_word n % 2 ^ 16)) ++ half_list ns ≡ done ++ half_list (n ∷ ns)
unfolding half_list
one_half done n ns = append_assoc done (to_le_bytes w16 (as_word n % 2 ^ 16)) (half_list ns)

-- a byte, and the bytes of what is left
pub one_byte : (done : List ℕ) (n : ℤ) (ns : List ℤ) → (done ++ as_word n % 2 ^ 8 ∷ []) ++ byte_list ns ≡ done ++ byte_list (n ∷ ns)
unfolding byte_list
one_byte done n ns = append_assoc done (as_word n % 2 ^ 8 ∷ []) (byte_list ns)

abbrev good : {X : Type 0} → X → Result X FaultKind
good x = Ok x

ok_is : {X : Type 0} (x y : X) → good x ≡ good y → x ≡ y
ok_is x y e = cc

-- what is pushed onto the text is in the text
pub in_text : (result : Result (Unit {0}) PushFault) (r : Result (List ℕ) FaultKind) (old new other : List ℕ) → Pushes result new (appended old r)
    → Pushes result (record { text_bytes = new; data_bytes = other }) (put_all sections.Text (record { text_bytes = old; data_bytes = other }) r)
unfolding Pushes appended put_all put_bytes
in_text (Ok _) (Ok bytes) old new other e = ap (λ t. Ok (record { text_bytes = t; data_bytes = other })) (ok_is (old ++ bytes) new e)
in_text (Ok _) (Err kind) old new other e = absurd cc
in_text (Err (faults.Kind k)) (Ok bytes) old new other e = absurd cc
in_text (Err (faults.Kind k)) (Err kind) old new other e = let same : kind ≡ k = cc in ap Err same
in_text (Err faults.Memory) r old new other e = tt

-- what is pushed onto the data is in the data
pub in_data : (result : Result (Unit {0}) PushFault) (r : Result (List ℕ) FaultKind) (old new other : List ℕ) → Pushes result new (appended old r)
    → Pushes result (record { text_bytes = other; data_bytes = new }) (put_all sections.Data (record { text_bytes = other; data_bytes = old }) r)
unfolding Pushes appended put_all put_bytes
in_data (Ok _) (Ok bytes) old new other e = ap (λ t. Ok (record { text_bytes = other; data_bytes = t })) (ok_is (old ++ bytes) new e)
in_data (Ok _) (Err kind) old new other e = absurd cc
in_data (Err (faults.Kind k)) (Ok bytes) old new other e = absurd cc
in_data (Err (faults.Kind k)) (Err kind) old new other e = let same : kind ≡ k = cc in ap Err same
in_data (Err faults.Memory) r old new other e = tt

-- nothing is in the zeros
pub in_zeros : (images : Images) → Pushes (Ok tt) images (put_all sections.Zeros images (Ok []))
unfolding Pushes put_all put_bytes
in_zeros images = refl
