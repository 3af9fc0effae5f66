-- The segments of a program's image, what stands in them, and their listing.
use Rattle.std.proofs.Common.{◌≡◌, ℕ, zero, suc, ◌+◌, ◌-◌, ◌*◌, ◌/◌, ◌%◌, ◌<◌, ◌≤◌, Bool, true, false, cond, List, [], ◌∷◌, ◌++◌, length, refl, sym, ap, subst, ◌∙◌, arith, append_assoc, append-nil, length-append}
use Rattle.std.specs.Prelude.{◌==◌, filter, codes, IsPermutation}
use Rattle.std.specs.List.{flat_map, slice_index_or}
use Rattle.std.specs.Fmt.{decimal}
use Rattle.std.specs.Int.{w32, to_le_bytes}
use Rattle.std.proofs.lemmas.Bool.Decides.{nat_tests}
use Rattle.std.proofs.lemmas.List.Sorted.{All-permutation, length_permutation}
use Rattle.isa_names.specs.Digits.{word_text}
use Rattle.isa_table.specs.Spells.{InRange, word_of}
use Rattle.isa_table.specs.declared.instr.Instr.{Instr}
use Rattle.image.specs.Image.{ImageValue}
use Rattle.image.specs.Segment.{SegmentValue}
use Rattle.isa_disasm.specs.Listing.{listing, byte_lines, lines_from}
use Rattle.isa_disasm.specs.Segments.{is_executable, segment_text, ListsSegments}
use Rattle.asm_assemble.specs.Placed.{Bases, Standing, AreBases, IsNextMultiple, taken}
use Rattle.asm_assemble.specs.Program.{ProgramValue, round_up, segment_size}
use Rattle.asm_statement.specs.declared.statement.Section.TheVariants as sections
use Rattle.elf_write.specs.File.{program_segments}
use Rattle.elf_write.specs.Layout.{data_distance, data_size}
use Rattle.asm_laws.specs.Own.{StandsInImage, HasWord, HasLine, image_lines}
use Rattle.asm_laws.proofs.Words.{word_small, word_line_in, lines_cut}

-- bytes at an address of a section that begins at a base
pub record Piece (whole : List ℕ) (base address : ℕ) (bytes : List ℕ) : Type 0 where
  pub front : List ℕ
  pub back : List ℕ
  pub cut : whole ≡ front ++ (bytes ++ back)
  pub place : base + length front ≡ address

pub first_part : (whole : List ℕ) (base address : ℕ) (xs ys : List ℕ) → Piece whole base address (xs ++ ys) → Piece whole base address xs
first_part whole base address xs ys p = record { front = p.front; back = ys ++ p.back; cut = p.cut ∙ ap (λ t. p.front ++ t) (append_assoc xs ys p.back); place = p.place }

pub second_part : (whole : List ℕ) (base address : ℕ) (xs ys : List ℕ) → Piece whole base address (xs ++ ys) → Piece whole base (address + length xs) ys
second_part whole base address xs ys p = record {
  front = p.front ++ xs;
  back = p.back;
  cut = p.cut ∙ (ap (λ t. p.front ++ t) (append_assoc xs ys p.back) ∙ sym (append_assoc p.front xs (ys ++ p.back)));
  place = let e : length (p.front ++ xs) ≡ length p.front + length xs = length-append p.front xs in omega (arith, e, p.place);
}

pub piece_long : (whole : List ℕ) (base address : ℕ) (bytes : List ℕ) → Piece whole base address bytes → length bytes ≤ length whole
piece_long whole base address bytes p =
    let e : length whole ≡ length p.front + (length bytes + length p.back) = ap length p.cut ∙ (length-append p.front (bytes ++ p.back) ∙ ap (λ n. length p.front + n) (length-append bytes p.back)) in
    omega (arith, e)

-- ---- segments
abbrev pub text_segment : ProgramValue → SegmentValue
text_segment p = record { base = 0x10000; size = length p.text; rights = 5; bytes = p.text }

abbrev pub data_segment : ProgramValue → SegmentValue
data_segment p = record { base = 0x10000 + data_distance p; size = data_size p; rights = 6; bytes = p.bytes }

abbrev data_part : ProgramValue → List SegmentValue
data_part p = cond (data_size p == 0) [] (data_segment p ∷ [])

abbrev text_part : ProgramValue → List SegmentValue
text_part p = cond (length p.text == 0) [] (text_segment p ∷ [])

abbrev pub image_of : ProgramValue → ImageValue
image_of p = record { entry = p.entry; segments = program_segments p }

not_none : (n : ℕ) → 0 < n → (n == 0) ≡ false
not_none n h = grind (arith, nat_tests)

pub stands_in_text : (p : ProgramValue) (address : ℕ) (bytes : List ℕ) → 0 < length bytes → Piece p.text 0x10000 address bytes → StandsInImage (image_of p) address bytes
unfolding program_segments
stands_in_text p address bytes full h =
    let long : length bytes ≤ length p.text = piece_long p.text 0x10000 address bytes h in
    let some : (length p.text == 0) ≡ false = not_none (length p.text) (omega arith) in
    record {
      segments_before = [];
      segment = text_segment p;
      segments_behind = data_part p;
      is_there = rw some refl;
      before = h.front;
      behind = h.back;
      cut = h.cut;
      at_address = h.place;
    }

held_long : (bytes zeros : ℕ) → bytes ≤ segment_size bytes zeros
unfolding segment_size round_up
held_long bytes zeros = by (zeros == 0)
  where
    by : (b : Bool) → bytes ≤ cond b bytes ((bytes + 3) / 4 * 4 + zeros)
    by true = omega arith
    by false = omega arith

pub stands_in_data : (p : ProgramValue) (address : ℕ) (bytes : List ℕ) → 0 < length bytes → Piece p.bytes (0x10000 + data_distance p) address bytes → StandsInImage (image_of p) address bytes
unfolding program_segments data_size
stands_in_data p address bytes full h =
    let long : length bytes ≤ length p.bytes = piece_long p.bytes (0x10000 + data_distance p) address bytes h in
    let wide : length p.bytes ≤ segment_size (length p.bytes) p.zeros = held_long (length p.bytes) p.zeros in
    let some : (segment_size (length p.bytes) p.zeros == 0) ≡ false = not_none (segment_size (length p.bytes) p.zeros) (omega arith) in
    record {
      segments_before = text_part p;
      segment = data_segment p;
      segments_behind = [];
      is_there = rw some refl;
      before = h.front;
      behind = h.back;
      cut = h.cut;
      at_address = h.place;
    }

-- where the data begins
next_is : (n times base : ℕ) → base ≡ times * 4096 → 0x10000 + n ≤ base → base < 0x10000 + n + 4096 → base ≡ 0x10000 + (n + 4095) / 4096 * 4096
next_is n times base e f g = omega arith

pub data_begins : (p : ProgramValue) (all : List Standing) (bases : Bases) → AreBases bases all → length p.text ≡ taken sections.Text all → bases.data_base ≡ 0x10000 + data_distance p
unfolding data_distance round_up
data_begins p all bases h sized =
    let next : IsNextMultiple 4096 (0x10000 + length p.text) bases.data_base =
    subst (λ n. IsNextMultiple 4096 n bases.data_base) (ap (λ b. b + taken sections.Text all) h.text_begins ∙ ap (λ n. 0x10000 + n) (sym sized)) h.data_begins in
    next_is (length p.text) next.times bases.data_base next.multiple next.not_below next.least

-- ---- an instruction's word
pub has_word : (p : ProgramValue) (address : ℕ) (i : Instr) → InRange i → StandsInImage (image_of p) address (to_le_bytes w32 (word_of i)) → HasWord (image_of p) address i
has_word p address i h stands = record { word = word_of i; fits = word_small i; spells = record { word_is = refl; in_range = h }; stands = stands }

pub has_line : (text : List ℕ) (address : ℕ) (i : Instr) → InRange i → address % 4 ≡ 0 → Piece text 0x10000 address (to_le_bytes w32 (word_of i)) → HasLine text (listing 0x10000 text) address i
has_line text address i h aligned p = record {
  word = word_of i;
  fits = word_small i;
  spells = record { word_is = refl; in_range = h };
  before = p.front;
  behind = p.back;
  cut = p.cut;
  at_address = p.place;
  shown =
      ap (listing 0x10000) p.cut
      ∙ (lines_cut p.front (to_le_bytes w32 (word_of i) ++ p.back) 0x10000 (omega (arith, p.place, aligned))
      ∙ (ap (λ at. listing 0x10000 p.front ++ listing at (to_le_bytes w32 (word_of i) ++ p.back)) p.place
      ∙ ap (λ t. listing 0x10000 p.front ++ t) (word_line_in address (word_of i) p.back (word_small i))));
}

-- ---- the listing of the image
all_one : {X : Type 0} (x : X) (k : ℕ) (d : X) → k < 1 → slice_index_or (x ∷ []) k d ≡ x
all_one x zero d h = refl
all_one x (suc k) d h = absurd (omega arith)

one_order : {X : Type 0} (x : X) (order : List X) → IsPermutation (x ∷ []) order → order ≡ x ∷ []
one_order x [] h = let e = length_permutation (x ∷ []) [] h in absurd (omega arith)
one_order x (y ∷ []) h = let f : y ≡ x = All-permutation (λ v. v ≡ x) (x ∷ []) (y ∷ []) h (all_one x) 0 y (omega arith) in ap (λ v. v ∷ []) f
one_order x (y ∷ z ∷ more) h = let e = length_permutation (x ∷ []) (y ∷ z ∷ more) h in absurd (omega arith)

no_order : {X : Type 0} (order : List X) → IsPermutation [] order → order ≡ []
no_order [] h = refl
no_order (y ∷ more) h = let e = length_permutation [] (y ∷ more) h in absurd (omega arith)

executable : (p : ProgramValue) → filter is_executable (program_segments p) ≡ text_part p
unfolding program_segments
executable p = by (length p.text == 0) (data_size p == 0)
  where
    by : (a b : Bool) → filter is_executable (cond a [] (text_segment p ∷ []) ++ cond b [] (data_segment p ∷ [])) ≡ cond a [] (text_segment p ∷ [])
    by true true = refl
    by true false = refl
    by false true = refl
    by false false = refl

none_behind : (n : ℕ) → n - n ≡ 0
none_behind n = omega arith

text_lines : (text : List ℕ) → segment_text (record { base = 0x10000; size = length text; rights = 5; bytes = text }) ≡ codes "# segment 00010000 " ++ (decimal (length text) ++ (10 ∷ listing 0x10000 text))
unfolding segment_text word_text lines_from byte_lines
text_lines text = rw (none_behind (length text), append-nil) refl

pub image_lists : (p : ProgramValue) (lines : List ℕ) → ListsSegments (program_segments p) lines → lines ≡ image_lines p.text
image_lists p lines h = by (length p.text == 0) (subst (λ xs. IsPermutation xs h.order) (executable p) h.all)
  where
    by : (b : Bool) → IsPermutation (cond b [] (text_segment p ∷ [])) h.order → lines ≡ cond b [] (codes "# segment 00010000 " ++ (decimal (length p.text) ++ (10 ∷ listing 0x10000 p.text)))
    by true perm = h.lines ∙ ap (flat_map segment_text) (no_order h.order perm)
    by false perm = h.lines ∙ (ap (flat_map segment_text) (one_order (text_segment p) h.order perm) ∙ (append-nil (segment_text (text_segment p)) ∙ text_lines p.text))
