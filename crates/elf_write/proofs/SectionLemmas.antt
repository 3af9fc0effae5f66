-- the places of the parts after the data
use Rattle.std.proofs.Common.{◌≡◌, ℕ, ◌+◌, ◌-◌, ◌%◌, ◌≤◌, List, ◌++◌, length, arith, length-append, ap, ◌∙◌}
use Rattle.std.proofs.Math.ListN.{length-replicate}
use Rattle.asm_assemble.specs.Program.{ProgramValue, round_up}
use Rattle.elf_write.specs.Field.{zero_bytes}
use Rattle.elf_write.specs.Section.{data_end, tables_of, symbols_at, names_at, section_names_at, sections_at, section_names, joined_tables, table_bytes}

-- the number of bytes written up to the end of the sections' names
joined_length : (p : ProgramValue) → data_end p + length (joined_tables p) ≡ section_names_at p + 44
unfolding zero_bytes section_names section_names_at names_at symbols_at round_up
joined_length p =
    let first : ℕ = symbols_at p - data_end p in
    let a = length-append ((zero_bytes first ++ (tables_of p).entries) ++ (tables_of p).names) section_names in
    let b = length-append (zero_bytes first ++ (tables_of p).entries) (tables_of p).names in
    let c = length-append (zero_bytes first) (tables_of p).entries in
    let z : length (zero_bytes first) ≡ first = length-replicate first 0 in
    omega (arith, a, b, c, z)

rest_of_word : (n : ℕ) → (4 - n % 4) % 4 ≡ round_up n 4 - n
unfolding round_up
rest_of_word n = omega arith

-- zero bytes to a multiple of 4 end it
pub padded : (p : ProgramValue) (xs : List ℕ) (written : ℕ) → xs ≡ joined_tables p → written ≡ data_end p + length xs → xs ++ zero_bytes ((4 - written % 4) % 4) ≡ table_bytes p
unfolding table_bytes sections_at
padded p xs written is here =
    let at : written ≡ section_names_at p + 44 = here ∙ ap (λ t. data_end p + length t) is ∙ joined_length p in
    let count : (4 - written % 4) % 4 ≡ round_up (section_names_at p + 44) 4 - (section_names_at p + 44) = rest_of_word written ∙ ap (λ n. round_up n 4 - n) at in
    ap (λ t. t ++ zero_bytes ((4 - written % 4) % 4)) is ∙ ap (λ n. joined_tables p ++ zero_bytes n) count

above : (n : ℕ) → n ≤ round_up n 4
unfolding round_up
above n = omega arith

-- the section headers begin where it ends
pub tables_end : (p : ProgramValue) → data_end p + length (table_bytes p) ≡ sections_at p
unfolding zero_bytes table_bytes sections_at
tables_end p =
    let last : ℕ = round_up (section_names_at p + 44) 4 - (section_names_at p + 44) in
    let a = length-append (joined_tables p) (zero_bytes last) in
    let z : length (zero_bytes last) ≡ last = length-replicate last 0 in
    let j = joined_length p in
    let u = above (section_names_at p + 44) in
    omega (arith, a, z, j, u)
