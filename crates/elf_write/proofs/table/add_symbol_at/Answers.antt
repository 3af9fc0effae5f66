use Rattle.std.proofs.Common.{rules, ◌≡◌, sym, Some, true, false}
use Rattle.std.specs.List.{slice_get}
use Rattle.std.specs.String.{string_bytes}
use Rattle.elf_write.specs.Table.{is_bound, with_symbol}
use Rattle.elf_write.proofs.TableLemmas.{left_out, added}
use Rattle.elf_write.proofs.table.add_symbol_at.Goals as goal

pub returns-then-not-is_bound : goal.returns-then-not-is_bound
returns-then-not-is_bound g c =
    let here : slice_get c.args.symbols.now.entries c.args.index ≡ Some (c.in-Some.name.now, c.in-Some.symbol.now) = sym c.in-Some.ensures.entry in
    let other : is_bound c.args.global c.in-Some.symbol.now ≡ false = search rules in
    left_out c.args.tables.now c.args.global c.args.symbols.now.entries c.args.index (c.in-Some.name.now, c.in-Some.symbol.now) here other

pub returns : goal.returns
returns g c =
    let here : slice_get c.args.symbols.now.entries c.args.index ≡ Some (c.in-Some.name.now, c.in-Some.symbol.now) = sym c.in-Some.ensures.entry in
    let wanted : is_bound c.args.global c.in-Some.symbol.now ≡ true = search rules in
    let after : c.add_symbol.new.tables ≡ with_symbol c.args.tables.now (string_bytes c.in-Some.name.now, c.in-Some.symbol.now) = search rules in
    rw after (added c.args.tables.now c.args.global c.args.symbols.now.entries c.args.index (c.in-Some.name.now, c.in-Some.symbol.now) here wanted)
