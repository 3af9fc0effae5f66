use Rattle.std.proofs.Common.{◌∙◌, ap, ◌++◌, ◌∷◌, []}
use Rattle.std.specs.String.{string_eq, string_bytes}
use Rattle.std.specs.Map.{lookup}
use Rattle.std.specs.Str.{bytes_eq}
use Rattle.indexmap.proofs.CallerLemmas.{insert_entry-new}
use Rattle.asm_assemble.specs.Program.{symbol_list}
use Rattle.asm_assemble.proofs.TableLemmas.{found_entry, list_push}
use Rattle.asm_assemble.proofs.table.add.Goals as goal

pub returns : goal.returns
returns g c =
    let table = c.args.table.now in
    let key = c.in_ok-from_str.field-0 in
    let none = found_entry table.entries c.args.name.now ∙ c.requires in
    let e = c.in_ok-insert.ensures.entries ∙ insert_entry-new string_eq table key c.args.value (ap (λ b. lookup (λ k. bytes_eq b (string_bytes k)) table.entries) c.in_ok-from_str.ensures.ok ∙ none) in
    ap symbol_list e ∙ (list_push table.entries key c.args.value ∙ ap (λ b. symbol_list table.entries ++ (b, c.args.value) ∷ []) c.in_ok-from_str.ensures.ok)
