-- The cursor after one statement more.
use Rattle.std.proofs.Common.{◌≡◌, ℕ, suc, ◌+◌, ◌<◌, ◌≤◌, List, length, get_or, drop, add-one}
use Rattle.std.proofs.Math.Seq.{drop-cons}
use Rattle.std.proofs.lemmas.List.{drop_all}
use Rattle.asm_statement.specs.Statement.{StatementValue}
use Rattle.asm_assemble.specs.declared.cursor.Cursor.{Cursor}
use Rattle.asm_assemble.specs.Cursors.{stepped_cursor, cursor_after}

-- the rest begins with the next statement
pub cursor_step : (before after total : Cursor) (statements : List StatementValue) (i : ℕ) (statement : StatementValue) → i < length statements → statement ≡ get_or statements i statement → after ≡ stepped_cursor before statement.body
    → cursor_after before (drop i statements) ≡ total → cursor_after after (drop (i + 1) statements) ≡ total
unfolding cursor_after
cursor_step before after total statements i statement below is stepped so_far =
    let one : cursor_after (stepped_cursor before statement.body) (drop (suc i) statements) ≡ total = rw (drop-cons statements i statement below, ← is) at so_far in
    rw (stepped, add-one) one

-- nothing is left
pub cursor_end : (at total : Cursor) (statements : List StatementValue) (i : ℕ) → length statements ≤ i → cursor_after at (drop i statements) ≡ total → at ≡ total
unfolding cursor_after
cursor_end at total statements i all so_far = rw (drop_all i statements all) at so_far
