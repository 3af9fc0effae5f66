-- Bounds on cursors.
use Rattle.std.proofs.Common.{ℕ, ◌+◌, ◌*◌, ◌^◌, ◌≤◌, ◌<◌, arith}
use Rattle.asm_assemble.specs.declared.cursor.Cursor.{Cursor}
use Rattle.asm_assemble.specs.Cursors.{CursorIsWithin}
use Rattle.asm_assemble.specs.Assembled.{start_at}

-- more statements reach no less
pub within_more : (m n : ℕ) (c : Cursor) → CursorIsWithin m c → m ≤ n → CursorIsWithin n c
unfolding CursorIsWithin
within_more m n c h le = (omega (arith, h.0), omega (arith, h.1), omega (arith, h.2))

-- the bound on the text
pub within_text : (n : ℕ) (c : Cursor) → CursorIsWithin n c → c.text_at ≤ (n + 1) * 2 ^ 64
unfolding CursorIsWithin
within_text n c h = h.0

-- the bound on the data
pub within_data : (n : ℕ) (c : Cursor) → CursorIsWithin n c → c.data_at ≤ (n + 1) * 2 ^ 64
unfolding CursorIsWithin
within_data n c h = h.1

-- the first statement is within a bound of the bases
pub start_within : (n data_at zeros_at : ℕ) → data_at ≤ (n + 1) * 2 ^ 64 → zeros_at ≤ (n + 1) * 2 ^ 64 → CursorIsWithin n (start_at data_at zeros_at)
unfolding CursorIsWithin start_at
start_within n data_at zeros_at d z = (omega arith, d, z)

-- fewer than 2^61 statements do not reach the limit
pub within_count : (i count : ℕ) (c : Cursor) → CursorIsWithin (2 ^ 63 + i) c → i < count → count < 2 ^ 61 → CursorIsWithin (2 ^ 63 + 2 ^ 61) c
within_count i count c h below small = within_more (2 ^ 63 + i) (2 ^ 63 + 2 ^ 61) c h (omega (arith, below, small))

-- one statement more
pub within_next : (n i : ℕ) (c : Cursor) → CursorIsWithin (n + i + 1) c → CursorIsWithin (n + (i + 1)) c
within_next n i c h = within_more (n + i + 1) (n + (i + 1)) c h (omega arith)

-- fewer than 2^61 statements from a lower start
pub within_far : (i count : ℕ) (c : Cursor) → CursorIsWithin (2 ^ 62 + 2 ^ 60 + i) c → i < count → count < 2 ^ 61 → CursorIsWithin (2 ^ 63 + 2 ^ 61) c
within_far i count c h below small = within_more (2 ^ 62 + 2 ^ 60 + i) (2 ^ 63 + 2 ^ 61) c h (omega (arith, below, small))
