-- Operands of packets.
use Rattle.std.specs.Prelude.{ℕ, ◌==◌, ◌&&◌, nat_le, List, [], ◌∷◌, drop, codes, Option, Some, None, Result, Ok, Err, if◌then◌else◌}
use Rattle.std.specs.Str.{bytes_eq}
use Rattle.text_items.specs.Numbers.{before_byte, from_byte}
use Rattle.gdb_requests.specs.declared.fault.RequestFault.{RequestFault}
use Rattle.gdb_requests.specs.declared.fault.RequestFault.TheVariants.{BadOperand, Unknown}
use Rattle.gdb_requests.specs.declared.request.Point.{Point}
use Rattle.gdb_requests.specs.declared.request.PointKind.{PointKind}
use Rattle.gdb_requests.specs.declared.request.PointKind.TheVariants.{Software, Hardware, Write, Read, Access}
use Rattle.gdb_requests.specs.declared.request.Threads.{Threads}
use Rattle.gdb_requests.specs.declared.request.Threads.TheVariants.{All, Any, One}
use Rattle.gdb_requests.specs.Numbers.{hex_number}

-- two values, if both are there
abbrev pub both_numbers : Option ℕ → Option ℕ → Option (ℕ × ℕ)
both_numbers None second = None
both_numbers (Some a) None = None
both_numbers (Some a) (Some b) = Some (a, b)

-- two numbers with a comma between them
abbrev pub two_numbers : List ℕ → Option (ℕ × ℕ)
two_numbers text =
    both_numbers (hex_number (before_byte 44 text)) (hex_number (drop 1 (from_byte 44 text)))

-- 0 is any thread
abbrev pub numbered_threads : Option ℕ → Option Threads
numbered_threads None = None
numbered_threads (Some n) = if n == 0 then Some Any else Some (One n)

-- `-1` is all threads
abbrev pub threads_of : List ℕ → Option Threads
threads_of text =
    if bytes_eq text (codes "-1") then Some All else numbered_threads (hex_number text)

-- the kinds of points are `0` to `4`
abbrev pub point_kind : ℕ → Option PointKind
point_kind b =
    if b == 48 then Some Software
    else (if b == 49 then Some Hardware
    else (if b == 50 then Some Write
    else (if b == 51 then Some Read
    else (if b == 52 then Some Access else None))))

-- a point needs good numbers, and then a kind
abbrev pub point_by : Option PointKind → Option (ℕ × ℕ) → Result Point RequestFault
point_by kind None = Err BadOperand
point_by None (Some numbers) = Err Unknown
point_by (Some kind) (Some numbers) =
    Ok (record { kind = kind; address = numbers.0; length = numbers.1 })

-- a digit, a comma and two numbers
abbrev pub point_of : List ℕ → Result Point RequestFault
point_of [] = Err Unknown
point_of (b ∷ []) = Err Unknown
point_of (b ∷ (c ∷ numbers)) =
    if (nat_le 48 b && nat_le b 57) && c == 44
    then point_by (point_kind b) (two_numbers numbers) else Err Unknown
