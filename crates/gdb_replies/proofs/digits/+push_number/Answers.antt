use Rattle.std.proofs.Common.{rules, ◌≡◌, ◌++◌, ◌/◌, ◌%◌, ◌^◌, ◌<◌, ◌≤◌, [], ◌∷◌}
use Rattle.gdb_frames.specs.Digits.{hex_digit}
use Rattle.gdb_replies.specs.Digits.{number_text}
use Rattle.gdb_replies.proofs.NumberLemmas.{pushed_digit}
use Rattle.gdb_replies.proofs.digits.+push_number.Goals as goal

pub returns-clause-ok : goal.returns-clause-ok
returns-clause-ok g t c =
    let n = c.args.number in
    let old = c.args.out.now.items in
    let front = c.push_number.new.out.items in
    let new = c.push-2.new.self.items in
    let d = c.hex_digit-2.result in
    let large : 16 ≤ n = search rules in
    let fits : n < 2 ^ 64 = search rules in
    let is_front : front ≡ old ++ number_text (n / 16) = search rules in
    let is_new : new ≡ front ++ (d ∷ []) = search rules in
    let is_digit : d ≡ hex_digit (n % 16) = search rules in
    pushed_digit old front new n d large fits is_front is_new is_digit
