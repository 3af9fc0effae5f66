use Rattle.std.proofs.Common.{rules, ◌≡◌, [], ◌∷◌, ◌++◌, codes, decimal}
use Rattle.gdb_replies.specs.Threads.{hart_name}
use Rattle.gdb_replies.proofs.AppendLemmas.{appended_three}
use Rattle.gdb_replies.proofs.thread_list.push_name.Goals as goal

pub returns-clause-ok : goal.returns-clause-ok
unfolding hart_name
returns-clause-ok g c =
    let old = c.args.out.now.items in
    let x = c.extend_from_slice.new.self.items in
    let y = c.push_decimal.new.out.items in
    let new = c.push.new.self.items in
    let is_x : x ≡ old ++ codes " name=\"hart " = c.in_ok-extend_from_slice.ensures.items in
    let is_y : y ≡ x ++ decimal c.args.hart = search rules in
    let is_new : new ≡ y ++ (34 ∷ []) = search rules in
    appended_three old (codes " name=\"hart ") (decimal c.args.hart) (34 ∷ []) x y new is_x is_y is_new
