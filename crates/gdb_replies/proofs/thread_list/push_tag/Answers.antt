use Rattle.std.proofs.Common.{rules, ◌≡◌, [], ◌∷◌, ◌++◌, codes}
use Rattle.gdb_replies.specs.Digits.{number_text}
use Rattle.gdb_replies.specs.Threads.{hart_name, thread_of, thread_tag}
use Rattle.gdb_replies.proofs.AppendLemmas.{appended_five}
use Rattle.gdb_replies.proofs.thread_list.push_tag.Goals as goal

pub returns-clause-ok : goal.returns-clause-ok
unfolding thread_tag
returns-clause-ok g c =
    let hart = c.args.hart in
    let old = c.args.out.now.items in
    let x = c.extend_from_slice.new.self.items in
    let y = c.push_thread.new.out.items in
    let z = c.push.new.self.items in
    let w = c.push_name.new.out.items in
    let new = c.push-2.new.self.items in
    let is_x : x ≡ old ++ codes "<thread id=\"" = c.in_ok-extend_from_slice.ensures.items in
    let is_y : y ≡ x ++ number_text (thread_of hart) = search rules in
    let is_z : z ≡ y ++ (34 ∷ []) = search rules in
    let is_w : w ≡ z ++ hart_name hart = search rules in
    let is_new : new ≡ w ++ (62 ∷ []) = search rules in
    appended_five old (codes "<thread id=\"") (number_text (thread_of hart)) (34 ∷ []) (hart_name hart) (62 ∷ [])
    x y z w new is_x is_y is_z is_w is_new
