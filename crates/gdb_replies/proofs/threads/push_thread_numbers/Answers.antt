use Rattle.std.proofs.Common.{rules, ◌≡◌, ◌<◌, ◌≤◌, [], ◌∷◌, ◌++◌}
use Rattle.gdb_replies.specs.Threads.{list_item}
use Rattle.gdb_replies.proofs.FrontLemmas.{still_begins}
use Rattle.gdb_replies.proofs.ThreadLemmas.{all_items, next_item}
use Rattle.gdb_replies.proofs.threads.push_thread_numbers.Goals as goal

pub harts-preserved : goal.harts-preserved
harts-preserved g c =
    let h = c.harts.hart in
    let before = c.harts.out.items in
    let longer = c.push_list_item.new.out.items in
    let left : h < c.args.harts = search rules in
    let is_longer : longer ≡ before ++ list_item h = search rules in
    record {
      text = next_item before longer _ h c.args.harts left is_longer c.harts.invariant.text;
      kept = still_begins _ before longer (list_item h) c.harts.invariant.kept is_longer;
    }

pub returns-clause-ok : goal.returns-clause-ok
returns-clause-ok g c =
    let begun = c.push.new.self.items in
    let none : c.args.harts ≤ c.harts.hart = search rules in
    let is_begun : begun ≡ c.args.out.now.items ++ (109 ∷ []) = search rules in
    all_items _ begun _ c.harts.hart c.args.harts none is_begun c.harts.invariant.text
