use Rattle.std.proofs.Common.{rules, arith, ap, sym, ◌∙◌, ◌+◌, ◌*◌, length}
use Rattle.machine.specs.World.{World}
use Rattle.machine.proofs.WorldLemmas.{run_none}
use Rattle.debug_session.specs.Paged.{paged_world}
use Rattle.debug_session.proofs.KeptLemmas.{run_further, kept_more, kept_first}
use Rattle.debug_session.proofs.checkpoints.checkpoints_of.Goals as goal

pub pieces-init : goal.pieces-init
pieces-init g c = record {
  reached = c.in_ok-machine.ensures ∙ sym (run_none (paged_world c.args.first.now));
  kept = kept_first (paged_world c.args.first.now) c.args.choices.now _ _ _ c.new-kept.ensures.items c.in_ok-push.ensures.items c.in_ok-copy.ensures;
  len = (search rules);
  harts = ap (λ (w : World). length w.harts) c.in_ok-machine.ensures;
}

pub pieces-preserved : goal.pieces-preserved
pieces-preserved g c =
    let next = run_further (paged_world c.args.first.now) (paged_world c.pieces.machine) _ c.args.choices.now _ _ (c.pieces.i * 256) 256 ((c.pieces.i + 1) * 256)
    c.pieces.invariant.reached c.split_at.ensures.back c.split_at-in-pieces.ensures.front c.in-Ok.ensures.ok (omega arith) in
    record {
      reached = next;
      kept = kept_more (paged_world c.args.first.now) c.args.choices.now _ c.pieces.kept.items _ _ _ (c.pieces.i + 1) c.pieces.invariant.kept c.pieces.kept.ok.0
          c.pieces.invariant.len c.in_ok-push-2.ensures.items c.in_ok-copy-2.ensures next;
      len = (search rules);
      harts = c.run.ensures.harts ∙ c.pieces.invariant.harts;
    }
