use Rattle.std.proofs.Common.{ℕ, ◌%◌, ap, ◌∙◌}
use Rattle.sched_draw.specs.Turns.{plain_choice}
use Rattle.campaign_bounded.specs.Fair.{led_by_turn}
use Rattle.campaign_bounded.specs.Walk.{led_of}
use Rattle.campaign_bounded.proofs.FairLemmas.{no_turns, one_turn_more}
use Rattle.campaign_bounded.proofs.schedule.Schedule.take_turns.Goals as goal

pub turns-init : goal.turns-init
turns-init g c = no_turns c.args.harts (led_of g.S.Store.memory c.args.self.now)

pub turns-preserved : goal.turns-preserved
turns-preserved g c =
    one_turn_more c.args.harts c.turns.turn (led_of g.S.Store.memory c.args.self.now) (led_of g.S.Store.memory c.turns.self)
    (led_of g.S.Store.memory c.take_turn.new.self) c.turns.invariant
    (c.in_ok-take_turn.ensures
    ∙ ap (λ (n : ℕ). led_by_turn (led_of g.S.Store.memory c.turns.self) (plain_choice (c.turns.turn % n))) c.from.ensures)
