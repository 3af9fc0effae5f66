-- What a walk through the schedules has still to give.
use Rattle.std.specs.Prelude.{ℕ, List, [], ◌∷◌, ◌++◌, Option, map}
use Rattle.mem_store.specs.Memory.{Memory}
use Rattle.machine.specs.Machine.{world}
use Rattle.machine.specs.World.{World, run}
use Rattle.machine.specs.declared.choice.Choice.{Choice}
use Rattle.campaign_bounded.specs.Bounded.{bounded}
use Rattle.campaign_bounded.specs.declared.node.Node.{Node}
use Rattle.campaign_bounded.specs.declared.schedule.Schedule.{Schedule}
use Rattle.campaign_bounded.specs.declared.schedules.Schedules.{Schedules}

-- a list of choices, and the world that it leads to
pub record Led : Type 0 where
  pub choices : List Choice
  pub world : World

-- lists with the worlds that they lead to, behind choices that have led to a world
abbrev pub led_behind : List Choice → World → List (List Choice) → List Led
led_behind before w lists =
    map (λ list. record { choices = before ++ list; world = run w list }) lists

-- lists with the worlds that they lead to from a first world
abbrev pub led_from : World → List (List Choice) → List Led
led_from start lists = map (λ list. record { choices = list; world = run start list }) lists

-- a place in the tree of schedules: the choices so far, the world that they led to, the hart of the
-- last one, and the harts, preemptions and choices that are left
pub record Spot : Type 0 where
  pub before : List Choice
  pub world : World
  pub last : Option ℕ
  pub harts : ℕ
  pub preemptions : ℕ
  pub choices : ℕ

-- the schedules through a place
abbrev pub through : Spot → List Led
through p =
    led_behind p.before p.world (bounded p.harts p.choices p.preemptions p.world p.last)

-- a node's place
abbrev pub spot_of : {S Z : Type 0} → (S → Memory) → Node S Z → Spot
spot_of memory node = record {
  before = node.path.items;
  world = world memory node.machine;
  last = node.last;
  harts = node.harts;
  preemptions = node.preemptions;
  choices = node.choices;
}

-- the schedules through places, the last one's first
abbrev pub through_all : List Spot → List Led
through_all [] = []
through_all (p ∷ places) = through_all places ++ through p

-- those through nodes
abbrev pub through_nodes : {S Z : Type 0} → (S → Memory) → List (Node S Z) → List Led
through_nodes memory nodes = through_all (map (spot_of memory) nodes)

-- the schedules that a walk has still to give, in order
abbrev pub schedules_left : {S Z : Type 0} → (S → Memory) → Schedules S Z → List Led
schedules_left memory walk = through_nodes memory walk.nodes.items

-- a schedule, and the world that it led to
abbrev pub led_of : {S Z : Type 0} → (S → Memory) → Schedule S Z → Led
led_of memory schedule =
    record { choices = schedule.choices.items; world = world memory schedule.machine }
