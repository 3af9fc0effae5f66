-- The stops of a debugger.
use Rattle.std.specs.Prelude.{ℕ, Bool, not, ◌==◌, if◌then◌else◌, Option, Some, None, List, slice_get}
use Rattle.std.specs.List.{list_any, find}
use Rattle.std.specs.Option.{option_or}
use Rattle.hart_reservations.specs.Marks.{word_of}
use Rattle.hart_step.specs.Hart.{HartValue}
use Rattle.hart_step.specs.declared.data_access.Access.{Access}
use Rattle.machine.specs.World.{World, step}
use Rattle.machine.specs.declared.choice.Choice.{Choice}
use Rattle.debug_session.specs.Words.{viewed_word}
use Rattle.debug_session.specs.Points.{WatchedWords}
use Rattle.debug_session.specs.Touched.{if_reads, made}
use Rattle.debug_session.specs.declared.stop.AtBreak.{AtBreak}
use Rattle.debug_session.specs.declared.stop.WatchHit.{WatchHit}
use Rattle.debug_session.specs.declared.stop.WatchKind.{WatchKind}
use Rattle.debug_session.specs.declared.stop.WatchKind.TheVariants as kinds
use Rattle.debug_session.specs.declared.stop.Stop.{Stop}
use Rattle.debug_session.specs.declared.stop.Stop.TheVariants.{Break, Watch, Both}

-- whether a list contains a number
abbrev pub has : List ℕ → ℕ → Bool
has xs x = list_any (λ y. y == x) xs

-- whether the word at an address differs between two worlds
abbrev pub differs : World → World → ℕ → Bool
differs v w a = not (viewed_word v.memory a == viewed_word w.memory a)

-- the breakpoint at which hart h is, if it is at one
abbrev pub break_of : List ℕ → ℕ → Option HartValue → Option AtBreak
break_of breaks h None = None
break_of breaks h (Some hart) =
    if has breaks hart.pc then Some (record { hart = h; address = hart.pc }) else None

-- the word of an access, if it is among some
abbrev pub watched : List ℕ → Option Access → Option ℕ
watched words None = None
watched words (Some a) = if has words (word_of a.address) then Some (word_of a.address) else None

-- the hit of a watch of this kind at a word, if there is a word
abbrev pub hit_at : WatchKind → Option ℕ → Option WatchHit
hit_at kind None = None
hit_at kind (Some a) = Some (record { kind = kind; address = a })

-- the hit of watches, given the word that is watched for changes and has changed, if any, and the
-- access: that word; else the word of the access, if it is watched for reads and is read, or is
-- watched for any access
abbrev pub hit_for : WatchedWords → Option ℕ → Option Access → Option WatchHit
hit_for ws changed access =
    option_or (hit_at kinds.Change changed)
    (option_or (hit_at kinds.Read (watched ws.reads (if_reads access)))
    (hit_at kinds.Access (watched ws.accesses access)))

-- the stop at a breakpoint and at a hit, if there is one of them
abbrev pub stop_for : Option AtBreak → Option WatchHit → Option Stop
stop_for None None = None
stop_for (Some at) None = Some (Break at)
stop_for None (Some hit) = Some (Watch hit)
stop_for (Some at) (Some hit) = Some (Both at hit)

-- the stop after hart h's step from the world v to the world w with an access, if any: the hart is
-- at a breakpoint, or a watch is hit, or both; of words that have changed the lowest counts
unfoldable pub stop_after : List ℕ → WatchedWords → World → World → ℕ → Option Access → Option Stop
stop_after breaks ws v w h access =
    stop_for (break_of breaks h (slice_get w.harts h)) (hit_for ws (find (differs v w) ws.changes) access)

-- the stop after a choice in a world
abbrev pub stop_at : List ℕ → WatchedWords → World → Choice → Option Stop
stop_at breaks ws w c = stop_after breaks ws w (step w c) c.hart (made w c)
