-- Turns cover every run.
use Rattle.std.proofs.Common.{◌≡◌, ℕ, ◌<◌, ◌≤◌, ◌==◌, Bool, true, false, ◌||◌, List, [], ◌∷◌, length, refl, ap, sym, ◌∙◌, subst, inl, inr, ◌⊎◌, arith}
use Rattle.std.proofs.lemmas.Bool.{or_right}
use Rattle.std.proofs.lemmas.List.Elements.{All-nil, All-head, All-tail, All-cons}
use Rattle.std.specs.List.{All, Contains}
use Rattle.machine.specs.Chosen.{is_chosen}
use Rattle.machine.specs.World.{World, step, run}
use Rattle.machine.specs.declared.choice.Choice.{Choice}
use Rattle.explore_laws.specs.Settling.{Stride, world_settled}
use Rattle.explore_laws.specs.Places.{Place, place_begun, place_after, place_reached}
use Rattle.explore_laws.specs.Covering.{WorldCovers, HasTurns, AreClear}
use Rattle.explore_laws.specs.Quiet.{AreAligned, CanWait, OfNextStep}
use Rattle.explore_laws.proofs.QuietLemmas.{IsAmong, IsBehind, by_quiet, covers_joined, settled_covers, aligned_run, step_aligned}

or_first : (a b d : Bool) → a || b ≡ true → (b ≡ true) ⊎ (a || d ≡ true)
or_first true b d e = inr refl
or_first false b d e = inl e

record Follows (quiet : OfNextStep) (meant : List Choice) (p : Place) (w : World) (choices : List Choice) : Type 0 where
  pub turns : List Choice
  pub are_meant : All (Contains meant) turns
  pub no_more : length turns ≤ length choices
  pub covers : WorldCovers quiet (place_reached p turns).world (run w choices)
  pub fewer : (k : ℕ) → (place_reached p turns).chosen k ≡ true → (p.chosen k ≡ true) ⊎ (is_chosen choices k ≡ true)

-- what is clear from a place on is clear from the next one on, for a turn less
pub clear_after : (clear : OfNextStep) (meant : List Choice) (p : Place) (c : Choice) (n m : ℕ) → Contains meant c → m < n
    → AreClear clear meant p n → AreClear clear meant (place_after p c) m
unfolding place_reached
clear_after clear meant p c n m is low are turns d all meant_d less =
    are (c ∷ turns) d (All-cons (Contains meant) c turns is all) meant_d (omega (arith, low, less))

pub clear_less : (clear : OfNextStep) (meant : List Choice) (p : Place) (n m : ℕ) → m ≤ n → AreClear clear meant p n → AreClear clear meant p m
clear_less clear meant p n m low are turns d all meant_d less = are turns d all meant_d (omega (arith, low, less))

pub clear_here : (clear : OfNextStep) (meant : List Choice) (p : Place) (c : Choice) (n : ℕ) → Contains meant c → 0 < n
    → AreClear clear meant p n → clear p.world c.hart ≡ true
unfolding place_reached
clear_here clear meant p c n is some are = are [] c (All-nil (Contains meant)) is some

module _ (quiet clear : OfNextStep) (stride : Stride) (waits : CanWait quiet clear stride) where
  -- a step of a world that is covered: the same world covers what it leads to, or the one behind the
  -- same turn does
  pub by_step : (s w : World) (c : Choice) → AreAligned w → WorldCovers quiet s w → clear s c.hart ≡ true
      → WorldCovers quiet s (step w c) ⊎ WorldCovers quiet (world_settled stride (step s c) c.hart) (step w c)
  by_step s w c is covers is_clear =
      let at : clear (run w covers.choices) c.hart ≡ true = ap (λ x. clear x c.hart) covers.leads ∙ is_clear in
      elim (by_quiet quiet clear stride waits w c covers.choices is covers.are_quiet at) [
        | inl among ↦ inl (record { choices = among.left; are_quiet = among.are_quiet; leads = among.leads ∙ covers.leads })
        | inr behind ↦
            let aligned_s : AreAligned s = subst AreAligned covers.leads (aligned_run w covers.choices is) in
            inr (covers_joined quiet clear stride waits (world_settled stride (step s c) c.hart) (step s c) (step w c)
            (settled_covers quiet clear stride waits (step s c) c.hart (step_aligned s c aligned_s))
            (record {
              choices = covers.choices;
              are_quiet = behind.are_quiet;
              leads = behind.leads ∙ ap (λ x. step x c) covers.leads;
            }))
      ]

  follows : (meant : List Choice) (p : Place) (w : World) (choices : List Choice) → p.stride ≡ stride → AreAligned w
      → WorldCovers quiet p.world w → All (Contains meant) choices → AreClear clear meant p (length choices)
      → Follows quiet meant p w choices
  unfolding place_reached run
  follows meant p w [] same is covers all are = record {
    turns = [];
    are_meant = all;
    no_more = omega arith;
    covers = covers;
    fewer = λ k e. inl e;
  }
  follows meant p w (c ∷ choices) same is covers all are =
      let head = All-head (Contains meant) c choices all in
      let tail = All-tail (Contains meant) c choices all in
      elim (by_step p.world w c is covers (clear_here clear meant p c (length (c ∷ choices)) head (omega arith) are)) [
        | inl stays ↦
            let more = follows meant p (step w c) choices same (step_aligned w c is) stays tail
            (clear_less clear meant p (length (c ∷ choices)) (length choices) (omega arith) are) in
            record {
              turns = more.turns;
              are_meant = more.are_meant;
              no_more = (let low = more.no_more in omega (arith, low));
              covers = more.covers;
              fewer = λ k e. elim (more.fewer k e) [
                | inl before ↦ inl before
                | inr later ↦ inr (or_right (c.hart == k) (is_chosen choices k) later)
              ];
            }
        | inr goes ↦
            let on : WorldCovers quiet (place_after p c).world (step w c)
            = subst (λ x. WorldCovers quiet (world_settled x (step p.world c) c.hart) (step w c)) (sym same) goes in
            let more = follows meant (place_after p c) (step w c) choices same (step_aligned w c is) on tail
            (clear_after clear meant p c (length (c ∷ choices)) (length choices) head (omega arith) are) in
            record {
              turns = c ∷ more.turns;
              are_meant = All-cons (Contains meant) c more.turns head more.are_meant;
              no_more = (let low = more.no_more in omega (arith, low));
              covers = more.covers;
              fewer = λ k e. elim (more.fewer k e) [
                | inl before ↦ or_first (c.hart == k) (p.chosen k) (is_chosen choices k) before
                | inr later ↦ inr (or_right (c.hart == k) (is_chosen choices k) later)
              ];
            }
      ]

  pub run_has_turns : (meant : List Choice) (first w : World) (choices : List Choice) → AreAligned w → WorldCovers quiet first w
      → All (Contains meant) choices → AreClear clear meant (place_begun stride first) (length choices)
      → HasTurns quiet meant (place_begun stride first) w choices
  run_has_turns meant first w choices is covers all are =
      let found = follows meant (place_begun stride first) w choices refl is covers all are in
      record {
        turns = found.turns;
        are_meant = found.are_meant;
        no_more = found.no_more;
        place = record {
          covers = found.covers;
          fewer = λ k e. elim (found.fewer k e) [
            | inl none ↦ absurd (let no : ◌≡◌ {A = Bool} false true = none in cc)
            | inr chosen ↦ chosen
          ];
        };
      }
