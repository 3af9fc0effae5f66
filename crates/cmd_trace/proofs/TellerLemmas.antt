-- Choices that are done one after the other.
use Rattle.std.proofs.Common.{◌≡◌, ℕ, zero, suc, ◌+◌, ◌-◌, ◌≤◌, List, [], ◌∷◌, ◌++◌, length, take, drop, Some, None, refl, ap, sym, subst, ◌∙◌, arith}
use Rattle.std.proofs.lemmas.List.{take_all, drop_all, length-drop}
use Rattle.image.specs.Image.{ImageValue}
use Rattle.machine.specs.World.{World}
use Rattle.machine.specs.Start.{started}
use Rattle.machine.specs.declared.choice.Choice.{Choice}
use Rattle.machine.proofs.RunLaws.{length-started}
use Rattle.trace_steps.specs.Explains.{Followed, follow, followed_run}
use Rattle.trace_steps.specs.declared.explaining.Explained.{Explained}
use Rattle.trace_steps.proofs.ExplainLemmas.{follows_append, follows_none, follows_one}
use Rattle.cmd_trace.specs.Cursor.{Has}
use Rattle.cmd_trace.specs.Teller.{TellsNext, Skips}
use Rattle.cmd_trace.specs.Trace.{followed_start}
use Rattle.cmd_trace.specs.declared.cursor.Cursor.{Cursor}

-- ---- lists that are cut where the first of the rest is known
pub cut : (left : List Choice) (i : ℕ) (c : Choice) (more : List Choice) → drop i left ≡ c ∷ more
    → (take (suc i) left ≡ take i left ++ c ∷ []) × (drop (suc i) left ≡ more)
cut [] i c more e = absurd (let f : ◌≡◌ {A = List Choice} [] (c ∷ more) = sym (drop_all i [] (omega arith)) ∙ e in cc)
cut (x ∷ left) zero c more e = (ap (λ l. take 1 l) e, ap (λ l. drop 1 l) e)
cut (x ∷ left) (suc i) c more e = let rest = cut left i c more e in (ap (λ l. x ∷ l) rest.0, rest.1)

pub past : (left : List Choice) (i : ℕ) → drop i left ≡ [] → length left ≤ i
past left i e = let f : length left - i ≡ 0 = sym (length-drop i left) ∙ ap length e in omega (arith, f)

-- ---- one choice after another
length-cut : (left : List Choice) (i : ℕ) (c : Choice) (more : List Choice) → drop i left ≡ c ∷ more → length (take i left) ≡ i
length-cut [] i c more e = absurd (let f : ◌≡◌ {A = List Choice} [] (c ∷ more) = sym (drop_all i [] (omega arith)) ∙ e in cc)
length-cut (x ∷ left) zero c more e = refl
length-cut (x ∷ left) (suc i) c more e = ap suc (length-cut left i c more e)

pub follows_more_by : (f now new : Followed) (k i : ℕ) (left : List Choice) (c : Choice) (more : List Choice) → drop i left ≡ c ∷ more
    → now ≡ followed_run f k (take i left) → new ≡ follow now (k + i) c → new ≡ followed_run f k (take (i + 1) left)
follows_more_by f now new k i left c more is so_far stepping =
    let next : i + 1 ≡ suc i = omega arith in
    stepping ∙ ap (λ g. follow g (k + i) c) so_far
    ∙ ap (λ n. follow (followed_run f k (take i left)) (k + n) c) (sym (length-cut left i c more is))
    ∙ sym (follows_append f k (take i left) (c ∷ []) ∙ follows_one (followed_run f k (take i left)) (k + length (take i left)) c)
    ∙ ap (followed_run f k) (sym (cut left i c more is).0) ∙ ap (λ n. followed_run f k (take n left)) (sym next)

pub none_skipped : (f : Followed) (k : ℕ) (cursor : Cursor) (left : List Choice) → Has cursor left → Skips 0 f f k cursor left
none_skipped f k cursor left has = (sym (follows_none f k), has)

pub skipped_more : (i k : ℕ) (f now new : Followed) (cursor after : Cursor) (left : List Choice) (t : Explained) → Skips i f now k cursor left
    → TellsNext now new (k + i) after (drop i left) (Some t) → Skips (i + 1) f new k after left
skipped_more i k f now new cursor after left t s (c, more, is, told, stepping, has) =
    let next : i + 1 ≡ suc i = omega arith in (
      follows_more_by f now new k i left c more is s.0 stepping,
      subst (λ l. Has after l) (sym (ap (λ n. drop n left) next ∙ (cut left i c more is).1)) has,
    )

pub skipped_all : (i count k : ℕ) (f now new : Followed) (cursor after : Cursor) (left : List Choice) → i ≤ count → Skips i f now k cursor left
    → TellsNext now new (k + i) after (drop i left) None → Skips count f new k after left
skipped_all i count k f now new cursor after left below s (none, same, has) =
    let short : length left ≤ i = past left i none in (
      same ∙ s.0 ∙ ap (followed_run f k) (take_all i left short ∙ sym (take_all count left (omega (arith, short, below)))),
      subst (λ l. Has after l) (none ∙ sym (drop_all count left (omega (arith, short, below)))) has,
    )

-- ---- the start
unreserved : (image : ImageValue) (inputs : List ℕ) (k : ℕ) → (started image inputs).reserved k ≡ None
unfolding started
unreserved image inputs k = refl

pub none_reserved : (image : ImageValue) (inputs : List ℕ) (w : World) → w ≡ started image inputs → (k : ℕ) → w.reserved k ≡ None
none_reserved image inputs w is k = ap (λ (v : World). v.reserved k) is ∙ unreserved image inputs k

pub so_many_harts : (image : ImageValue) (inputs : List ℕ) (w : World) → w ≡ started image inputs → length w.harts ≡ length inputs
so_many_harts image inputs w is = ap (λ (v : World). length v.harts) is ∙ length-started image inputs
