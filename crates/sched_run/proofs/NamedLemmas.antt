-- A run that an item denotes is of a hart that exists, and has at least one choice.
use Rattle.std.proofs.Common.{◌≡◌, ℕ, ◌<◌, Bool, true, false, List, [], ◌∷◌, Option, Some, None, Ok, Err, refl, arith, ap, subst, ltb-true}
use Rattle.std.specs.Prelude.{◌&&◌, if◌then◌else◌, nat_lt}
use Rattle.std.specs.declared.result.Result.{Result}
use Rattle.text_items.specs.Numbers.{number_of, has_mark, unmarked, before_byte, from_byte}
use Rattle.sched_text.specs.declared.run.Run.{Run}
use Rattle.sched_text.specs.declared.choice_text.ChoiceFault.{ChoiceFault}
use Rattle.sched_text.specs.declared.choice_text.ChoiceFault.TheVariants.{NoHart}
use Rattle.sched_text.specs.Runs.{choice_run}
use Rattle.sched_text.specs.Reading.{count_in, count_of, run_by, run_of}

number_or : Option ℕ → ℕ
number_or None = 0
number_or (Some n) = n

hart_or : Result Run ChoiceFault → ℕ
hart_or (Ok r) = r.choice.hart
hart_or (Err fault) = 0

count_or : Result Run ChoiceFault → ℕ
count_or (Ok r) = r.count
count_or (Err fault) = 0

counted_some : (o : Option ℕ) (n : ℕ) → count_in o ≡ Some n → 0 < n
unfolding number_or
counted_some None n e = absurd (cc)
counted_some (Some m) n e = by (nat_lt 0 m) refl (nat_lt m 16777217) e
  where
    by : (a : Bool) → nat_lt 0 m ≡ a → (b : Bool) → ◌≡◌ {A = Option ℕ} (if a && b then Some m else None) (Some n) → 0 < n
    by true low true is = subst (λ k. 0 < k) (ap number_or is) (ltb-true 0 m low)
    by true low false is = absurd (cc)
    by false low b is = absurd (cc)

count_some : (counted : List ℕ) (n : ℕ) → count_of counted ≡ Some n → 0 < n
unfolding number_or
count_some [] n e = let once : 1 ≡ n = ap number_or e in omega (arith, once)
count_some (star ∷ digits) n e = counted_some (number_of digits) n e

by_parts : (hart count : Option ℕ) (harts at : ℕ) (refuse : Bool) (r : Run) → ((n : ℕ) → count ≡ Some n → 0 < n)
    → run_by hart count harts at refuse ≡ Ok r → (r.choice.hart < harts) × (0 < r.count)
unfolding hart_or count_or
by_parts None count harts at refuse r some e = absurd (cc)
by_parts (Some h) None harts at refuse r some e = absurd (cc)
by_parts (Some h) (Some n) harts at refuse r some e = by (nat_lt h harts) refl e
  where
    by : (b : Bool) → nat_lt h harts ≡ b
        → ◌≡◌ {A = Result Run ChoiceFault} (if b then Ok (choice_run (record { hart = h; refuse = refuse }) n) else Err (NoHart at)) (Ok r)
        → (r.choice.hart < harts) × (0 < r.count)
    by true is same = (subst (λ k. k < harts) (ap hart_or same) (ltb-true h harts is), subst (λ k. 0 < k) (ap count_or same) (some n refl))
    by false is same = absurd (cc)

pub named_there : (harts at : ℕ) (item : List ℕ) (r : Run) → run_of harts at item ≡ Ok r → (r.choice.hart < harts) × (0 < r.count)
named_there harts at item r e =
    by_parts (number_of (unmarked (before_byte 42 item))) (count_of (from_byte 42 item)) harts at (has_mark (before_byte 42 item)) r
    (count_some (from_byte 42 item)) e
