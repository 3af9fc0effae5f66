-- Plans of traces.
use Rattle.std.specs.Prelude.{ℕ, ◌^◌, Bool, true, false, List, Option, Some, None, option_map}
use Rattle.std.specs.Borrow.{Bor}
use Rattle.cli_args.specs.Numbers.{number_below}
use Rattle.cmd_trace.specs.declared.plan.TraceForm.{TraceForm}
use Rattle.cmd_trace.specs.declared.plan.TraceForm.TheVariants as form
use Rattle.cmd_trace.specs.declared.plan.TracePlan.{TracePlan}

-- the number in a text: 0 to 2 ^ 64 - 1
abbrev pub choice_number_of : List ℕ → Option ℕ
choice_number_of text = number_below (2 ^ 64) text

-- the first traced choice: the first of all by default
abbrev pub first_choice_of : Option (Bor (List ℕ)) → Option ℕ
first_choice_of None = Some 0
first_choice_of (Some text) = choice_number_of text.now

-- the choice before which the trace ends: there is none by default
abbrev pub end_choice_of : Option (Bor (List ℕ)) → Option (Option ℕ)
end_choice_of None = Some None
end_choice_of (Some text) = option_map (λ number. Some number) (choice_number_of text.now)

-- how the trace is written
abbrev pub form_of : Bool → Bool → TraceForm
form_of table true = form.Shared
form_of true false = form.Table
form_of false false = form.Lines

-- the plan of these numbers, of all words
abbrev pub plan_with : TraceForm → Option ℕ → Option (Option ℕ) → Option TracePlan
plan_with how None end = None
plan_with how (Some first) None = None
plan_with how (Some first) (Some end) = Some (record { form = how; from = first; to = end; word = None })

-- the plan of the order's texts
abbrev pub trace_plan_of : Bool → Bool → Option (Bor (List ℕ)) → Option (Bor (List ℕ)) → Option TracePlan
trace_plan_of table shared from to =
    plan_with (form_of table shared) (first_choice_of from) (end_choice_of to)
