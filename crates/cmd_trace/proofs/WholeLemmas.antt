-- The whole text of a trace, by its parts.
use Rattle.std.proofs.Common.{◌≡◌, ℕ, List, ◌++◌, length, take, drop, Option, refl, ap, sym, ◌∙◌}
use Rattle.std.proofs.KnownBytes.{Appends-nil}
use Rattle.image.specs.Image.{ImageValue}
use Rattle.elf_read.specs.Symbol.{SymbolValue}
use Rattle.machine.specs.declared.choice.Choice.{Choice}
use Rattle.trace_steps.specs.Explains.{Followed, followed_run}
use Rattle.trace_text.specs.declared.head.Span.{Span}
use Rattle.program_open.specs.Answers.{Begins}
use Rattle.cmd_trace.specs.Output.{SoFar}
use Rattle.cmd_trace.specs.Page.{PageValue}
use Rattle.cmd_trace.specs.declared.plan.TraceForm.{TraceForm}
use Rattle.cmd_trace.specs.Trace.{followed_start, page_of, trace_head, traced_span, told_entries, trace_text}
use Rattle.cmd_trace.specs.declared.plan.TracePlan.{TracePlan}
use Rattle.cmd_trace.proofs.OutputLemmas.{begun_with}

trace_of : (plan : TracePlan) (image : ImageValue) (symbols : List SymbolValue) (inputs : List ℕ) (choices : List Choice)
    → let span = traced_span plan (length choices) in
    let before = followed_run (followed_start image inputs) 0 (take span.from choices) in
    trace_text plan image symbols inputs choices
    ≡ trace_head plan.form image.entry inputs span symbols before.world ++ told_entries (page_of plan symbols inputs) span before (drop span.from choices)
unfolding trace_text
trace_of plan image symbols inputs choices = refl

-- the head is in the buffer, and the choices are to come
pub head_waits : (plan : TracePlan) (image : ImageValue) (symbols : List SymbolValue) (inputs : List ℕ) (choices : List Choice) (count : ℕ)
    (span : Span) (begin f : Followed) (buffer : List ℕ) (start : Option (List ℕ)) → span ≡ traced_span plan count → count ≡ length choices
    → begin ≡ followed_start image inputs → f ≡ followed_run begin 0 (take span.from choices)
    → buffer ≡ trace_head plan.form image.entry inputs span symbols f.world
    → SoFar (trace_text plan image symbols inputs choices) start start buffer
    (told_entries (page_of plan symbols inputs) span f (drop span.from choices))
head_waits plan image symbols inputs choices count span begin f buffer start is counted begins reached head =
    begun_with (trace_text plan image symbols inputs choices) buffer (told_entries (page_of plan symbols inputs) span f (drop span.from choices)) start
    (sym (ap (λ (l : List ℕ). l ++ told_entries (page_of plan symbols inputs) span f (drop span.from choices)) head
    ∙ ap (λ (v : Followed). trace_head plan.form image.entry inputs span symbols v.world ++ told_entries (page_of plan symbols inputs) span v (drop span.from choices))
    (reached ∙ ap (λ (v : Followed). followed_run v 0 (take span.from choices)) begins)
    ∙ ap (λ (s : Span). let before = followed_run (followed_start image inputs) 0 (take s.from choices) in
    trace_head plan.form image.entry inputs s symbols before.world ++ told_entries (page_of plan symbols inputs) s before (drop s.from choices))
    (is ∙ ap (traced_span plan) counted)
    ∙ sym (trace_of plan image symbols inputs choices)))

-- nothing was written
pub begins_nothing : (all : List ℕ) (start : Option (List ℕ)) → Begins all start start
begins_nothing all start = (0, Appends-nil start)

-- a page with the same number of harts and the same symbols
pub page_is : (form : TraceForm) (harts n : ℕ) (symbols seen : List SymbolValue) (word : Option ℕ) → n ≡ harts → seen ≡ symbols
    → ◌≡◌ {A = PageValue} (record { form = form; harts = harts; symbols = symbols; word = word })
    (record { form = form; harts = n; symbols = seen; word = word })
page_is form harts n symbols seen word e f = rw (e, f) refl
