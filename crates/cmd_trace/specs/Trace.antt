-- The output of `trace`: the head, and what each traced choice did.
use Rattle.std.specs.Prelude.{ℕ, ◌+◌, ◌-◌, min, max, Bool, true, false, ◌&&◌, nat_lt, List, [], ◌∷◌, ◌++◌, length, take, drop, Option, Some, None, if◌then◌else◌}
use Rattle.image.specs.Image.{ImageValue}
use Rattle.elf_read.specs.Symbol.{SymbolValue}
use Rattle.hart_reservations.specs.Marks.{Marks}
use Rattle.hart_step.specs.Hart.{HartValue}
use Rattle.machine.specs.Start.{started}
use Rattle.machine.specs.World.{World}
use Rattle.machine.specs.declared.choice.Choice.{Choice}
use Rattle.trace_steps.specs.Explains.{Followed, explains, followed, followed_run}
use Rattle.trace_steps.specs.declared.explaining.Explained.{Explained}
use Rattle.trace_steps.specs.declared.told.ToldAccess.{ToldAccess}
use Rattle.trace_text.specs.Table.{head_rows, table_row}
use Rattle.trace_text.specs.Head.{head_line}
use Rattle.trace_text.specs.Line.{line_of}
use Rattle.trace_text.specs.declared.head.Span.{Span}
use Rattle.cmd_trace.specs.Page.{PageValue}
use Rattle.cmd_trace.specs.declared.plan.TraceForm.{TraceForm}
use Rattle.cmd_trace.specs.declared.plan.TraceForm.TheVariants as form
use Rattle.cmd_trace.specs.declared.plan.TracePlan.{TracePlan}

-- the number of the choice before which a trace ends, given the number of choices
abbrev pub traced_end : Option ℕ → ℕ → ℕ
traced_end None count = count
traced_end (Some to) count = min to count

-- the first traced choice, and one more than the last; the same number twice if none is traced
abbrev pub traced_span : TracePlan → ℕ → Span
traced_span plan count = record { from = plan.from; to = max plan.from (traced_end plan.to count) }

-- number of traced choices
abbrev pub told_count : Span → ℕ
told_count span = span.to - span.from

-- the harts from number h on, each with the word that it has reserved
abbrev pub harts_from : Marks → ℕ → List HartValue → List (HartValue × Option ℕ)
harts_from r h [] = []
harts_from r h (hart ∷ harts) = (hart, r h) ∷ harts_from r (h + 1) harts

-- the head of the trace, in the world before the first traced choice
abbrev pub trace_head : TraceForm → ℕ → List ℕ → Span → List SymbolValue → World → List ℕ
trace_head form.Lines entry inputs span symbols w = head_line entry inputs span symbols (harts_from w.reserved 0 w.harts)
trace_head form.Table entry inputs span symbols w = head_rows (length inputs)
trace_head form.Shared entry inputs span symbols w = head_rows (length inputs)

-- a text, where an instruction accesses memory
abbrev pub where_accessed : Option ToldAccess → List ℕ → List ℕ
where_accessed None text = []
where_accessed (Some access) text = text

-- the text of choice k in a form
abbrev pub entry_in : TraceForm → PageValue → Explained → ℕ → List ℕ
entry_in form.Lines page e k = line_of e.told k
entry_in form.Table page e k = table_row page.symbols e k page.harts
entry_in form.Shared page e k = where_accessed e.told.access (table_row page.symbols e k page.harts)

-- one of the bytes of an access is one of the four of a word
abbrev pub is_at_word : ℕ → ToldAccess → Bool
is_at_word word access = nat_lt access.address (word + 4) && nat_lt word (access.address + access.size)

-- a choice whose instruction has this access is traced: each one, or those of a word alone
abbrev pub is_told : Option ℕ → Option ToldAccess → Bool
is_told None access = true
is_told (Some word) None = false
is_told (Some word) (Some access) = is_at_word word access

-- the text of choice k
abbrev pub choice_entry : PageValue → Explained → ℕ → List ℕ
choice_entry page e k = if is_told page.word e.told.access then entry_in page.form page e k else []

-- the texts of choices that are numbered from k on
unfoldable pub entries : PageValue → ℕ → List Explained → List ℕ
entries page k [] = []
entries page k (e ∷ more) = choice_entry page e k ++ entries page (k + 1) more

-- the texts of the traced choices, which are the first of some choices
abbrev pub told_entries : PageValue → Span → Followed → List Choice → List ℕ
told_entries page span f choices = entries page span.from (explains f span.from (take (told_count span) choices))

-- how the traced choices of a run are written
abbrev pub page_of : TracePlan → List SymbolValue → List ℕ → PageValue
page_of plan symbols inputs =
    record { form = plan.form; harts = length inputs; symbols = symbols; word = plan.word }

-- the start of a run: no reservation has ended
abbrev pub followed_start : ImageValue → List ℕ → Followed
followed_start image inputs = followed (started image inputs) (λ h. None)

-- the trace of a run of an image
unfoldable pub trace_text : TracePlan → ImageValue → List SymbolValue → List ℕ → List Choice → List ℕ
trace_text plan image symbols inputs choices =
    let span = traced_span plan (length choices) in
    let before = followed_run (followed_start image inputs) 0 (take span.from choices) in
    trace_head plan.form image.entry inputs span symbols before.world
    ++ told_entries (page_of plan symbols inputs) span before (drop span.from choices)
