use Rattle.std.proofs.Common.{ap, sym, ◌∙◌, None, false, Option}
use Rattle.std.specs.Prelude.{if◌then◌else◌, option_map}
use Rattle.mem_store.specs.Image.{image_memory}
use Rattle.mem_store.specs.Instruction.{instruction_at}
use Rattle.hart_reservations.specs.Reserve.{marks}
use Rattle.hart_step.specs.Effect.{site}
use Rattle.hart_step.specs.Hart.{hart_of}
use Rattle.hart_step.specs.Step.{stepped}
use Rattle.bank_step.specs.declared.words.Word.{Word}
use Rattle.bank_step.specs.Told.{touched_if, told_memory, word_by}
use Rattle.bank_step.proofs.StepLemmas.{instruction_stays, told_leaves}
use Rattle.bank_step.proofs.steps.told_step.Goals as goal

pub begin-requires : goal.begin-requires
begin-requires g c =
    let memory = c.args.memory.now in
    let m = image_memory memory.image.now in
    let pc = c.args.hart.now.pc in
    let access = c.args.access in
    instruction_stays m pc memory.code memory.touched c.word_by-target.result access c.args.known.found
    (c.requires.found ∙ ap (λ (t : Option Word). instruction_at (told_memory m memory.code memory.touched t) pc) c.requires.target)
    (c.word_by-target.ensures ∙ ap (λ (t : Option Word). word_by (told_memory m memory.code memory.touched t).bytes access) c.requires.target)
    ∙ ap (instruction_at (told_memory m memory.code memory.touched c.word_by-target.result)) (sym c.requires.here)

pub returns : goal.returns
returns g c = λ c' v ok code touched asked.
    let memory = c.args.memory.now in
    let m = image_memory memory.image.now in
    let h = hart_of c.args.hart.now in
    let pc = c.args.hart.now.pc in
    let access = c.args.access in
    let target = c.word_by-target.result in
    let r = marks c.reserve_of-reserve.result in
    told_leaves m (told_memory (image_memory c.step_hart.new.store.image.now) c.step_hart.new.store.code c.step_hart.new.store.touched c.step_hart.new.store.target)
    h (hart_of c.step_hart.new.hart) c' v c.args.succeeds ok memory.code memory.touched target access r (marks c.step_hart.new.reserve)
    code touched
    (c.requires.access ∙ ap (λ found. touched_if found h) (c.requires.found ∙ ap (λ (t : Option Word). instruction_at (told_memory m memory.code memory.touched t) pc) c.requires.target))
    (c.word_by-target.ensures ∙ ap (λ (t : Option Word). word_by (told_memory m memory.code memory.touched t).bytes access) c.requires.target)
    asked
    (c.reserve_of-reserve.ensures ∙ ap (λ (t : Option Word). if c.args.succeeds then option_map (λ (w : Word). w.address) t else None) c.begin.ensures.touched)
    (c.in-Ok.ensures.ok ∙ (λ i. stepped 0 false (site h (told_memory (image_memory (c.begin.ensures.image i)) (c.begin.ensures.code i) (c.begin.ensures.touched i) (c.begin.ensures.target i)) r)))
