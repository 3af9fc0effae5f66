-- The step table of an image's harts. A step knows the image's memory and is given the word at pc,
-- unless that is code, and the one word that its instruction touches.
use Rattle.std.specs.Prelude.{ℕ, ◌+◌, ◌%◌, ◌^◌, Bool, true, false, not, ◌&&◌, if◌then◌else◌, [], Option, Some, None}
use Rattle.mem_store.specs.Memory.{Memory, to_execute, to_write, grants, all_below, granted, around}
use Rattle.hart_step.specs.Hart.{HartValue}
use Rattle.hart_step.specs.Effect.{Site, site}
use Rattle.hart_step.specs.Step.{stepped}
use Rattle.hart_step.specs.declared.hart.HartState.{HartState}
use Rattle.hart_step.specs.declared.hart.HartState.TheVariants.{Running, Exited, Faulted}
use Rattle.bank_laws.specs.Banks.{WordBytes}
use Rattle.bank_laws.specs.Runs.{StepTable, Touch}
use Rattle.bank_laws.specs.Words.{bytes_at, with_four_if}
use Rattle.bank_laws.specs.Carried.{carried_in, touch_of}

-- whether none of the four bytes from an address on, modulo 2^32, is writable
abbrev pub is_unwritable : Memory → ℕ → Bool
is_unwritable m address =
    all_below 4 (λ k. not (grants to_write ((around m).rights (address + k))))

-- the word that a hart must read to know its instruction: none if it has stopped or may not execute
-- the word, and none if the word is code, which never differs from the image
abbrev pub needed_code : HartState → Memory → ℕ → Option ℕ
needed_code Running m pc =
    if granted to_execute (around m) 4 pc && not (is_unwritable m pc)
    then Some (pc % 2 ^ 32)
    else None
needed_code (Exited status) m pc = None
needed_code (Faulted cause) m pc = None

-- the image's bytes, with the needed word in place
abbrev pub code_bytes : Memory → HartValue → WordBytes → ℕ → ℕ
code_bytes m h c = with_four_if m.bytes (needed_code h.state m h.pc) c

-- a memory with the image's rights and these bytes
abbrev pub image_with_bytes : Memory → (ℕ → ℕ) → Memory
image_with_bytes m bytes = record { rights = m.rights; bytes = bytes }

-- the word that the hart's next step touches, if any
abbrev pub planned : Memory → HartValue → WordBytes → Option Touch
planned m h c = touch_of (carried_in h.state (image_with_bytes m (code_bytes m h c)) h)

-- the word of a touch
abbrev pub word_in : Option Touch → Option ℕ
word_in None = None
word_in (Some t) = Some t.word

-- what a step is given: the needed word, the touched word, and whether the hart reserved that
abbrev pub told : Memory → HartValue → WordBytes → WordBytes → Bool → Site
told m h c v ok =
    let word = word_in (planned m h c) in
    site h (image_with_bytes m (with_four_if (code_bytes m h c) word v)) (λ k. if ok then word else None)

-- the bytes of the touched word at a site
abbrev pub bytes_left : Option Touch → Site → WordBytes
bytes_left None s = []
bytes_left (Some t) s = bytes_at s.memory.bytes t.word

-- the step table of an image's harts; an SC stores only if the hart has its word reserved
abbrev pub table : Memory → StepTable HartValue
table m = record {
  need = λ h. needed_code h.state m h.pc;
  plan = λ h c. planned m h c;
  after = λ h c v ok. (stepped 0 false (told m h c v ok)).hart;
  stored = λ h c v. bytes_left (planned m h c) (stepped 0 false (told m h c v true));
}
