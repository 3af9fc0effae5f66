-- What a book is once it has taken a segment in.
use Rattle.std.proofs.Common.{◌≡◌, ℕ, ◌<◌, List, [], ◌∷◌, ◌++◌, length, Some, false, ap, sym, subst, ◌∙◌}
use Rattle.std.specs.Prelude.{slice_get}
use Rattle.std.specs.List.{All}
use Rattle.std.proofs.lemmas.List.Elements.{All-nil, All-cons, All-append}
use Rattle.image.specs.Image.{ImageValue}
use Rattle.image.specs.Segment.{SegmentValue}
use Rattle.mem_store.specs.Image.{segments_memory}
use Rattle.hart_step.specs.Hart.{hart_of}
use Rattle.hart_step.specs.declared.hart.Hart.{Hart}
use Rattle.hart_local.specs.CodeMemory.{code_in, code_segments}
use Rattle.hart_local.specs.LocalStep.{walk}
use Rattle.machine.specs.World.{World, step, run}
use Rattle.hart_local.specs.LocalRuns.{with_walked_hart}
use Rattle.history.specs.declared.entry.Entry.{Entry}
use Rattle.history.specs.History.{choice, entry, entry_choices}
use Rattle.thread_book.specs.Book.{BookValue, IsSoundBook, replayed, world_of, hart_in_book, book_code}
use Rattle.thread_book.specs.Segment.{SegmentState}
use Rattle.thread_book.specs.Kept.{IsBookKept}
use Rattle.thread_book.specs.Present.{IsCurrent, IsPresented}
use Rattle.thread_book.proofs.RunLemmas.{run_entry, replayed-more, replayed-code}

-- the hart was replaced by the one after its local steps, and took one step
pub entered : (w put after : World) (s t : SegmentState) → s ≡ t → slice_get w.harts t.hart ≡ Some (hart_of t.slot)
    → segments_memory t.code ≡ code_in w.memory → walk (segments_memory s.code) s.local (hart_of s.slot) ≡ Some (hart_of s.reached)
    → put ≡ with_walked_hart w s.hart (hart_of s.reached) → after ≡ step put (choice s.hart s.refuse)
    → after ≡ run w (entry_choices (entry t.hart t.local t.refuse))
entered w put after s t is there code walked was done =
    let here = ap (λ (s : SegmentState). slice_get w.harts s.hart) is ∙ there ∙ sym (ap (λ (s : SegmentState). Some (hart_of s.slot)) is) in
    let same = ap (λ (s : SegmentState). segments_memory s.code) is ∙ code in
    done ∙ ap (λ x. step x (choice s.hart s.refuse)) was
    ∙ sym (run_entry w (entry s.hart s.local s.refuse) (hart_of s.slot) (hart_of s.reached) here
    (ap (λ m. walk m s.local (hart_of s.slot)) (sym same) ∙ walked))
    ∙ ap (λ (s : SegmentState). run w (entry_choices (entry s.hart s.local s.refuse))) is

-- an entry of one of its harts leaves a book sound
pub sound_more : (b : BookValue) (e : Entry) → IsSoundBook b → e.hart < length b.inputs → IsSoundBook (record b { history = b.history ++ e ∷ [] })
sound_more b e sound there =
    let P : Entry → Type 0 = λ x. x.hart < length b.inputs in
    record {
      image = sound.image;
      inputs = sound.inputs;
      entries = All-append P b.history (e ∷ []) sound.entries (All-cons P e [] there (All-nil P));
    }

module _ (image : ImageValue) (inputs : List ℕ) (history : List Entry) where
  -- the code of a book is that in its memory
  pub kept_code : (code : List SegmentValue) (w : World) → IsBookKept image inputs history code w → segments_memory (code_segments image) ≡ code_in w.memory
  kept_code code w kept =
      ap segments_memory (sym kept.code_is) ∙ kept.memory ∙ sym (replayed-code image inputs history)
      ∙ sym (ap (λ (x : World). code_in x.memory) kept.replay)

  -- one entry more
  pub kept_more : (more : List Entry) (code : List SegmentValue) (w after : World) (e : Entry) → IsBookKept image inputs history code w
      → e.hart < length inputs → more ≡ history ++ e ∷ [] → after ≡ run w (entry_choices e) → IsBookKept image inputs more code after
  kept_more more code w after e kept there is done = record {
    sound = subst (λ (es : List Entry). IsSoundBook (record { image = image; inputs = inputs; history = es })) (sym is)
        (sound_more (record { image = image; inputs = inputs; history = history }) e kept.sound there);
    replay =
        done ∙ ap (λ x. run x (entry_choices e)) kept.replay ∙ sym (replayed-more image inputs history e)
        ∙ ap (replayed image inputs) (sym is);
    code_is = kept.code_is;
    memory = kept.memory;
  }

-- the book and the segment that `present` leaves
pub presented : (b new_b : BookValue) (s new_s : SegmentState) (number : ℕ) (slot : Hart) → s.hart < length b.inputs → IsCurrent b s
    → walk (segments_memory s.code) s.local (hart_of s.slot) ≡ Some (hart_of s.reached)
    → new_b ≡ record b { history = b.history ++ entry s.hart s.local s.refuse ∷ [] }
    → number ≡ s.hart → hart_in_book new_b number ≡ Some (hart_of slot)
    → new_s ≡ record s { slot = slot; local = 0; reached = slot; refuse = false }
    → IsPresented b s new_b new_s
presented b new_b s new_s number slot there current walked book same fresh is = record {
  there = there;
  current = current;
  walked = walked;
  book = book;
  world = ap (λ (v : BookValue). world_of v) book ∙ replayed-more b.image b.inputs b.history (entry s.hart s.local s.refuse);
  segment = record {
    hart = ap (λ (t : SegmentState). t.hart) is;
    current = (
      ap (λ (t : SegmentState). hart_in_book new_b t.hart) is ∙ ap (hart_in_book new_b) (sym same) ∙ fresh ∙ sym (ap (λ (t : SegmentState). Some (hart_of t.slot)) is),
      ap (λ (t : SegmentState). t.code) is ∙ current.1 ∙ sym (ap (λ (v : BookValue). book_code v) book),
    );
    local = ap (λ (t : SegmentState). t.local) is;
    reached = ap (λ (t : SegmentState). t.reached) is ∙ sym (ap (λ (t : SegmentState). t.slot) is);
    refuse = ap (λ (t : SegmentState). t.refuse) is;
  };
}
