-- The table's step, case by case.
use Rattle.std.proofs.Common.{◌≡◌, ℕ, ◌%◌, [], Bool, true, false, not, ◌&&◌, Option, Some, None, refl, ap, sym, ◌∙◌, eq-eqb, arith}
use Rattle.mem_store.specs.Memory.{Memory}
use Rattle.hart_reservations.specs.Marks.{Marks, with_mark, without_mark, names, ended, word_of}
use Rattle.hart_step.specs.Hart.{HartValue}
use Rattle.hart_step.specs.Effect.{Site}
use Rattle.hart_step.specs.Step.{stepped}
use Rattle.hart_step.specs.Laws.{Keeps, IsAligned}
use Rattle.bank_laws.specs.Banks.{WordBytes, with_word_bytes}
use Rattle.bank_laws.specs.Runs.{Reads, Writes, Reserves, Tries, Touch, TableWorld, StepTable, word_found, done, touching, table_step, put_at}
use Rattle.bank_laws.specs.Table.{table}
use Rattle.bank_laws.specs.Shown.{ShowsSite}
use Rattle.bank_laws.proofs.StepLemmas.{step_shows}
use Rattle.explore_sites.specs.Sites.{one_hart, StepsTo, ShowsOne}

-- ---- the machine's step
pub machine_steps : (m : Memory) (k : ℕ) (refuse : Bool) (h new_h : HartValue) (values new_values : ℕ → WordBytes) (r new_r : Marks)
    (s : Site) → Keeps m s.memory → IsAligned s.hart → ShowsOne h values r s
    → StepsTo (table m) k refuse h new_h values new_values r new_r → ShowsOne new_h new_values new_r (stepped k refuse s)
machine_steps m k refuse h new_h values new_values r new_r s keeps aligned shows steps =
    let after : ShowsSite (table_step (table m) (one_hart h values r) k refuse) k (stepped k refuse s)
    = step_shows m k refuse s (one_hart h values r) keeps aligned
    (record { hart = shows.hart; values = shows.words; marks = shows.marks }) in
    record {
      hart = steps.hart ∙ after.hart;
      words = λ x at. ap (λ (f : ℕ → WordBytes). f x) steps.words ∙ after.values x at;
      marks = steps.marks ∙ after.marks;
    }

-- ---- by what is touched
module _ (T : StepTable HartValue) (k : ℕ) (refuse : Bool) (h : HartValue) (values : ℕ → WordBytes) (r : Marks) where
  abbrev pub code_of : WordBytes
  code_of = word_found (T.need h) values

  abbrev after_done : Option Touch → TableWorld HartValue
  after_done o = done T (one_hart h values r) k refuse h code_of o

  here : (f : ℕ → HartValue) (v : HartValue) → v ≡ put_at f k v k
  here f v = rw (eq-eqb k k refl) refl

  steps_by : (o : Option Touch) → T.plan h code_of ≡ o → (new_h : HartValue) (new_values : ℕ → WordBytes) (new_r : Marks)
      → new_h ≡ (after_done o).harts k → new_values ≡ (after_done o).shared.values → new_r ≡ (after_done o).shared.marks
      → StepsTo T k refuse h new_h values new_values r new_r
  steps_by o e new_h new_values new_r a b c = record {
    hart = a ∙ ap (λ p. (after_done p).harts k) (sym e);
    words = b ∙ ap (λ p. (after_done p).shared.values) (sym e);
    marks = c ∙ ap (λ p. (after_done p).shared.marks) (sym e);
  }

  pub none_touched : (new_h : HartValue) → T.plan h code_of ≡ None → new_h ≡ T.after h code_of [] false
      → StepsTo T k refuse h new_h values values r r
  none_touched new_h e a = steps_by None e new_h values r (a ∙ here (λ _. h) _) refl refl

  pub word_read : (new_h : HartValue) (x : ℕ) → T.plan h code_of ≡ Some (record { act = Reads; word = x })
      → new_h ≡ T.after h code_of (values x) false → StepsTo T k refuse h new_h values values r r
  word_read new_h x e a = steps_by _ e new_h values r (a ∙ here (λ _. h) _) refl refl

  pub word_reserved : (new_h : HartValue) (new_r : Marks) (x : ℕ) → T.plan h code_of ≡ Some (record { act = Reserves; word = x })
      → new_h ≡ T.after h code_of (values x) false → new_r ≡ with_mark r k x → StepsTo T k refuse h new_h values values r new_r
  word_reserved new_h new_r x e a c = steps_by _ e new_h values new_r (a ∙ here (λ _. h) _) refl c

  pub word_written : (new_h : HartValue) (new_values : ℕ → WordBytes) (new_r : Marks) (x : ℕ) (v : WordBytes)
      → T.plan h code_of ≡ Some (record { act = Writes; word = x }) → x % 4 ≡ 0 → new_h ≡ T.after h code_of (values x) false
      → v ≡ T.stored h code_of (values x) → new_values ≡ with_word_bytes values x v → new_r ≡ ended r k (word_of x)
      → StepsTo T k refuse h new_h values new_values r new_r
  word_written new_h new_values new_r x v e aligned a s b c =
      steps_by _ e new_h new_values new_r (a ∙ here (λ _. h) _) (b ∙ ap (with_word_bytes values x) s)
      (c ∙ ap (ended r k) (word_is x aligned))
    where
      word_is : (x : ℕ) → x % 4 ≡ 0 → word_of x ≡ x
      word_is x e = omega (arith, e)

  abbrev tried : ℕ → Bool → TableWorld HartValue
  tried x ok = touching T (one_hart h values r) k h code_of (record { act = Tries; word = x }) ok

  pub word_stored : (new_h : HartValue) (new_values : ℕ → WordBytes) (new_r : Marks) (x : ℕ) (v : WordBytes) (ok : Bool)
      → T.plan h code_of ≡ Some (record { act = Tries; word = x }) → x % 4 ≡ 0 → ok ≡ (not refuse && names (r k) x) → ok ≡ true
      → new_h ≡ T.after h code_of (values x) true → v ≡ T.stored h code_of (values x) → new_values ≡ with_word_bytes values x v
      → new_r ≡ without_mark (ended r k (word_of x)) k → StepsTo T k refuse h new_h values new_values r new_r
  word_stored new_h new_values new_r x v ok e aligned is yes_ a s b c =
      let holds : true ≡ (not refuse && names (r k) x) = sym yes_ ∙ is in
      steps_by _ e new_h new_values new_r (a ∙ here (λ _. h) _ ∙ ap (λ o. (tried x o).harts k) holds)
      (b ∙ ap (with_word_bytes values x) s ∙ ap (λ o. (tried x o).shared.values) holds)
      (c ∙ ap (λ y. without_mark (ended r k y) k) (word_is x aligned) ∙ ap (λ o. (tried x o).shared.marks) holds)
    where
      word_is : (x : ℕ) → x % 4 ≡ 0 → word_of x ≡ x
      word_is x e = omega (arith, e)

  pub word_kept : (new_h : HartValue) (new_r : Marks) (x : ℕ) (ok : Bool) → T.plan h code_of ≡ Some (record { act = Tries; word = x })
      → ok ≡ (not refuse && names (r k) x) → ok ≡ false → new_h ≡ T.after h code_of (values x) false → new_r ≡ without_mark r k
      → StepsTo T k refuse h new_h values values r new_r
  word_kept new_h new_r x ok e is no_ a c =
      let fails : false ≡ (not refuse && names (r k) x) = sym no_ ∙ is in
      steps_by _ e new_h values new_r (a ∙ here (λ _. h) _ ∙ ap (λ o. (tried x o).harts k) fails)
      (ap (λ o. (tried x o).shared.values) fails) (c ∙ ap (λ o. (tried x o).shared.marks) fails)
