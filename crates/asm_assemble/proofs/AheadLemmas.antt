-- References ahead, found from the last statement to the first.
use Rattle.std.proofs.Common.{◌≡◌, ℕ, suc, ◌+◌, ◌<◌, ◌%◌, ◌^◌, cond, List, [], ◌∷◌, ◌++◌, Option, Some, refl, sym, ap, ◌∙◌, subst, append_assoc, length, get_or, drop, arith}
use Rattle.std.specs.Prelude.{reverse}
use Rattle.std.proofs.Math.Nat.{mod-mod}
use Rattle.std.proofs.lemmas.List.{drop_more, drop_all, length-reverse, reverse-append}
use Rattle.asm_statement.specs.Statement.{StatementValue, BodyValue}
use Rattle.asm_statement.specs.declared.operand.Target.{Target}
use Rattle.asm_statement.specs.declared.operand.Target.TheVariants as targets
use Rattle.asm_statement.specs.declared.statement.Body.TheVariants as body
use Rattle.asm_statement.specs.declared.statement.Instruction.TheVariants as read
use Rattle.asm_assemble.specs.declared.cursor.Cursor.{Cursor}
use Rattle.asm_assemble.specs.declared.locals.Place.{Place}
use Rattle.asm_assemble.specs.Cursors.{cursor_address, stepped_cursor}
use Rattle.asm_assemble.specs.Operands.{found}
use Rattle.asm_assemble.specs.Locals.{Local, in_source, local_place, is_local_name, ahead_of, local_label_at, local_target, local_label_of}
use Rattle.asm_assemble.specs.Ahead.{addresses, ahead_in, target_ahead, reference, references, target_by, local_by}

-- as many addresses as statements
pub length_addresses : (c : Cursor) (ss : List StatementValue) → length (addresses c ss) ≡ length ss
unfolding addresses
length_addresses c [] = refl
length_addresses c (s ∷ ss) = ap suc (length_addresses (stepped_cursor c s.body) ss)

-- a place by its address modulo 2^32
placed_again : (source at : ℕ) → local_place source (at % 2 ^ 32) ≡ local_place source at
placed_again source at = ap (λ (a : ℕ). record { source = source; address = a }) (mod-mod at (2 ^ 32))

-- the next label by the addresses is the next label
pub same_ahead : (c : Cursor) (ss : List StatementValue) (q : List ℕ) → ahead_in (addresses c ss) ss q ≡ ahead_of c ss q
unfolding addresses ahead_in ahead_of
same_ahead c [] q = refl
same_ahead c (s ∷ ss) q =
    ap (λ p. cond (is_local_name q s.body) (Some p) (ahead_in (addresses (stepped_cursor c s.body) ss) ss q)) (placed_again s.source (cursor_address c))
    ∙ ap (cond (is_local_name q s.body) (Some (local_place s.source (cursor_address c)))) (same_ahead (stepped_cursor c s.body) ss q)

same_target : (f g : List ℕ → Option Place) (source : ℕ) (t : Target) → ((q : List ℕ) → f q ≡ g q) → target_ahead f source t ≡ target_ahead g source t
unfolding target_ahead
same_target f g source (targets.Ahead digits) h = ap (in_source source) (h digits)
same_target f g source (targets.Back digits) h = refl
same_target f g source (targets.Address n) h = refl
same_target f g source (targets.Symbol name) h = refl

-- a reference depends on the labels by what is found among them
pub same_reference : (f g : List ℕ → Option Place) (source : ℕ) (b : BodyValue) → ((q : List ℕ) → f q ≡ g q) → reference f source b ≡ reference g source b
unfolding reference
same_reference f g source (body.Instruction (read.Jal rd target)) h = same_target f g source target h
same_reference f g source (body.Instruction (read.Branch op rs1 rs2 target)) h = same_target f g source target h
same_reference f g source (body.Instruction (read.Fixed i)) h = refl
same_reference f g source (body.Instruction (read.Lui rd imm)) h = refl
same_reference f g source (body.Instruction (read.Auipc rd imm)) h = refl
same_reference f g source (body.Instruction (read.Jalr rd rs1 imm)) h = refl
same_reference f g source (body.Instruction (read.Load op rd rs1 imm)) h = refl
same_reference f g source (body.Instruction (read.Store op rs1 rs2 imm)) h = refl
same_reference f g source (body.Instruction (read.Immediate op rd rs1 imm)) h = refl
same_reference f g source (body.Instruction (read.Shift op rd rs1 amount)) h = refl
same_reference f g source (body.Label name) h = refl
same_reference f g source (body.LocalLabel name) h = refl
same_reference f g source (body.Pseudo p) h = refl
same_reference f g source (body.Directive d) h = refl

by_target : (before : List Local) (next : Cursor) (after : List StatementValue) (source : ℕ) (t : Target)
    → target_by before (target_ahead (ahead_of next after) source t) source t ≡ local_target before next after source t
unfolding target_by target_ahead local_target
by_target before next after source (targets.Ahead digits) = refl
by_target before next after source (targets.Back digits) = refl
by_target before next after source (targets.Address n) = refl
by_target before next after source (targets.Symbol name) = refl

by_reference : (before : List Local) (next : Cursor) (after : List StatementValue) (source : ℕ) (b : BodyValue)
    → local_by before (reference (ahead_of next after) source b) source b ≡ local_label_of before next after source b
unfolding local_by reference local_label_of
by_reference before next after source (body.Instruction (read.Jal rd target)) = by_target before next after source target
by_reference before next after source (body.Instruction (read.Branch op rs1 rs2 target)) = by_target before next after source target
by_reference before next after source (body.Instruction (read.Fixed i)) = refl
by_reference before next after source (body.Instruction (read.Lui rd imm)) = refl
by_reference before next after source (body.Instruction (read.Auipc rd imm)) = refl
by_reference before next after source (body.Instruction (read.Jalr rd rs1 imm)) = refl
by_reference before next after source (body.Instruction (read.Load op rd rs1 imm)) = refl
by_reference before next after source (body.Instruction (read.Store op rs1 rs2 imm)) = refl
by_reference before next after source (body.Instruction (read.Immediate op rd rs1 imm)) = refl
by_reference before next after source (body.Instruction (read.Shift op rd rs1 amount)) = refl
by_reference before next after source (body.Label name) = refl
by_reference before next after source (body.LocalLabel name) = refl
by_reference before next after source (body.Pseudo p) = refl
by_reference before next after source (body.Directive d) = refl

-- a label that is noted is the next one before its statement
noted : (f : List ℕ → Option Place) (old : List Local) (source at : ℕ) (b : BodyValue) (q : List ℕ) → found old q ≡ f q
    → found (local_label_at source at b ++ old) q ≡ cond (is_local_name q b) (Some (local_place source at)) (f q)
unfolding found local_label_at is_local_name
noted f old source at (body.LocalLabel digits) q h = ap (λ rest. cond (is_local_name q (body.LocalLabel digits)) (Some (local_place source at)) rest) h
noted f old source at (body.Label name) q h = h
noted f old source at (body.Instruction i) q h = h
noted f old source at (body.Pseudo p) q h = h
noted f old source at (body.Directive d) q h = h

-- what is left of a list from an item on
from_item : {X : Type 0} (xs : List X) (i : ℕ) (x d : X) → i < length xs → x ≡ get_or xs i d → drop i xs ≡ x ∷ drop (i + 1) xs
from_item xs i x d below is = drop_more xs i d below ∙ ap (λ y. y ∷ drop (i + 1) xs) (sym is)

-- one statement more from the end: the labels
pub more_labels : (ats : List ℕ) (ss : List StatementValue) (i a d : ℕ) (s : StatementValue) (at : ℕ) (old new : List Local)
    → i < length ats → i < length ss → a ≡ get_or ats i d → s ≡ get_or ss i s → at ≡ a
    → ((q : List ℕ) → found new q ≡ found (local_label_at s.source at s.body ++ old) q)
    → ((q : List ℕ) → found old q ≡ ahead_in (drop (i + 1) ats) (drop (i + 1) ss) q)
    → (q : List ℕ) → found new q ≡ ahead_in (drop i ats) (drop i ss) q
unfolding ahead_in
more_labels ats ss i a d s at old new in_ats in_ss is_a is_s here notes same q =
    let ea = from_item ats i a d in_ats is_a in
    let es = from_item ss i s s in_ss is_s in
    notes q
    ∙ (noted (ahead_in (drop (i + 1) ats) (drop (i + 1) ss)) old s.source at s.body q (same q)
    ∙ (ap (λ b. cond (is_local_name q s.body) (Some (local_place s.source b)) (ahead_in (drop (i + 1) ats) (drop (i + 1) ss) q)) here
    ∙ (ap (λ xs. ahead_in xs (s ∷ drop (i + 1) ss) q) (sym ea) ∙ ap (λ xs. ahead_in (drop i ats) xs q) (sym es))))

-- one statement more from the end: the references
pub more_references : (ats : List ℕ) (ss : List StatementValue) (i a d : ℕ) (s : StatementValue) (old : List Local) (items made : List (Option ℕ)) (v : Option ℕ)
    → i < length ats → i < length ss → a ≡ get_or ats i d → s ≡ get_or ss i s
    → made ≡ items ++ v ∷ [] → v ≡ reference (found old) s.source s.body
    → ((q : List ℕ) → found old q ≡ ahead_in (drop (i + 1) ats) (drop (i + 1) ss) q)
    → reverse items ≡ references (drop (i + 1) ats) (drop (i + 1) ss)
    → reverse made ≡ references (drop i ats) (drop i ss)
unfolding references
more_references ats ss i a d s old items made v in_ats in_ss is_a is_s pushed value same rest =
    let ea = from_item ats i a d in_ats is_a in
    let es = from_item ss i s s in_ss is_s in
    let e : v ≡ reference (ahead_in (drop (i + 1) ats) (drop (i + 1) ss)) s.source s.body = value ∙ same_reference (found old) (ahead_in (drop (i + 1) ats) (drop (i + 1) ss)) s.source s.body same in
    ap reverse pushed
    ∙ (reverse-append items (v ∷ [])
    ∙ (ap (λ xs. v ∷ xs) rest
    ∙ (ap (λ x. x ∷ references (drop (i + 1) ats) (drop (i + 1) ss)) e
    ∙ (ap (λ xs. references xs (s ∷ drop (i + 1) ss)) (sym ea) ∙ ap (λ xs. references (drop i ats) xs) (sym es)))))

-- the references of what is left begin with the next statement's
pub next_reference : (c : Cursor) (ss : List StatementValue) (i : ℕ) (s : StatementValue) (left : List (Option ℕ)) → i < length ss → s ≡ get_or ss i s
    → left ≡ references (addresses c (drop i ss)) (drop i ss)
    → left ≡ reference (ahead_in (addresses (stepped_cursor c s.body) (drop (i + 1) ss)) (drop (i + 1) ss)) s.source s.body ∷ references (addresses (stepped_cursor c s.body) (drop (i + 1) ss)) (drop (i + 1) ss)
unfolding references addresses
next_reference c ss i s left below is e = e ∙ ap (λ xs. references (addresses c xs) xs) (from_item ss i s s below is)

-- a statement's local reference by the reference ahead that was found
pub local_is : (before : List Local) (next : Cursor) (after : List StatementValue) (source : ℕ) (b : BodyValue) (ahead local : Option ℕ)
    → ahead ≡ reference (ahead_in (addresses next after) after) source b → local ≡ local_by before ahead source b
    → local ≡ local_label_of before next after source b
local_is before next after source b ahead local found_ahead e =
    e ∙ (ap (λ a. local_by before a source b) (found_ahead ∙ same_reference (ahead_in (addresses next after) after) (ahead_of next after) source b (same_ahead next after))
    ∙ by_reference before next after source b)

-- the last of a list is the first of its reverse
pub last_first : (old new : List (Option ℕ)) (last first : Option ℕ) (rest : List (Option ℕ)) → old ≡ new ++ last ∷ [] → reverse old ≡ first ∷ rest → (last ≡ first) × (reverse new ≡ rest)
last_first old new last first rest e h =
    let same : last ∷ reverse new ≡ first ∷ rest = sym (reverse-append new (last ∷ [])) ∙ (sym (ap reverse e) ∙ h) in
    (cc, cc)

-- a list whose reverse has a first has a last
pub some_last : (old : List (Option ℕ)) (first : Option ℕ) (rest : List (Option ℕ)) → length old ≡ 0 → reverse old ≡ first ∷ rest → ⊥
some_last old first rest none h = omega (arith, none, length-reverse old, ap length h)

-- one address more
pub pushed_address : (c next : Cursor) (ss : List StatementValue) (i at : ℕ) (s : StatementValue) (items made all : List ℕ) → i < length ss → s ≡ get_or ss i s
    → at ≡ cursor_address c % 2 ^ 32 → made ≡ items ++ at ∷ [] → next ≡ stepped_cursor c s.body → items ++ addresses c (drop i ss) ≡ all → made ++ addresses next (drop (i + 1) ss) ≡ all
unfolding addresses
pushed_address c next ss i at s items made all below is here pushed stepped same =
    ap (λ xs. xs ++ addresses next (drop (i + 1) ss)) pushed
    ∙ (append_assoc items (at ∷ []) (addresses next (drop (i + 1) ss))
    ∙ (ap (λ a. items ++ a ∷ addresses next (drop (i + 1) ss)) here
    ∙ (ap (λ n. items ++ cursor_address c % 2 ^ 32 ∷ addresses n (drop (i + 1) ss)) stepped
    ∙ (ap (λ xs. items ++ addresses c xs) (sym (from_item ss i s s below is)) ∙ same))))

-- after all statements there is no label and no reference
pub no_labels : (ats : List ℕ) (ss : List StatementValue) (n : ℕ) (old : List Local) → length ats ≡ length ss → n ≡ length ss → old ≡ [] → (q : List ℕ) → found old q ≡ ahead_in (drop n ats) (drop n ss) q
unfolding found ahead_in
no_labels ats ss n old same all none q =
    ap (λ xs. found xs q) none ∙ ap (λ xs. ahead_in xs (drop n ss) q) (sym (drop_all n ats (omega arith)))

pub no_references : (ats : List ℕ) (ss : List StatementValue) (n : ℕ) (items : List (Option ℕ)) → length ats ≡ length ss → n ≡ length ss → items ≡ [] → reverse items ≡ references (drop n ats) (drop n ss)
unfolding references
no_references ats ss n items same all none =
    ap reverse none ∙ ap (λ xs. references xs (drop n ss)) (sym (drop_all n ats (omega arith)))

-- a statement's local reference by the last of the references that are left, and what is left then
pub local_here : (before : List Local) (c next : Cursor) (ss : List StatementValue) (i : ℕ) (s : StatementValue) (left less : List (Option ℕ)) (ahead local : Option ℕ)
    → i < length ss → s ≡ get_or ss i s → next ≡ stepped_cursor c s.body
    → left ≡ references (addresses c (drop i ss)) (drop i ss)
    → ((first : Option ℕ) (rest : List (Option ℕ)) → left ≡ first ∷ rest → (ahead ≡ first) × (less ≡ rest))
    → local ≡ local_by before ahead s.source s.body
    → (local ≡ local_label_of before next (drop (i + 1) ss) s.source s.body) × (less ≡ references (addresses next (drop (i + 1) ss)) (drop (i + 1) ss))
local_here before c next ss i s left less ahead local below is stepped same taken told =
    let rest = drop (i + 1) ss in
    let first = reference (ahead_in (addresses (stepped_cursor c s.body) rest) rest) s.source s.body in
    let t = taken first (references (addresses (stepped_cursor c s.body) rest) rest) (next_reference c ss i s left below is same) in (
      subst (λ (n : Cursor). local ≡ local_label_of before n rest s.source s.body) (sym stepped) (local_is before (stepped_cursor c s.body) rest s.source s.body ahead local t.0 told),
      subst (λ (n : Cursor). less ≡ references (addresses n rest) rest) (sym stepped) t.1,
    )
