-- The bytes of placed statements, in their sections.
use Rattle.std.proofs.Common.{◌≡◌, ℕ, ◌+◌, List, [], ◌∷◌, ◌++◌, length, Option, Result, Ok, Err, refl, sym, ap, ◌∙◌, arith, subst, cond, append_assoc, append-nil, length-append}
use Rattle.std.proofs.lemmas.List.Sums.{sum_by_push}
use Rattle.asm_statement.specs.Answer.{◌>>=◌}
use Rattle.asm_statement.specs.Statement.{StatementValue}
use Rattle.asm_statement.specs.declared.fault.Fault.{Fault}
use Rattle.asm_statement.specs.declared.fault.FaultKind.{FaultKind}
use Rattle.asm_statement.specs.declared.statement.Section.{Section}
use Rattle.asm_statement.specs.declared.statement.Section.TheVariants as sections
use Rattle.asm_assemble.specs.declared.cursor.Cursor.{Cursor}
use Rattle.asm_assemble.specs.Program.{SymbolList, ProgramValue}
use Rattle.asm_assemble.specs.Cursors.{cursor_address, size, stepped_cursor}
use Rattle.asm_assemble.specs.Locals.{Local, local_label_at, local_label_of}
use Rattle.asm_assemble.specs.Valuing.{Images, bytes_in, put_bytes, said_at, valuing}
use Rattle.asm_assemble.specs.Placed.{Standing, Bases, placed_base, is_same, taken_by, taken, Holds}
use Rattle.asm_assemble.proofs.PlacedCuts.{laid, stood, Each}
use Rattle.asm_assemble.proofs.PlacedAddresses.{IsBehind, behind_more}
use Rattle.asm_assemble.proofs.Sizes.{size_is}
use Rattle.asm_assemble.proofs.PlacedOperands.{AreLast, last_behind, body_bytes}

-- a statement with its bytes, and the phase goes on
pub record Said (r : Result (List ℕ) FaultKind) (next : List ℕ → Result Images Fault) (images : Images) : Type 0 where
  pub bytes : List ℕ
  pub was : r ≡ Ok bytes
  pub then : next bytes ≡ Ok images

pub said : (s : StatementValue) (r : Result (List ℕ) FaultKind) (next : List ℕ → Result Images Fault) (images : Images) → (said_at s r >>= next) ≡ Ok images
    → Said r next images
unfolding said_at
said s (Ok bytes) next images e = record { bytes = bytes; was = refl; then = e }
said s (Err kind) next images e = absurd cc

-- more bytes at the sections' ends
pub record Extends (done images : Images) : Type 0 where
  pub text_more : List ℕ
  pub data_more : List ℕ
  pub text_is : images.text_bytes ≡ done.text_bytes ++ text_more
  pub data_is : images.data_bytes ≡ done.data_bytes ++ data_more

abbrev goods : Images → Result Images Fault
goods images = Ok images

goods_are : (xs ys : Images) → goods xs ≡ goods ys → xs ≡ ys
goods_are xs ys e = cc

-- bytes that are put come before those that follow
behind_put : (section : Section) (done images : Images) (bytes : List ℕ) → Extends (put_bytes section done bytes) images → Extends done images
unfolding put_bytes
behind_put sections.Text done images bytes h =
    record { text_more = bytes ++ h.text_more; data_more = h.data_more; text_is = h.text_is ∙ append_assoc done.text_bytes bytes h.text_more; data_is = h.data_is }
behind_put sections.Data done images bytes h =
    record { text_more = h.text_more; data_more = bytes ++ h.data_more; text_is = h.text_is; data_is = h.data_is ∙ append_assoc done.data_bytes bytes h.data_more }
behind_put sections.Zeros done images bytes h = h

extends : (symbols : SymbolList) (locals : List Local) (done : Images) (c : Cursor) (ss : List StatementValue) (images : Images)
    → valuing symbols locals done c ss ≡ Ok images → Extends done images
unfolding valuing
extends symbols locals done c [] images e =
    let same : done ≡ images = goods_are done images e in
    record {
      text_more = [];
      data_more = [];
      text_is = sym (ap (λ (i : Images). i.text_bytes) same) ∙ sym (append-nil done.text_bytes);
      data_is = sym (ap (λ (i : Images). i.data_bytes) same) ∙ sym (append-nil done.data_bytes);
    }
extends symbols locals done c (s ∷ ss) images e =
    let next = stepped_cursor c s.body in
    let local = local_label_of locals next ss s.source s.body in
    let stepped_cursor = said s (bytes_in symbols local c.section (cursor_address c) s.body)
    (λ bytes. valuing symbols (local_label_at s.source (cursor_address c) s.body ++ locals) (put_bytes c.section done bytes) next ss) images e in
    behind_put c.section done images stepped_cursor.bytes
    (extends symbols (local_label_at s.source (cursor_address c) s.body ++ locals) (put_bytes c.section done stepped_cursor.bytes) next ss images stepped_cursor.then)

-- the sections have as many bytes as the statements done take there
pub record AreSized (done : List Standing) (images : Images) : Type 0 where
  pub text_sized : length images.text_bytes ≡ taken sections.Text done
  pub data_sized : length images.data_bytes ≡ taken sections.Data done

taken_more : (t q : Section) (done : List Standing) (s : Standing) → s.section ≡ q
    → taken t (done ++ s ∷ []) ≡ taken t done + cond (is_same q t) (size s.address s.statement.body) 0
taken_more t q done s e = sum_by_push (taken_by t) done s ∙ ap (λ q. taken t done + cond (is_same q t) (size s.address s.statement.body) 0) e

plus_none : (n : ℕ) → n ≡ n + 0
plus_none n = omega arith

pub sized_put : (symbols : SymbolList) (local : Option ℕ) (q : Section) (done : List Standing) (images : Images) (s : Standing) (bytes : List ℕ) → s.section ≡ q
    → AreSized done images → bytes_in symbols local q s.address s.statement.body ≡ Ok bytes → AreSized (done ++ s ∷ []) (put_bytes q images bytes)
unfolding bytes_in put_bytes
sized_put symbols local sections.Text done images s bytes is h e = record {
  text_sized = length-append images.text_bytes bytes ∙ (ap (λ n. n + length bytes) h.text_sized
      ∙ (ap (λ n. taken sections.Text done + n) (size_is symbols local sections.Text s.address s.statement.body bytes e) ∙ sym (taken_more sections.Text sections.Text done s is)));
  data_sized = h.data_sized ∙ (plus_none (taken sections.Data done) ∙ sym (taken_more sections.Data sections.Text done s is));
}
sized_put symbols local sections.Data done images s bytes is h e = record {
  text_sized = h.text_sized ∙ (plus_none (taken sections.Text done) ∙ sym (taken_more sections.Text sections.Data done s is));
  data_sized = length-append images.data_bytes bytes ∙ (ap (λ n. n + length bytes) h.data_sized
      ∙ (ap (λ n. taken sections.Data done + n) (size_is symbols local sections.Data s.address s.statement.body bytes e) ∙ sym (taken_more sections.Data sections.Data done s is)));
}
sized_put symbols local sections.Zeros done images s bytes is h e = record {
  text_sized = h.text_sized ∙ (plus_none (taken sections.Text done) ∙ sym (taken_more sections.Text sections.Zeros done s is));
  data_sized = h.data_sized ∙ (plus_none (taken sections.Data done) ∙ sym (taken_more sections.Data sections.Zeros done s is));
}

-- a program of valued sections
abbrev pub with_images : Images → ℕ → SymbolList → ℕ → ProgramValue
with_images images gap symbols entry =
    record { text = images.text_bytes; bytes = images.data_bytes; zeros = gap; symbols = symbols; entry = entry }

-- a statement's bytes are at its address
holds_at : (q : Section) (bases : Bases) (gap entry : ℕ) (symbols : SymbolList) (locals : List Local) (done : List Standing) (images all : Images) (next : Cursor) (s : Standing)
    (after : List StatementValue) (bytes : List ℕ) → AreLast locals done → AreSized done images → s.address ≡ placed_base q bases + taken q done
    → bytes_in symbols (local_label_of locals next after s.statement.source s.statement.body) q s.address s.statement.body ≡ Ok bytes
    → Extends (put_bytes q images bytes) all → Holds q bases (with_images all gap symbols entry) done s (laid next after)
unfolding bytes_in put_bytes
holds_at sections.Text bases gap entry symbols locals done images all next s after bytes last sized at e more = record {
  bytes = bytes;
  valued = body_bytes symbols locals done next after sections.Text s s.statement.body bytes last e;
  sized = size_is symbols (local_label_of locals next after s.statement.source s.statement.body) sections.Text s.address s.statement.body bytes e;
  front = images.text_bytes;
  back = more.text_more;
  cut = more.text_is ∙ append_assoc images.text_bytes bytes more.text_more;
  at_address = ap (λ n. bases.text_base + n) sized.text_sized ∙ sym at;
}
holds_at sections.Data bases gap entry symbols locals done images all next s after bytes last sized at e more = record {
  bytes = bytes;
  valued = body_bytes symbols locals done next after sections.Data s s.statement.body bytes last e;
  sized = size_is symbols (local_label_of locals next after s.statement.source s.statement.body) sections.Data s.address s.statement.body bytes e;
  front = images.data_bytes;
  back = more.data_more;
  cut = more.data_is ∙ append_assoc images.data_bytes bytes more.data_more;
  at_address = ap (λ n. bases.data_base + n) sized.data_sized ∙ sym at;
}
holds_at sections.Zeros bases gap entry symbols locals done images all next s after bytes last sized at e more = tt

-- all statements' bytes are at their addresses
pub all_hold : (bases : Bases) (gap entry : ℕ) (symbols : SymbolList) (locals : List Local) (done : List Standing) (images all : Images) (c : Cursor) (ss : List StatementValue)
    → AreLast locals done → AreSized done images → IsBehind bases done c → valuing symbols locals images c ss ≡ Ok all
    → Each (λ before s after. Holds s.section bases (with_images all gap symbols entry) before s after) done (laid c ss)
unfolding laid Each valuing cursor_address
all_hold bases gap entry symbols locals done images all c [] last sized behind e = tt
all_hold bases gap entry symbols locals done images all c (s ∷ ss) last sized behind e =
    let next = stepped_cursor c s.body in
    let local = local_label_of locals next ss s.source s.body in
    let labels = local_label_at s.source (cursor_address c) s.body ++ locals in
    let stepped_cursor = said s (bytes_in symbols local c.section (cursor_address c) s.body) (λ bytes. valuing symbols labels (put_bytes c.section images bytes) next ss) all e in (
      holds_at c.section bases gap entry symbols locals done images all next (stood c s) ss stepped_cursor.bytes last sized (behind.at_end c.section) stepped_cursor.was
          (extends symbols labels (put_bytes c.section images stepped_cursor.bytes) next ss all stepped_cursor.then),
      all_hold bases gap entry symbols labels (done ++ stood c s ∷ []) (put_bytes c.section images stepped_cursor.bytes) all next ss
          (last_behind locals done c s last) (sized_put symbols local c.section done images (stood c s) stepped_cursor.bytes refl sized stepped_cursor.was) (behind_more bases done c s behind) stepped_cursor.then,
    )

-- the sections have no other bytes
pub all_sized : (symbols : SymbolList) (locals : List Local) (done : List Standing) (images all : Images) (c : Cursor) (ss : List StatementValue)
    → AreSized done images → valuing symbols locals images c ss ≡ Ok all → AreSized (done ++ laid c ss) all
unfolding laid valuing
all_sized symbols locals done images all c [] sized e =
    subst (λ d. AreSized d all) (sym (append-nil done)) (subst (λ i. AreSized done i) (goods_are images all e) sized)
all_sized symbols locals done images all c (s ∷ ss) sized e =
    let next = stepped_cursor c s.body in
    let local = local_label_of locals next ss s.source s.body in
    let labels = local_label_at s.source (cursor_address c) s.body ++ locals in
    let stepped_cursor = said s (bytes_in symbols local c.section (cursor_address c) s.body) (λ bytes. valuing symbols labels (put_bytes c.section images bytes) next ss) all e in
    subst (λ d. AreSized d all) (append_assoc done (stood c s ∷ []) (laid next ss))
    (all_sized symbols labels (done ++ stood c s ∷ []) (put_bytes c.section images stepped_cursor.bytes) all next ss
    (sized_put symbols local c.section done images (stood c s) stepped_cursor.bytes refl sized stepped_cursor.was) stepped_cursor.then)
