-- Parts of a file at their places, and fields one behind the other.
use Rattle.std.proofs.Common.{◌≡◌, ℕ, ◌+◌, ◌^◌, ◌<◌, ◌≤◌, Bool, true, false, cond, List, [], ◌∷◌, ◌++◌, length, take, drop, refl, sym, ap, subst, ◌∙◌, arith, append_assoc, append-nil, length-append}
use Rattle.std.proofs.Math.Seq.{drop-append_seam, take-append_seam}
use Rattle.byteorder.specs.Endian.{little_number, little_bytes}
use Rattle.byteorder.specs.Numbers.{little_number-reads_back}
use Rattle.elf_write.specs.Field.{bytes_of_all}
use Rattle.elf_write.specs.declared.field.Field.{Field}
use Rattle.elf_write.specs.declared.field.Field.TheVariants.{Byte, Half, Word}
use Rattle.elf_laws.specs.Fields.{FieldRow, byte, half, word, Stands, AllStand, HasBytesAt}

pub record At (bytes : List ℕ) (place : ℕ) (part : List ℕ) : Type 0 where
  pub front : List ℕ
  pub back : List ℕ
  pub cut : bytes ≡ front ++ (part ++ back)
  pub here : length front ≡ place

pub all_at : (bytes : List ℕ) → At bytes 0 bytes
all_at bytes = record { front = []; back = []; cut = sym (append-nil bytes); here = refl }

pub left_at : (bytes : List ℕ) (place : ℕ) (xs ys : List ℕ) → At bytes place (xs ++ ys) → At bytes place xs
left_at bytes place xs ys a = record { front = a.front; back = ys ++ a.back; cut = a.cut ∙ ap (λ t. a.front ++ t) (append_assoc xs ys a.back); here = a.here }

pub right_at : (bytes : List ℕ) (place next : ℕ) (xs ys : List ℕ) → At bytes place (xs ++ ys) → place + length xs ≡ next → At bytes next ys
right_at bytes place next xs ys a e = record {
  front = a.front ++ xs;
  back = a.back;
  cut = a.cut ∙ (ap (λ t. a.front ++ t) (append_assoc xs ys a.back) ∙ sym (append_assoc a.front xs (ys ++ a.back)));
  here = length-append a.front xs ∙ (ap (λ n. n + length xs) a.here ∙ e);
}

behind : (bytes : List ℕ) (place : ℕ) (part : List ℕ) (a : At bytes place part) → drop place bytes ≡ part ++ a.back
behind bytes place part a = subst (λ n. drop n bytes ≡ part ++ a.back) a.here (ap (drop (length a.front)) a.cut ∙ drop-append_seam a.front (part ++ a.back))

pub held : (bytes : List ℕ) (place : ℕ) (part : List ℕ) → At bytes place part → HasBytesAt bytes place part
held bytes place part a = ap (take (length part)) (behind bytes place part a) ∙ take-append_seam part a.back

long : (bytes : List ℕ) (place : ℕ) (part : List ℕ) → At bytes place part → place + length part ≤ length bytes
long bytes place part a =
    let e : length bytes ≡ length a.front + (length part + length a.back) = ap length a.cut ∙ (length-append a.front (part ++ a.back) ∙ ap (λ n. length a.front + n) (length-append part a.back)) in
    let h = a.here in
    omega (arith, e, h)

-- ---- fields
abbrev pub Fits : Field → Type 0
Fits (Byte n) = n < 256
Fits (Half n) = n < 2 ^ 16
Fits (Word n) = n < 2 ^ 32

abbrev pub AllFit : List Field → Type 0
AllFit [] = Unit {0}
AllFit (f ∷ fs) = Fits f × AllFit fs

abbrev pub rows_of : ℕ → List Field → List FieldRow
rows_of offset [] = []
rows_of offset (Byte n ∷ fs) = byte offset n ∷ rows_of (offset + 1) fs
rows_of offset (Half n ∷ fs) = half offset n ∷ rows_of (offset + 2) fs
rows_of offset (Word n ∷ fs) = word offset n ∷ rows_of (offset + 4) fs

one : (bytes : List ℕ) (place n offset width : ℕ) (part : List ℕ) → length part ≡ width → ((back : List ℕ) → little_number width (part ++ back) ≡ n) → At bytes (place + offset) part
    → Stands bytes place (record { offset = offset; width = width; value = n })
one bytes place n offset width part sized reads a = record {
  within = subst (λ w. place + offset + w ≤ length bytes) sized (long bytes (place + offset) part a);
  is = ap (little_number width) (behind bytes (place + offset) part a) ∙ reads a.back;
}

next_place : (place offset width : ℕ) → place + offset + width ≡ place + (offset + width)
next_place place offset width = omega arith

byte_back : (n : ℕ) (back : List ℕ) → little_number 1 (n ∷ back) ≡ n
byte_back n back = omega arith

pub fields_stand : (bytes : List ℕ) (place offset : ℕ) (fs : List Field) → AllFit fs → At bytes (place + offset) (bytes_of_all fs) → AllStand bytes place (rows_of offset fs)
fields_stand bytes place offset [] fit a = tt
fields_stand bytes place offset (Byte n ∷ fs) fit a = (
  one bytes place n offset 1 (n ∷ []) refl (byte_back n) (left_at bytes (place + offset) (n ∷ []) (bytes_of_all fs) a),
  fields_stand bytes place (offset + 1) fs fit.1 (right_at bytes (place + offset) (place + (offset + 1)) (n ∷ []) (bytes_of_all fs) a (next_place place offset 1)),
)
fields_stand bytes place offset (Half n ∷ fs) fit a = (
  one bytes place n offset 2 (little_bytes 2 n) refl (λ back. little_number-reads_back 2 n back fit.0) (left_at bytes (place + offset) (little_bytes 2 n) (bytes_of_all fs) a),
  fields_stand bytes place (offset + 2) fs fit.1 (right_at bytes (place + offset) (place + (offset + 2)) (little_bytes 2 n) (bytes_of_all fs) a (next_place place offset 2)),
)
fields_stand bytes place offset (Word n ∷ fs) fit a = (
  one bytes place n offset 4 (little_bytes 4 n) refl (λ back. little_number-reads_back 4 n back fit.0) (left_at bytes (place + offset) (little_bytes 4 n) (bytes_of_all fs) a),
  fields_stand bytes place (offset + 4) fs fit.1 (right_at bytes (place + offset) (place + (offset + 4)) (little_bytes 4 n) (bytes_of_all fs) a (next_place place offset 4)),
)

no_way : (n : ℕ) → n + 0 ≡ n
no_way n = omega arith

pub header_stands : (bytes : List ℕ) (place : ℕ) (fs : List Field) → AllFit fs → At bytes place (bytes_of_all fs) → AllStand bytes place (rows_of 0 fs)
header_stands bytes place fs fit a = fields_stand bytes place 0 fs fit (subst (λ n. At bytes n (bytes_of_all fs)) (sym (no_way place)) a)

-- a header that may be missing
pub maybe_stands : (b : Bool) (bytes : List ℕ) (place : ℕ) (fs : List Field) → AllFit fs → At bytes place (cond b [] (bytes_of_all fs)) → AllStand bytes place (cond b [] (rows_of 0 fs))
maybe_stands true bytes place fs fit a = tt
maybe_stands false bytes place fs fit a = header_stands bytes place fs fit a
